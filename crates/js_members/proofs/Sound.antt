-- What a key reads in a closed store is a value that a script can hold.
use Rattle.std.proofs.Common.{◌≡◌, ℕ, List, Option, Some, None, refl, subst}
use Rattle.std.specs.Prelude.{slice_get, IfSome}
use Rattle.std.specs.List.{All}
use Rattle.std.proofs.lemmas.Option.{slice_get_within, get_or_from_slice_get}
use Rattle.std.proofs.lemmas.Map.Entries.{All-lookup}
use Rattle.ivm_text.specs.Keys.{is_key, value_at}
use Rattle.ivm_text.specs.KeyOrder.{index_of}
use Rattle.ivm_text.specs.declared.copies.ErrorKind.{ErrorKind}
use Rattle.charged_heap.specs.Store.{Store, IsAt, IsText, item_at, kind_of}
use Rattle.charged_heap.specs.Closed.{IsClosed, IsHeld, IsSound, IsSoundValue}
use Rattle.charged_heap.specs.declared.item.Item.{Item}
use Rattle.charged_heap.specs.declared.item.Item.TheVariants as item
use Rattle.charged_heap.specs.declared.item.ItemKind.{ItemKind}
use Rattle.charged_heap.specs.declared.item.ItemKind.TheVariants as kind
use Rattle.charged_heap.specs.declared.values.Value.{Value}
use Rattle.charged_heap.specs.declared.values.Value.TheVariants as value
use Rattle.js_members.specs.declared.names.MemberName.{MemberName}
use Rattle.js_members.specs.declared.names.MemberName.TheVariants.{Length, Push, Pop, Name, Message}
use Rattle.js_members.specs.Reads.{member_name, or_undefined, array_member, array_reading, unit_reading, text_member, text_reading, error_member, item_reading, reading_of, IsSoundReading}

-- what holds of all values holds of the one at a place
pub all_at : (P : Value → Type 0) (values : List Value) (k : ℕ) (v : Value) → All P values → slice_get values k ≡ Some v → P v
all_at P values k v all is =
    subst P (get_or_from_slice_get values k v v is) (all k v (slice_get_within values k v is))

text_is_held : (one : ItemKind) → IsText one → IsHeld one
text_is_held kind.Text is = tt
text_is_held _ is = absurd is

or_undefined_sound : (s : Store) (v : Option Value) → ((one : Value) → v ≡ Some one → IsSoundValue s one) → IsSoundReading s (or_undefined v)
or_undefined_sound s (Some v) sound = sound v refl
or_undefined_sound s None sound = tt

array_member_sound : (s : Store) (values : List Value) (name : Option MemberName) → IsSoundReading s (array_member values name)
array_member_sound s values (Some Length) = tt
array_member_sound s values (Some Push) = tt
array_member_sound s values (Some Pop) = tt
array_member_sound s values (Some Name) = tt
array_member_sound s values (Some Message) = tt
array_member_sound s values None = tt

array_sound : (s : Store) (values : List Value) (index : Option ℕ) (name : Option MemberName)
    → All (IsSoundValue s) values → IsSoundReading s (array_reading values index name)
array_sound s values (Some k) name all =
    or_undefined_sound s (slice_get values k) (λ v is. all_at (IsSoundValue s) values k v all is)
array_sound s values None name all = array_member_sound s values name

text_member_sound : (s : Store) (units : List ℕ) (name : Option MemberName) → IsSoundReading s (text_member units name)
text_member_sound s units (Some Length) = tt
text_member_sound s units (Some Push) = tt
text_member_sound s units (Some Pop) = tt
text_member_sound s units (Some Name) = tt
text_member_sound s units (Some Message) = tt
text_member_sound s units None = tt

unit_sound : (s : Store) (unit : Option ℕ) → IsSoundReading s (unit_reading unit)
unit_sound s (Some unit) = tt
unit_sound s None = tt

text_sound : (s : Store) (units : List ℕ) (index : Option ℕ) (name : Option MemberName) → IsSoundReading s (text_reading units index name)
text_sound s units (Some k) name = unit_sound s (slice_get units k)
text_sound s units None name = text_member_sound s units name

error_sound : (s : Store) (sort : ErrorKind) (message : ℕ) (name : Option MemberName)
    → IsAt IsText s message → IsSoundReading s (error_member sort message name)
error_sound s sort message (Some Length) at = tt
error_sound s sort message (Some Push) at = tt
error_sound s sort message (Some Pop) at = tt
error_sound s sort message (Some Name) at = tt
error_sound s sort message (Some Message) at =
    record { there = at.there; fits = text_is_held (kind_of (item_at s message)) at.fits }
error_sound s sort message None at = tt

property_sound : (s : Store) (v : Option Value) → IfSome v (IsSoundValue s) → IsSoundReading s (or_undefined v)
property_sound s (Some v) sound = sound
property_sound s None sound = tt

item_sound : (s : Store) (n : ℕ) (one : Item) (key : List ℕ) → IsSound s n one → IsSoundReading s (item_reading one key)
item_sound s n (item.Text units) key sound = text_sound s units (index_of key) (member_name key)
item_sound s n (item.Plain props) key sound = property_sound s (value_at props key) (All-lookup (IsSoundValue s) (is_key key) props sound)
item_sound s n (item.Array values) key sound = array_sound s values (index_of key) (member_name key) sound
item_sound s n (item.Error sort message) key sound = error_sound s sort message (member_name key) sound
item_sound s n _ key sound = tt

pub reading_sound : (s : Store) (base : Value) (key : List ℕ) → IsClosed s → IsSoundValue s base → IsSoundReading s (reading_of s base key)
unfolding reading_of
reading_sound s (value.Item n) key closed sound = item_sound s n (item_at s n) key (closed.sound n sound.there)
reading_sound s _ key closed sound = tt
