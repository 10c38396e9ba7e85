-- What calls, functions and literals need of stores: sites that stay sound, and items of a kind.
use Rattle.std.proofs.Common.{◌≡◌, ◌⊎◌, ℕ, zero, suc, ◌<◌, ◌≤◌, min, List, [], ◌∷◌, ◌++◌, drop, length, Some, None, Ok, Err, refl, sym, ap, inl, inr, arith}
use Rattle.std.specs.Prelude.{slice_get, slice_index_or, IfSome}
use Rattle.std.proofs.Math.ListN.{drop_of_length-le}
use Rattle.std.proofs.Math.Seq.{drop-cons}
use Rattle.std.proofs.lemmas.Bool.{cases_lt}
use Rattle.std.proofs.lemmas.List.Elements.{All-append}
use Rattle.std.specs.List.{All}
use Rattle.std.proofs.lemmas.Option.{get_or_from_slice_get, unwrap_or-slice_get}
use Rattle.std.specs.Option.{unwrap_or}
use Rattle.charged_heap.specs.Store.{Store, IsAt, IsArray, IsPlain, IsScope, item_at, kind_of}
use Rattle.charged_heap.specs.Closed.{IsHeld, IsSound, IsSoundValue}
use Rattle.charged_heap.specs.Growth.{Grows}
use Rattle.charged_heap.specs.declared.fault.Fail.{Fail}
use Rattle.charged_heap.specs.declared.item.Item.{Item}
use Rattle.charged_heap.specs.declared.item.Item.TheVariants as item
use Rattle.charged_heap.specs.declared.item.ItemKind.{ItemKind}
use Rattle.charged_heap.specs.declared.item.ItemKind.TheVariants as kind
use Rattle.charged_heap.specs.declared.values.Value.{Value}
use Rattle.charged_heap.specs.declared.values.Value.TheVariants as value
use Rattle.charged_heap.proofs.GrowthLaws.{at_grows}
use Rattle.charged_heap.proofs.ClosedLaws.{value_grows}
use Rattle.js_members.specs.Arrays.{array_number, pushed, pushed_at, push_outcome}
use Rattle.js_syntax.specs.Tree.{Trees, nothing, tree}
use Rattle.js_ops.specs.Outcome.{value_made}
use Rattle.js_trees.specs.Tree.{Tree, kid, kid_count, kids_from}
use Rattle.js_trees.proofs.PartLemmas.{kids_from-at, kids_from-past}
use Rattle.charged_heap.specs.Ends.{item_made}
use Rattle.script_meaning.specs.Outcome.{State, Inside, gives}
use Rattle.script_meaning.specs.Places.{ScriptList, form_at}
use Rattle.script_meaning.specs.Expressions.{elements_rule, properties_rule, arguments_rule, function_by, function_rule}
use Rattle.script_meaning.specs.Functions.{call_rule, item_call}
use Rattle.script_meaning.specs.declared.site.Role.TheVariants as role
use Rattle.script_meaning.specs.declared.site.Site.{Site}
use Rattle.script_steps.specs.After.{after, Waits}
use Rattle.script_steps.specs.Called.{closure_of, called_as}
use Rattle.script_steps.specs.Sound.{IsSoundCall, IsSoundSite}
use Rattle.script_steps.specs.declared.frame.Frame.TheVariants as frame
use Rattle.script_steps.specs.declared.frame.Step.{Step}
use Rattle.script_steps.specs.declared.frame.Step.TheVariants.{Into}

-- ---- kinds

array_is_held : (one : ItemKind) → IsArray one → IsHeld one
array_is_held kind.Array is = tt
array_is_held _ is = absurd is

pub array_held : (s : Store) (n : ℕ) → IsAt IsArray s n → IsAt IsHeld s n
array_held s n at = record { there = at.there; fits = array_is_held (kind_of (item_at s n)) at.fits }

plain_is_held : (one : ItemKind) → IsPlain one → IsHeld one
plain_is_held kind.Plain is = tt
plain_is_held _ is = absurd is

pub plain_held : (s : Store) (n : ℕ) → IsAt IsPlain s n → IsAt IsHeld s n
plain_held s n at = record { there = at.there; fits = plain_is_held (kind_of (item_at s n)) at.fits }

-- ---- sites that stay sound

-- in another scope, of a store that has grown
pub site_in : (s t : Store) (site : Site) (scope : ℕ) → Grows s t → IsSoundSite s site → IsAt IsScope t scope
    → IsSoundSite t (record site { scope = scope })
site_in s t site scope grows sound at = record {
  scope = at;
  global = at_grows s t site.global grows sound.global;
  receiver = value_grows s t site.receiver grows sound.receiver;
}

-- with another receiver
pub site_with : (s : Store) (site : Site) (receiver : Value) → IsSoundSite s site → IsSoundValue s receiver
    → IsSoundSite s (record site { receiver = receiver })
site_with s site receiver sound one = record { scope = sound.scope; global = sound.global; receiver = one }

only : (s : Store) (v : Value) → IsSoundValue s v → All (IsSoundValue s) (v ∷ [])
only s v sound = λ k d within. by k d within
  where
    by : (k : ℕ) (d : Value) → k < 1 → IsSoundValue s (slice_index_or (v ∷ []) k d)
    by zero d within = sound
    by (suc k) d within = absurd (omega (arith, within))

-- a call with one argument more
pub with_argument : (s : Store) (function receiver : Value) (values : List Value) (site : Site) (v : Value)
    → IsSoundCall s function receiver values site → IsSoundValue s v → IsSoundCall s function receiver (values ++ v ∷ []) site
with_argument s function receiver values site v sound one = record {
  called = sound.called;
  given = sound.given;
  before = All-append (IsSoundValue s) values (v ∷ []) sound.before (only s v one);
  at = sound.at;
}

-- ---- arrays

is_array_number : (n : ℕ) (one : Item) → IsArray (kind_of one) → array_number n one ≡ Some n
is_array_number n (item.Array values) is = refl
is_array_number n _ is = absurd is

-- `push` of an array adds to that array
pub push_is : (s : Store) (n : ℕ) (values : List Value) → IsAt IsArray s n → push_outcome (value.Item n) values s ≡ pushed n values s
unfolding push_outcome
push_is s n values at = ap (λ found. pushed_at found values s) (is_array_number n (item_at s n) at.fits)

-- ---- items that are made

-- a new item's number, as the value that stands for it
pub made_value : (one : Item) (s t : Store) (n : ℕ) → item_made one s ≡ (Ok n, t)
    → value_made one s ≡ (Ok (value.Item n), t)
made_value one s t n is = grind arith

pub made_refused : (one : Item) (s t : Store) (fail : Fail) → item_made one s ≡ (Err fail, t)
    → value_made one s ≡ (Err fail, t)
made_refused one s t fail is = grind arith

-- ---- parts that are evaluated in order

-- at the element with that place, an array waits for it
pub element_begins : (scripts : ScriptList) (step : Step) (node place element array : ℕ) (site : Site)
    → place < kid_count (form_at scripts site.script node).kids
    → form_at scripts site.script element ≡ kid place (form_at scripts site.script node).kids
    → step ≡ Into (frame.Element node place array site) (record { role = role.Value; node = element; site = site })
    → Waits scripts step (λ at s. elements_rule at array (kids_from place (form_at scripts site.script node).kids) site s)
unfolding after elements_rule
element_begins scripts step node place element array site within is waits =
    λ at s. rw (waits, kids_from-at place (form_at scripts site.script node).kids within, is) refl

-- so with a property
pub property_begins : (scripts : ScriptList) (step : Step) (node place part object : ℕ) (site : Site)
    → place < kid_count (form_at scripts site.script node).kids
    → place < length (form_at scripts site.script node).head.names
    → form_at scripts site.script part ≡ kid place (form_at scripts site.script node).kids
    → step ≡ Into (frame.Property node place object site) (record { role = role.Value; node = part; site = site })
    → Waits scripts step (λ at s. properties_rule at object (drop place (form_at scripts site.script node).head.names) (kids_from place (form_at scripts site.script node).kids) site s)
unfolding after properties_rule
property_begins scripts step node place part object site within named is waits =
    λ at s. rw (waits, kids_from-at place (form_at scripts site.script node).kids within, drop-cons (form_at scripts site.script node).head.names place [] named, is) refl

unnamed : (at : Inside) (object : ℕ) (kids : Trees) (site : Site) (s : State) → properties_rule at object [] kids site s ≡ gives (value.Item object) s
unfolding properties_rule
unnamed at object nothing site s = refl
unnamed at object (tree head kids rest) site s = refl

-- where the parts or their names are at their end, the object is done
pub properties_end : (at : Inside) (object place : ℕ) (names : List (List ℕ)) (kids : Trees) (site : Site) (s : State)
    → min (kid_count kids) (length names) ≤ place → properties_rule at object (drop place names) (kids_from place kids) site s ≡ gives (value.Item object) s
unfolding properties_rule
properties_end at object place names kids site s past = by (cases_lt place (kid_count kids))
  where
    by : (place < kid_count kids) ⊎ (kid_count kids ≤ place)
        → properties_rule at object (drop place names) (kids_from place kids) site s ≡ gives (value.Item object) s
    by (inl within) =
        let few : length names ≤ place = omega arith in
        rw (drop_of_length-le names few) (unnamed at object (kids_from place kids) site s)
    by (inr out) = rw (kids_from-past place kids out) refl

pub properties_ended : (at : Inside) (object place : ℕ) (names : List (List ℕ)) (kids : Trees) (site : Site) (s : State)
    → min (kid_count kids) (length names) ≤ place → properties_rule at object (drop (suc place) names) (kids_from (suc place) kids) site s ≡ gives (value.Item object) s
properties_ended at object place names kids site s past =
    let further : min (kid_count kids) (length names) ≤ suc place = omega arith in
    properties_end at object (suc place) names kids site s further

-- so with an argument of a call
pub argument_begins : (scripts : ScriptList) (step : Step) (node place part : ℕ) (function receiver : Value) (values : List Value) (site : Site)
    → place < kid_count (form_at scripts site.script node).kids
    → form_at scripts site.script part ≡ kid place (form_at scripts site.script node).kids
    → step ≡ Into (frame.Argument node place function receiver values site) (record { role = role.Value; node = part; site = site })
    → Waits scripts step (λ at s. arguments_rule at (kids_from place (form_at scripts site.script node).kids) site values
    (λ arguments s. call_rule at scripts function receiver arguments s) s)
unfolding after arguments_rule
argument_begins scripts step node place part function receiver values site within is waits =
    λ at s. rw (waits, kids_from-at place (form_at scripts site.script node).kids within, is) refl

-- ---- names

pub name_there : (names : List (List ℕ)) (place : ℕ) (name : List ℕ) → slice_get names place ≡ Some name → slice_index_or names place [] ≡ name
name_there names place name is = get_or_from_slice_get names place name [] is

pub name_missing : (names : List (List ℕ)) (place : ℕ) → slice_get names place ≡ None → slice_index_or names place [] ≡ []
name_missing names place none =
    let e : unwrap_or (slice_get names place) [] ≡ slice_index_or names place [] = unwrap_or-slice_get names place [] in rw none at (sym e)

-- ---- functions

-- the place where a function of a closed store was made is sound
pub closure_sound : (s : Store) (n : ℕ) (one : Item) → IsSound s n one → IfSome (closure_of one) (λ made. IsSoundSite s made.1)
closure_sound s n (item.Closure script node scope global receiver) sound =
    record { scope = sound.in_scope; global = sound.of_global; receiver = sound.with_receiver }
closure_sound s n _ sound = tt

-- a function expression with a name of its own, and without
pub function_named : (t : Tree) (name : List ℕ) (node : ℕ) (site : Site) (s : State)
    → Some name ≡ t.head.name → t.head.number_of_node ≡ node → function_rule t site s ≡ function_by (Some name) node site s
unfolding function_rule
function_named t name node site s named itself = rw (← named, itself) refl

pub function_unnamed : (t : Tree) (node : ℕ) (site : Site) (s : State)
    → None ≡ t.head.name → t.head.number_of_node ≡ node → function_rule t site s ≡ function_by None node site s
unfolding function_rule
function_unnamed t node site s unnamed itself = rw (← unnamed, itself) refl

-- a call of an item is that of the closure that it is, if it is one
pub item_called : (at : Inside) (scripts : ScriptList) (one : Item) (receiver : Value) (arguments : List Value) (s : State)
    → item_call at scripts one receiver arguments s ≡ called_as at scripts (closure_of one) receiver arguments s
item_called at scripts (item.Closure script node scope global kept) receiver arguments s = refl
item_called at scripts _ receiver arguments s = refl
