-- What a cell holds stays closed as its store grows, and what its numbers name is there.
use Rattle.std.proofs.Common.{◌≡◌, ℕ, ◌<◌, ◌-◌, ◌+◌, List, [], ◌∷◌, ◌++◌, length, Option, Some, None, Ok, Err, refl, arith, subst, sym, ap}
use Rattle.std.specs.Prelude.{slice_index_or, IfSome}
use Rattle.std.specs.List.{All}
use Rattle.std.proofs.lemmas.List.Elements.{All-nil, All-cons, All-append}
use Rattle.std.proofs.lemmas.Map.Entries.{All-lookup}
use Rattle.ivm_text.specs.Keys.{is_key}
use Rattle.ivm_text.specs.declared.copies.ErrorKind.{ErrorKind}
use Rattle.ivm_text.specs.declared.copies.Leaf.{Leaf}
use Rattle.ivm_text.specs.declared.copies.Leaf.TheVariants as leaf
use Rattle.ivm_text.specs.declared.copies.Passed.{Passed}
use Rattle.ivm_text.specs.declared.copies.Passed.TheVariants as passed
use Rattle.charged_heap.specs.Closed.{IsClosed as IsClosedStore, IsSound, IsSoundValue}
use Rattle.charged_heap.specs.Ends.{Ends, and_then}
use Rattle.charged_heap.specs.Growth.{Grows}
use Rattle.charged_heap.specs.Store.{Store, IsAt, item_at, kind_of}
use Rattle.charged_heap.specs.declared.fault.Fail.{Fail}
use Rattle.charged_heap.specs.declared.item.Item.{Item}
use Rattle.charged_heap.specs.declared.item.Item.TheVariants as item
use Rattle.charged_heap.specs.declared.item.ItemKind.{ItemKind}
use Rattle.charged_heap.specs.declared.values.Value.{Value}
use Rattle.charged_heap.specs.declared.values.Value.TheVariants as value
use Rattle.charged_heap.proofs.GrowthLaws.{grows-refl, grows_then, at_grows}
use Rattle.charged_heap.proofs.ClosedLaws.{value_grows}
use Rattle.script_eval.proofs.Roots.{global_held}
use Rattle.script_meaning.specs.Places.{ScriptList}
use Rattle.isolate_meaning.specs.State.{Context, Contents, AreClosed, IsClosedContext, IsRow}
use Rattle.isolate_meaning.specs.Tasks.{context_at, no_context, own_property_in, row_value_in}
use Rattle.isolate_meaning.specs.Values.{passed_value, value_of}

-- ---- growing

context_grows : (s t : Store) (context : Context) → Grows s t → IsClosedContext s context → IsClosedContext t context
context_grows s t context grows closed = record {
  names = at_grows s t context.names grows closed.names;
  global = at_grows s t context.global grows closed.global;
}

-- the contents over a store that has grown
pub contents_grow : (s t : Store) (contexts : List Context) (scripts later : ScriptList) (rows : List ℕ) → Grows s t → IsClosedStore t
    → AreClosed (record { store = s; contexts = contexts; scripts = scripts; rows = rows })
    → AreClosed (record { store = t; contexts = contexts; scripts = later; rows = rows })
contents_grow s t contexts scripts later rows grows closed before = record {
  store = closed;
  contexts = λ k d within. context_grows s t (slice_index_or contexts k d) grows (before.contexts k d within);
  rows = λ k d within. at_grows s t (slice_index_or rows k d) grows (before.rows k d within);
}

-- and with one more context, whose global object has a row
pub context_joins : (s t : Store) (contexts later : List Context) (scripts : ScriptList) (rows others : List ℕ) (context : Context) (row : ℕ)
    → later ≡ contexts ++ context ∷ [] → others ≡ rows ++ row ∷ [] → Grows s t → IsClosedStore t
    → IsClosedContext t context → IsAt IsRow t row
    → AreClosed (record { store = s; contexts = contexts; scripts = scripts; rows = rows })
    → AreClosed (record { store = t; contexts = later; scripts = scripts; rows = others })
context_joins s t contexts later scripts rows others context row added listed grows closed there held before =
    let still : AreClosed (record { store = t; contexts = contexts; scripts = scripts; rows = rows }) =
    contents_grow s t contexts scripts scripts rows grows closed before
    in record {
      store = closed;
      contexts = subst (All (IsClosedContext t)) (sym added)
          (All-append (IsClosedContext t) contexts (context ∷ []) still.contexts (All-cons (IsClosedContext t) context [] there (All-nil (IsClosedContext t))));
      rows = subst (All (IsAt IsRow t)) (sym listed)
          (All-append (IsAt IsRow t) rows (row ∷ []) still.rows (All-cons (IsAt IsRow t) row [] held (All-nil (IsAt IsRow t))));
    }

-- ---- what is there

-- an item that was made, and is of its own kind
pub made_there : (wanted : ItemKind → Type 0) (s : Store) (n : ℕ) (one : Item) → n < length s.items → item_at s n ≡ one → wanted (kind_of one) → IsAt wanted s n
made_there wanted s n one there is fits = record { there = there; fits = subst (λ (found : Item). wanted (kind_of found)) (sym is) fits }

-- the names and the global object of a context
pub context_there : (contents : Contents) (n : ℕ) → AreClosed contents → n < length contents.contexts → IsClosedContext contents.store (context_at contents n)
context_there contents n closed within = closed.contexts n no_context within

-- the item of a row
pub row_there : (contents : Contents) (row : ℕ) → AreClosed contents → row < length contents.rows → IsAt IsRow contents.store (slice_index_or contents.rows row 0)
row_there contents row closed within = closed.rows row 0 within

-- what a row holds is a value that a script can hold
pub row_sound : (s : Store) (n : ℕ) (v : Value) → IsClosedStore s → IsAt IsRow s n → item_at s n ≡ item.Row v → IsSoundValue s v
row_sound s n v closed at is =
    let sound : IsSound s n (item.Row v) = subst (IsSound s n) is (closed.sound n at.there) in sound

property_of_item : (s : Store) (n : ℕ) (one : Item) (key : List ℕ) → IsSound s n one → IfSome (own_property_in one key) (IsSoundValue s)
property_of_item s n (item.Plain props) key sound = All-lookup (IsSoundValue s) (is_key key) props sound
property_of_item s n _ key sound = tt

-- so is what is found at a key of one
pub found_sound : (s : Store) (v : Value) (n : ℕ) (key : List ℕ) (found : Option Value) → IsClosedStore s → IsSoundValue s v → v ≡ value.Item n
    → found ≡ own_property_in (item_at s n) key → IfSome found (IsSoundValue s)
found_sound s v n key found closed sound is at =
    let held : IsSoundValue s (value.Item n) = subst (IsSoundValue s) is sound in
    subst (λ one. IfSome one (IsSoundValue s)) (sym at) (property_of_item s n (item_at s n) key (closed.sound n held.there))

-- the message of an error
pub message_there : (s : Store) (n : ℕ) (sort : ErrorKind) (message : ℕ) → IsClosedStore s → n < length s.items → item_at s n ≡ item.Error sort message → message < length s.items
message_there s n sort message closed within is =
    let sound : IsSound s n (item.Error sort message) = subst (IsSound s n) is (closed.sound n within) in sound.there

leaf_sound : (s : Store) (root : Leaf) → IfSome (value_of root) (IsSoundValue s)
leaf_sound s leaf.Undefined = tt
leaf_sound s leaf.Null = tt
leaf_sound s (leaf.Bool b) = tt
leaf_sound s (leaf.Num n) = tt
leaf_sound s (leaf.Node n) = tt

passes_sound : (s : Store) (p : Passed) → IfSome (passed_value p) (IsSoundValue s)
passes_sound s (passed.Copy copy) = leaf_sound s copy.root
passes_sound s (passed.External copy) = tt
passes_sound s (passed.Ref handle) = tt
passes_sound s (passed.Deref handle) = tt
passes_sound s (passed.Callback number) = tt

-- what passes into an isolate is a primitive there
pub passed_sound : (s : Store) (p : Passed) (v : Value) → passed_value p ≡ Some v → IsSoundValue s v
passed_sound s p v is = subst (λ o. IfSome o (IsSoundValue s)) is (passes_sound s p)

-- ---- one call after another

-- it goes on with what was given
pub then_given : {A B : Type 0} (ends : Ends A) (a : A) (s : Store) (next : A → Store → Ends B) → ends ≡ (Ok a, s) → and_then ends next ≡ next a s
then_given {A} ends a s next is = ap (λ (e : Ends A). and_then e next) is

-- or it ends as it was refused
pub then_refused : {A B : Type 0} (ends : Ends A) (failed : Fail) (s : Store) (next : A → Store → Ends B) → ends ≡ (Err failed, s) → and_then ends next ≡ (Err failed, s)
then_refused {A} ends failed s next is = ap (λ (e : Ends A). and_then e next) is

pub ruleset sequences = (then_given, then_refused)

pub ruleset growing = (grows_then, grows-refl, at_grows, value_grows, global_held)

pub ruleset contents = (contents_grow, context_joins, context_there)
