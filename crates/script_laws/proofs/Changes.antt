-- One change of a store after another, each of which keeps its functions those of their scripts.
use Rattle.std.proofs.Common.{◌≡◌, ℕ, zero, suc, ◌+◌, ◌<◌, List, [], ◌∷◌, ◌++◌, length, Bool, true, false, Option, Some, None, Result, Ok, Err, arith, if◌then◌else◌}
use Rattle.std.specs.Prelude.{nat_le, slice_index_or, slice_set}
use Rattle.charged_heap.specs.Ends.{Ends, and_then, item_made}
use Rattle.charged_heap.specs.Price.{charge_of, price_of}
use Rattle.charged_heap.specs.Room.{overrun_of}
use Rattle.charged_heap.specs.Store.{Store, item_at, with_more, with_item, with_property, with_elements, with_place, with_binding, with_function}
use Rattle.charged_heap.specs.declared.fault.Fail.{Fail}
use Rattle.charged_heap.specs.declared.fault.Fail.TheVariants.{Over}
use Rattle.charged_heap.specs.declared.item.Item.{Item}
use Rattle.charged_heap.specs.declared.item.Item.TheVariants as item
use Rattle.charged_heap.specs.declared.values.Binding.{Binding}
use Rattle.charged_heap.specs.declared.values.Value.{Value}
use Rattle.js_trees.specs.declared.declaration.Declaration.{Declaration}
use Rattle.js_trees.specs.declared.declaration.Declaration.TheVariants as declaration
use Rattle.script_meaning.specs.Places.{ScriptList}
use Rattle.script_laws.specs.Scripts.{ScriptsAreThere, IsFunctionAt, ItsScriptIsThere}

-- the functions that a list declares are functions of this script
abbrev pub AreDeclared : ScriptList → ℕ → List Declaration → Type 0
AreDeclared b script [] = Unit {0}
AreDeclared b script (declaration.Variable name ∷ more) = AreDeclared b script more
AreDeclared b script (declaration.Constant name ∷ more) = AreDeclared b script more
AreDeclared b script (declaration.Function name node ∷ more) = IsFunctionAt b script node × AreDeclared b script more

-- what holds of the functions of one store holds of another's
abbrev pub Stays : ScriptList → Store → Store → Type 0
Stays b old new = ScriptsAreThere b old → ScriptsAreThere b new

abbrev pub Keeps : {A : Type 0} → ScriptList → Store → Ends A → Type 0
Keeps b s made = ScriptsAreThere b s → ScriptsAreThere b made.1

-- ---- one change after another

pub stays : (b : ScriptList) (s : Store) → Stays b s s
stays b s are = are

pub stays-then : (b : ScriptList) (s t u : Store) → Stays b s t → Stays b t u → Stays b s u
stays-then b s t u one more are = more (one are)

pub same_store : {A : Type 0} (b : ScriptList) (s : Store) (result : Result A Fail) → Keeps b s (result, s)
same_store b s result are = are

pub then_ends : {A : Type 0} (b : ScriptList) (s t : Store) (ends : Ends A) → Stays b s t → Keeps b t ends → Keeps b s ends
then_ends b s t ends one more are = more (one are)

pub ends_then : {A B : Type 0} (b : ScriptList) (s : Store) (ends : Ends A) (next : A → Store → Ends B) → Keeps b s ends
    → ((a : A) (t : Store) → Keeps b t (next a t)) → Keeps b s (and_then ends next)
ends_then b s (Ok a, t) next one each are = each a t (one are)
ends_then b s (Err failed, t) next one each are = one are

pub asked_first : {A : Type 0} (b : ScriptList) (s : Store) (asked : ℕ) (rest : Ends A) → Keeps b s rest
    → Keeps b s (if nat_le (charge_of s.items + asked) s.limit then rest else (Err (Over (overrun_of s asked)), s))
asked_first {A} b s asked rest one are = by (nat_le (charge_of s.items + asked) s.limit)
  where
    by : (is : Bool) → ScriptsAreThere b (if is then rest else (Err (Over (overrun_of s asked)), s)).1
    by true = one are
    by false = are

-- ---- one item more, and one changed

each_more : (b : ScriptList) (items : List Item) (one : Item) → ((n : ℕ) → n < length items → ItsScriptIsThere b (slice_index_or items n (item.Script 0))) → ItsScriptIsThere b one
    → (n : ℕ) → n < length (items ++ one ∷ []) → ItsScriptIsThere b (slice_index_or (items ++ one ∷ []) n (item.Script 0))
each_more b [] one each is zero within = is
each_more b [] one each is (suc n) within = absurd (omega (arith, within))
each_more b (first ∷ items) one each is zero within = each zero (omega arith)
each_more b (first ∷ items) one each is (suc n) within = each_more b items one (λ n within. each (suc n) (omega (arith, within))) is n (omega (arith, within))

each_set : (b : ScriptList) (items : List Item) (k : ℕ) (one : Item) → ((n : ℕ) → n < length items → ItsScriptIsThere b (slice_index_or items n (item.Script 0)))
    → (k < length items → ItsScriptIsThere b one) → (n : ℕ) → n < length (slice_set items k one) → ItsScriptIsThere b (slice_index_or (slice_set items k one) n (item.Script 0))
each_set b [] k one each is n within = absurd (omega (arith, within))
each_set b (first ∷ items) zero one each is zero within = is (omega arith)
each_set b (first ∷ items) zero one each is (suc n) within = each (suc n) (omega (arith, within))
each_set b (first ∷ items) (suc k) one each is zero within = each zero (omega arith)
each_set b (first ∷ items) (suc k) one each is (suc n) within =
    each_set b items k one (λ n within. each (suc n) (omega (arith, within))) (λ within. is (omega (arith, within))) n (omega (arith, within))

pub one_more : (b : ScriptList) (s : Store) (one : Item) → ItsScriptIsThere b one → Stays b s (with_more s one)
one_more b s one is are = record { each = each_more b s.items one are.each is }

pub item_ends : (b : ScriptList) (one : Item) (s : Store) → ItsScriptIsThere b one → Keeps b s (item_made one s)
item_ends b one s is =
    asked_first b s (price_of one) (Ok (length s.items), with_more s one) (one_more b s one is)

pub changed : (b : ScriptList) (s : Store) (n : ℕ) (one : Item) → (ItsScriptIsThere b (item_at s n) → ItsScriptIsThere b one) → Stays b s (with_item s n one)
changed b s n one keeps are = record { each = each_set b s.items n one are.each (λ within. keeps (are.each n within)) }

-- ---- a part changed

pub property_kept : (b : ScriptList) (one : Item) (key : List ℕ) (v : Value) → ItsScriptIsThere b one → ItsScriptIsThere b (with_property one key v)
property_kept b (item.Plain props) key v is = tt
property_kept b _ key v is = is

pub elements_kept : (b : ScriptList) (one : Item) (values : List Value) → ItsScriptIsThere b one → ItsScriptIsThere b (with_elements one values)
elements_kept b (item.Array was) values is = tt
elements_kept b _ values is = is

pub place_kept : (b : ScriptList) (one : Item) (place : ℕ) (v : Value) → ItsScriptIsThere b one → ItsScriptIsThere b (with_place one place v)
place_kept b (item.Array values) place v is = tt
place_kept b (item.Scope parent bindings functions) place v is = tt
place_kept b _ place v is = is

pub binding_kept : (b : ScriptList) (one : Item) (more : Binding) → ItsScriptIsThere b one → ItsScriptIsThere b (with_binding one more)
binding_kept b (item.Scope parent bindings functions) more is = tt
binding_kept b _ more is = is

pub function_kept : (b : ScriptList) (one : Item) (name : List ℕ) → ItsScriptIsThere b one → ItsScriptIsThere b (with_function one name)
function_kept b (item.Scope parent bindings functions) name is = tt
function_kept b _ name is = is
