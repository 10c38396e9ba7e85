-- A list of statements, and the names of a declaration, from a place on.
use Rattle.std.specs.Prelude.{drop, slice_get, slice_index_or}
use Rattle.std.proofs.lemmas.Option.{slice_get-get_or, get_or_from_slice_get}
use Rattle.std.proofs.Common.{◌≡◌, ◌∙◌, ℕ, zero, suc, ◌<◌, ◌≤◌, List, [], ◌∷◌, Option, Some, length, refl, sym, arith}
use Rattle.charged_heap.specs.declared.values.Value.{Value}
use Rattle.js_syntax.specs.Tree.{Trees, nothing, tree}
use Rattle.js_trees.specs.Tree.{Tree, kid, kid_count, kids_from}
use Rattle.js_trees.proofs.PartLemmas.{kids_from-at, kids_from-past}
use Rattle.charged_heap.specs.Store.{Store}
use Rattle.charged_heap.specs.declared.values.Value.TheVariants as value
use Rattle.js_syntax.specs.declared.kind.Kind.{Kind}
use Rattle.js_syntax.specs.declared.kind.Kind.TheVariants as kinds
use Rattle.js_scopes.specs.Scopes.{initialised}
use Rattle.script_meaning.specs.Outcome.{State, Out, Inside, with_value, is_empty}
use Rattle.script_meaning.specs.Places.{ScriptList, form_at}
use Rattle.script_meaning.specs.Statements.{after_statement, list_rule, declarator, declare_rule}
use Rattle.script_meaning.specs.declared.site.Role.TheVariants as role
use Rattle.script_meaning.specs.declared.site.Site.{Site}
use Rattle.script_steps.specs.After.{after, node_out, with_left}
use Rattle.script_steps.specs.declared.frame.Frame.TheVariants as frame

list_at : (at : Inside) (kids : Trees) (t : Tree) (rest : Trees) (site : Site) (last : Option Value) (s : State)
    → kids ≡ tree (t.head) (t.kids) rest
    → after_statement last (at role.Statement t site s) (λ last s. list_rule at rest site last s) ≡ list_rule at kids site last s
unfolding list_rule
list_at at kids t rest site last s e = rw e refl

-- the list goes on with the statement at the place
pub list_goes_on : (at : Inside) (scripts : ScriptList) (node place : ℕ) (last : Option Value) (site : Site) (statement : ℕ) (s : State)
    → place < kid_count ((form_at scripts site.script node).kids) → form_at scripts site.script statement ≡ kid place ((form_at scripts site.script node).kids)
    → after at scripts (frame.List node place last site) (node_out at scripts role.Statement statement site s)
    ≡ list_rule at (kids_from place ((form_at scripts site.script node).kids)) site last s
unfolding after
list_goes_on at scripts node place last site statement s within e =
    rw e (list_at at (kids_from place ((form_at scripts site.script node).kids)) (kid place ((form_at scripts site.script node).kids))
    (kids_from (suc place) ((form_at scripts site.script node).kids)) site last s
    (kids_from-at place ((form_at scripts site.script node).kids) within))

pub ruleset lists = (list_goes_on)

-- ---- declarations

drop-all : (names : List (List ℕ)) (n : ℕ) → length names ≤ n → drop n names ≡ []
drop-all [] zero past = refl
drop-all [] (suc n) past = refl
drop-all (name ∷ names) zero past = absurd (omega arith)
drop-all (name ∷ names) (suc n) past = drop-all names n (omega arith)

nothing_declared : (at : Inside) (names : List (List ℕ)) (site : Site) (s : State) → declare_rule at names nothing site s ≡ is_empty s
unfolding declare_rule
nothing_declared at [] site s = refl
nothing_declared at (name ∷ names) site s = refl

-- the names from a place on are that name and those behind it
pub names_at_place : (names : List (List ℕ)) (i : ℕ) (name : List ℕ) → slice_get names i ≡ Some name → drop i names ≡ name ∷ drop (suc i) names
names_at_place [] i name some = absurd (cc)
names_at_place (first ∷ rest) zero name some = let e : first ≡ name = cc in rw e refl
names_at_place (first ∷ rest) (suc i) name some = names_at_place rest i name some

-- a form that is there has a value, which the name gets
declarator-there : (kind : Kind) (initialiser : Out) (name : List ℕ) (site : Site) (s : State) (go : State → Out) → (kind ≡ kinds.Absent → ⊥)
    → with_value initialiser (λ v s. go (record s { heap = initialised s.heap site.scope name v })) ≡ declarator kind initialiser name site s go
declarator-there kinds.Absent initialiser name site s go there = absurd (there refl)
declarator-there _ initialiser name site s go there = refl

declarator-absent : (kind : Kind) (initialiser : Out) (name : List ℕ) (site : Site) (s : State) (go : State → Out) → kind ≡ kinds.Absent
    → declarator kind initialiser name site s go ≡ go (record s { heap = initialised s.heap site.scope name value.Undefined })
declarator-absent kind initialiser name site s go absent = rw absent refl

declare-at : (at : Inside) (names : List (List ℕ)) (kids : Trees) (name : List ℕ) (more : List (List ℕ)) (t : Tree) (rest : Trees) (site : Site) (s : State)
    → names ≡ name ∷ more → kids ≡ tree (t.head) (t.kids) rest
    → declare_rule at names kids site s ≡ declarator (t.head).kind (at role.Value t site s) name site s (λ s. declare_rule at more rest site s)
unfolding declare_rule
declare-at at names kids name more t rest site s e f = rw (e, f) refl

-- without an initialiser the name at the place gets undefined, and the names behind it follow
pub declared_without : (at : Inside) (names : List (List ℕ)) (kids : Trees) (place : ℕ) (name : List ℕ) (site : Site) (heap : Store) (left : ℕ)
    → slice_get names place ≡ Some name → place < kid_count kids → ((kid place kids).head).kind ≡ kinds.Absent
    → declare_rule at (drop place names) (kids_from place kids) site (with_left heap left)
    ≡ declare_rule at (drop (suc place) names) (kids_from (suc place) kids) site (with_left (initialised heap site.scope name value.Undefined) left)
declared_without at names kids place name site heap left some within absent =
    declare-at at (drop place names) (kids_from place kids) name (drop (suc place) names) (kid place kids) (kids_from (suc place) kids) site (with_left heap left)
    (names_at_place names place name some) (kids_from-at place kids within)
    ∙ declarator-absent ((kid place kids).head).kind (at role.Value (kid place kids) site (with_left heap left)) name site (with_left heap left)
    (λ s. declare_rule at (drop (suc place) names) (kids_from (suc place) kids) site s) absent

-- with one the declaration waits for its value
pub declared_with : (at : Inside) (names : List (List ℕ)) (kids : Trees) (place : ℕ) (name : List ℕ) (site : Site) (s : State)
    → slice_get names place ≡ Some name → place < kid_count kids → (((kid place kids).head).kind ≡ kinds.Absent → ⊥)
    → with_value (at role.Value (kid place kids) site s)
    (λ v s. declare_rule at (drop (suc place) names) (kids_from (suc place) kids) site (record s { heap = initialised s.heap site.scope name v }))
    ≡ declare_rule at (drop place names) (kids_from place kids) site s
declared_with at names kids place name site s some within there =
    declarator-there ((kid place kids).head).kind (at role.Value (kid place kids) site s) name site s
    (λ s. declare_rule at (drop (suc place) names) (kids_from (suc place) kids) site s) there
    ∙ sym (declare-at at (drop place names) (kids_from place kids) name (drop (suc place) names) (kid place kids) (kids_from (suc place) kids) site s
    (names_at_place names place name some) (kids_from-at place kids within))

-- past the last name, and past the last part, nothing is left
pub declared_all : (at : Inside) (names : List (List ℕ)) (kids : Trees) (place : ℕ) (site : Site) (s : State) → length names ≤ place
    → declare_rule at (drop place names) (kids_from place kids) site s ≡ is_empty s
unfolding declare_rule
declared_all at names kids place site s past = rw (drop-all names place past) refl

pub declared_rest : (at : Inside) (names : List (List ℕ)) (kids : Trees) (place : ℕ) (site : Site) (s : State) → kid_count kids ≤ place
    → declare_rule at names (kids_from place kids) site s ≡ is_empty s
declared_rest at names kids place site s past = rw (kids_from-past place kids past) (nothing_declared at names site s)

-- so a declaration waits for the initialiser of the name at the place
pub declaration_waits : (at : Inside) (scripts : ScriptList) (node place : ℕ) (site : Site) (initialiser : ℕ) (s : State)
    → place < kid_count ((form_at scripts site.script node).kids) → place < length ((form_at scripts site.script node).head).names
    → form_at scripts site.script initialiser ≡ kid place ((form_at scripts site.script node).kids)
    → (((kid place ((form_at scripts site.script node).kids)).head).kind ≡ kinds.Absent → ⊥)
    → after at scripts (frame.Declarator node place site) (node_out at scripts role.Value initialiser site s)
    ≡ declare_rule at (drop place ((form_at scripts site.script node).head).names) (kids_from place ((form_at scripts site.script node).kids)) site s
unfolding after
declaration_waits at scripts node place site initialiser s within named e there =
    rw e (declared_with at (((form_at scripts site.script node).head).names) ((form_at scripts site.script node).kids) place
    (slice_index_or (((form_at scripts site.script node).head).names) place []) site s
    (slice_get-get_or (((form_at scripts site.script node).head).names) place [] named) within there)

-- a place without a name is read as the empty text
pub unnamed : (names : List (List ℕ)) (place : ℕ) → length names ≤ place → slice_index_or names place [] ≡ []
unnamed [] place past = refl
unnamed (name ∷ names) zero past = absurd (omega arith)
unnamed (name ∷ names) (suc place) past = unnamed names place (omega arith)

pub declared_behind : (at : Inside) (names : List (List ℕ)) (kids : Trees) (place : ℕ) (site : Site) (s : State) → kid_count kids ≤ place
    → declare_rule at names (kids_from (suc place) kids) site s ≡ is_empty s
declared_behind at names kids place site s past = declared_rest at names kids (suc place) site s (omega arith)

pub ruleset declared = (declared_without)

pub ruleset ends = (declared_all, declared_rest)

pub ruleset behind = (declared_behind)

pub ruleset named = (unnamed, get_or_from_slice_get)
