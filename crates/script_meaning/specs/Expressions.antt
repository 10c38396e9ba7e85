-- One rule for each form of expression. `at` evaluates what stands inside the form.
-- ECMA-262, Expressions; docs/SCRIPTS.md, "Evaluation".
use Rattle.std.specs.Prelude.{ℕ, List, [], ◌∷◌, ◌++◌, Option, Some, None, Bool, true, false, Ok, if◌then◌else◌}
use Rattle.charged_heap.specs.Store.{Store}
use Rattle.charged_heap.specs.declared.item.Item.TheVariants as item
use Rattle.charged_heap.specs.declared.values.Value.{Value}
use Rattle.charged_heap.specs.declared.values.Value.TheVariants as value
use Rattle.js_syntax.specs.declared.kind.Kind.{Kind}
use Rattle.js_syntax.specs.declared.kind.Kind.TheVariants as kinds
use Rattle.js_syntax.specs.Tree.{Trees, nothing, tree}
use Rattle.charged_heap.specs.Ends.{Ends}
use Rattle.js_ops.specs.Outcome.{value_made, binary_outcome, unary_outcome}
use Rattle.js_ops.specs.Values.{truthy}
use Rattle.js_ops.specs.declared.operators.BinaryOperator.{BinaryOperator}
use Rattle.js_ops.specs.declared.operators.UnaryOperator.{UnaryOperator}
use Rattle.js_ops.specs.declared.operators.UnaryOperator.TheVariants as unary
use Rattle.js_members.specs.Arrays.{pushed}
use Rattle.js_members.specs.Reads.{read_outcome}
use Rattle.js_members.specs.Writes.{write_outcome}
use Rattle.js_scopes.specs.Scopes.{initialised}
use Rattle.js_trees.specs.Tree.{Tree, kid, kids_from}
use Rattle.js_scopes.specs.Lists.{name_scope}
use Rattle.script_meaning.specs.Outcome.{State, Out, Inside, gives, on_heap, of_heap, with_value, with_place, with_callee}
use Rattle.script_meaning.specs.Places.{ScriptList, name_of, key_of, wrong_kind, place_read, place_written, place_type}
use Rattle.script_meaning.specs.Functions.{call_rule}
use Rattle.script_meaning.specs.declared.completion.Ended.TheVariants as ended
use Rattle.script_meaning.specs.declared.site.Key.{Key}
use Rattle.script_meaning.specs.declared.site.Key.TheVariants as key
use Rattle.script_meaning.specs.declared.site.Place.TheVariants as place
use Rattle.script_meaning.specs.declared.site.Role.{Role}
use Rattle.script_meaning.specs.declared.site.Role.TheVariants as role
use Rattle.script_meaning.specs.declared.site.Site.{Site}

-- ---- names and operators

unfoldable pub comma_rule : Inside → Trees → Site → State → Out
comma_rule at kids site s = with_value (at role.Value (kid 0 kids) site s) (λ _ s. at role.Value (kid 1 kids) site s)

unfoldable pub binary_rule : BinaryOperator → Inside → Trees → Site → State → Out
binary_rule op at kids site s =
    with_value (at role.Value (kid 0 kids) site s) (λ left s.
    with_value (at role.Value (kid 1 kids) site s) (λ right s.
    of_heap s (binary_outcome op left right s.heap)))

unfoldable pub unary_rule : UnaryOperator → Inside → Trees → Site → State → Out
unary_rule op at kids site s =
    with_value (at role.Value (kid 0 kids) site s) (λ operand s. of_heap s (unary_outcome op operand s.heap))

-- `typeof` of a name asks for its place alone, since a name that is nowhere has a type too
abbrev pub typeof_by : Kind → ScriptList → Inside → Trees → Site → State → Out
typeof_by kinds.Name scripts at kids site s =
    with_place (at role.Target (kid 0 kids) site s) (λ target s. of_heap s (place_type scripts site target s.heap))
typeof_by _ scripts at kids site s = unary_rule unary.TypeOf at kids site s

unfoldable pub typeof_rule : ScriptList → Inside → Trees → Site → State → Out
typeof_rule scripts at kids site s = typeof_by (kid 0 kids).head.kind scripts at kids site s

unfoldable pub void_rule : Inside → Trees → Site → State → Out
void_rule at kids site s = with_value (at role.Value (kid 0 kids) site s) (λ _ s. gives value.Undefined s)

-- ---- choices

unfoldable pub condition_rule : Inside → Trees → Site → State → Out
condition_rule at kids site s =
    with_value (at role.Value (kid 0 kids) site s)
    (λ v s. if truthy s.heap v then at role.Value (kid 1 kids) site s else at role.Value (kid 2 kids) site s)

abbrev pub is_nullish : Value → Bool
is_nullish value.Undefined = true
is_nullish value.Null = true
is_nullish _ = false

-- whether the right operand of `&&`, `||` and `??` is needed
abbrev pub goes_right : Kind → Store → Value → Bool
goes_right kinds.And s v = truthy s v
goes_right kinds.Or s v = if truthy s v then false else true
goes_right _ s v = is_nullish v

unfoldable pub logical_rule : Kind → Inside → Trees → Site → State → Out
logical_rule op at kids site s =
    with_value (at role.Value (kid 0 kids) site s)
    (λ v s. if goes_right op s.heap v then at role.Value (kid 1 kids) site s else gives v s)

-- ---- assignments

unfoldable pub assign_rule : ScriptList → Inside → Trees → Site → State → Out
assign_rule scripts at kids site s =
    with_place (at role.Target (kid 0 kids) site s) (λ target s.
    with_value (at role.Value (kid 1 kids) site s) (λ v s.
    of_heap s (place_written scripts site target v s.heap)))

-- the place is read before the right side is evaluated
unfoldable pub update_rule : BinaryOperator → ScriptList → Inside → Trees → Site → State → Out
update_rule op scripts at kids site s =
    with_place (at role.Target (kid 0 kids) site s) (λ target s.
    with_value (of_heap s (place_read scripts site target s.heap)) (λ old s.
    with_value (at role.Value (kid 1 kids) site s) (λ v s.
    with_value (of_heap s (binary_outcome op old v s.heap)) (λ new s.
    of_heap s (place_written scripts site target new s.heap)))))

-- what `++` and `--` give: the new value before the operand, the old one behind it
abbrev pub given : Bool → Value → Value → Value
given true old new = new
given false old new = old

unfoldable pub step_rule : UnaryOperator → Bool → ScriptList → Inside → Trees → Site → State → Out
step_rule op before scripts at kids site s =
    with_place (at role.Target (kid 0 kids) site s) (λ target s.
    with_value (of_heap s (place_read scripts site target s.heap)) (λ old s.
    with_value (of_heap s (unary_outcome op old s.heap)) (λ new s.
    with_value (of_heap s (place_written scripts site target new s.heap)) (λ _ s.
    gives (given before old new) s))))

-- ---- members

-- what a member is for its role: a place, or the value that is read there
abbrev pub member_for : Role → Value → Key → State → Ends Value → Out
member_for role.Target base k s read = (Ok (ended.Place (place.Member base k)), s)
member_for role.Callee base k s read = on_heap s read (λ v s. (Ok (ended.Member v base), s))
member_for role.Value base k s read = of_heap s read
member_for role.Statement base k s read = of_heap s read

unfoldable pub member_rule : Role → Inside → Tree → Site → State → Out
member_rule for at t site s =
    with_value (at role.Value (kid 0 t.kids) site s)
    (λ base s. member_for for base (key.Name t.head.number_of_node) s (read_outcome base (name_of t) s.heap))

-- a key that is neither a string nor a number throws, whatever the base is
abbrev pub computed_for : Role → Value → Value → State → Option (List ℕ) → Out
computed_for for base k s None = of_heap s (wrong_kind s.heap)
computed_for for base k s (Some units) = member_for for base (key.Computed k) s (read_outcome base units s.heap)

unfoldable pub index_rule : Role → Inside → Trees → Site → State → Out
index_rule for at kids site s =
    with_value (at role.Value (kid 0 kids) site s) (λ base s.
    with_value (at role.Value (kid 1 kids) site s) (λ k s.
    computed_for for base k s (key_of s.heap k)))

-- ---- calls

-- the values of these forms, from left to right, behind those that are there
unfoldable pub arguments_rule : Inside → Trees → Site → List Value → (List Value → State → Out) → State → Out
arguments_rule at nothing site values go s = go values s
arguments_rule at (tree head kids rest) site values go s =
    with_value (at role.Value (record { head = head; kids = kids }) site s)
    (λ v s. arguments_rule at rest site (values ++ v ∷ []) go s)

-- the arguments are evaluated before it is asked whether the callee can be called
unfoldable pub called_rule : ScriptList → Inside → Trees → Site → State → Out
called_rule scripts at kids site s =
    with_callee (at role.Callee (kid 0 kids) site s) (λ function receiver s.
    arguments_rule at (kids_from 1 kids) site [] (λ arguments s. call_rule at scripts function receiver arguments s) s)

-- ---- literals

-- a new array, and each element as it is evaluated
unfoldable pub elements_rule : Inside → ℕ → Trees → Site → State → Out
elements_rule at array nothing site s = gives (value.Item array) s
elements_rule at array (tree head kids rest) site s =
    with_value (at role.Value (record { head = head; kids = kids }) site s) (λ v s.
    with_value (of_heap s (pushed array (v ∷ []) s.heap)) (λ _ s.
    elements_rule at array rest site s))

abbrev pub item_number : Value → ℕ
item_number (value.Item n) = n
item_number _ = 0

unfoldable pub array_rule : Inside → Trees → Site → State → Out
array_rule at kids site s =
    with_value (of_heap s (value_made (item.Array []) s.heap))
    (λ array s. elements_rule at (item_number array) kids site s)

-- a new object, and each property as it is evaluated
unfoldable pub properties_rule : Inside → ℕ → List (List ℕ) → Trees → Site → State → Out
properties_rule at object names nothing site s = gives (value.Item object) s
properties_rule at object [] (tree head kids rest) site s = gives (value.Item object) s
properties_rule at object (name ∷ names) (tree head kids rest) site s =
    with_value (at role.Value (record { head = head; kids = kids }) site s) (λ v s.
    with_value (of_heap s (write_outcome (value.Item object) name v s.heap)) (λ _ s.
    properties_rule at object names rest site s))

unfoldable pub object_rule : Inside → Tree → Site → State → Out
object_rule at t site s =
    with_value (of_heap s (value_made (item.Plain []) s.heap))
    (λ object s. properties_rule at (item_number object) t.head.names t.kids site s)

-- a function of this form, made here; an arrow function keeps `this`
abbrev pub closure_made : ℕ → Site → Value → Store → Ends Value
closure_made node site receiver s =
    value_made (item.Closure site.script node site.scope site.global receiver) s

-- a function that has a name of its own knows it: it stands in a scope of that one name
abbrev pub function_by : Option (List ℕ) → ℕ → Site → State → Out
function_by None node site s = of_heap s (closure_made node site value.Undefined s.heap)
function_by (Some name) node site s =
    on_heap s (name_scope site.scope name s.heap) (λ scope s.
    with_value (of_heap s (closure_made node (record site { scope = scope }) value.Undefined s.heap)) (λ f s.
    gives f (record s { heap = initialised s.heap scope name f })))

unfoldable pub function_rule : Tree → Site → State → Out
function_rule t site s = function_by t.head.name t.head.number_of_node site s
