-- Every node keeps each function of its heap one of the scripts, whatever its form is.
use Rattle.std.proofs.Common.{◌≡◌, sym, subst, ◌⊎◌, inl, inr, ℕ, zero, suc, ◌<◌, ◌≤◌, Bool, true, false, List, [], ◌∷◌, ◌++◌, Option, Some, None, Result, Ok, Err, refl, ap, ◌∙◌, arith, if◌then◌else◌}
use Rattle.charged_heap.specs.declared.builtin.Builtin.{Builtin}
use Rattle.charged_heap.specs.declared.item.Item.{Item}
use Rattle.charged_heap.specs.declared.item.Item.TheVariants as item
use Rattle.charged_heap.specs.declared.values.Value.{Value}
use Rattle.charged_heap.specs.declared.values.Value.TheVariants as value
use Rattle.js_syntax.specs.declared.kind.Kind.{Kind}
use Rattle.js_syntax.specs.declared.kind.Kind.TheVariants as kinds
use Rattle.js_syntax.specs.Tree.{Trees, nothing, tree}
use Rattle.js_ops.specs.Outcome.{binary_outcome, text_made, thrown, value_made, unary_outcome}
use Rattle.js_members.specs.Arrays.{pushed}
use Rattle.js_members.specs.Reads.{read_outcome}
use Rattle.js_members.specs.Writes.{write_outcome}
use Rattle.js_ops.specs.Operators.{operator_of}
use Rattle.js_ops.specs.declared.operators.Operator.{Operator}
use Rattle.js_ops.specs.declared.operators.Operator.TheVariants as operator
use Rattle.js_ops.specs.declared.operators.BinaryOperator.{BinaryOperator}
use Rattle.js_ops.specs.declared.operators.UnaryOperator.{UnaryOperator}
use Rattle.js_ops.specs.declared.operators.UnaryOperator.TheVariants as unary
use Rattle.js_trees.specs.Forms.{is_function_kind}
use Rattle.js_trees.specs.Tree.{Tree, kid}
use Rattle.js_trees.specs.declared.declaration.Declaration.{Declaration}
use Rattle.charged_heap.specs.Ends.{Ends, and_then}
use Rattle.charged_heap.specs.Store.{Store}
use Rattle.charged_heap.specs.declared.fault.Fail.{Fail}
use Rattle.charged_heap.specs.declared.fault.Fail.TheVariants as fail
use Rattle.js_ops.specs.Values.{truthy}
use Rattle.ivm_text.specs.declared.copies.ErrorKind.TheVariants.{RangeError}
use Rattle.std.specs.Prelude.{codes}
use Rattle.js_scopes.specs.Lists.{block_scope, call_scope, catch_scope, name_scope}
use Rattle.js_scopes.specs.Names.{name_outcome}
use Rattle.js_scopes.specs.Scopes.{initialised, scope_copied}
use Rattle.js_scopes.specs.Scripts.{script_declared}
use Rattle.js_trees.specs.Declarations.{declarations}
use Rattle.script_meaning.specs.Evaluates.{NESTING, call_run, script_run, callee_by, evaluated, node_by, operation, statement_by, target_by, too_deep, value_by}
use Rattle.script_meaning.specs.Expressions.{arguments_rule, array_rule, assign_rule, binary_rule, called_rule, closure_made, comma_rule, computed_for, condition_rule, elements_rule, function_by, function_rule, goes_right, index_rule, item_number, logical_rule, member_for, member_rule, object_rule, properties_rule, step_rule, typeof_by, typeof_rule, unary_rule, update_rule, void_rule}
use Rattle.script_meaning.specs.Functions.{body_declares, body_rule, builtin_outcome, builtin_rule, call_rule, enter_rule, is_body, item_call, no_function, returned, this_of}
use Rattle.script_meaning.specs.Handlers.{at_last, caught, finalized_by, handled_by, handler_by, kept, throw_rule, try_rule}
use Rattle.script_meaning.specs.Loops.{Loop, part_by, while_loop, after_body, first_round, for_by, for_loop, for_rule, headed, loop_end, loop_rule, round_site, rounds, started, tested, to_next, turn, updated, while_rule}
use Rattle.script_meaning.specs.Outcome.{State, Out, Inside, abrupt_of, gives, of_heap, on_heap, ticked, with_callee, with_end, with_place, with_tick, with_value}
use Rattle.script_meaning.specs.Places.{ScriptList, form_at, name_of, place_read, place_type, place_written, wrong_kind}
use Rattle.script_meaning.specs.Statements.{after_statement, block_by, block_rule, declarator, declare_rule, else_by, filled, if_rule, list_rule, return_by, return_rule}
use Rattle.script_meaning.specs.declared.completion.Abrupt.{Abrupt}
use Rattle.script_meaning.specs.declared.completion.Abrupt.TheVariants as abrupt
use Rattle.script_meaning.specs.declared.completion.Ended.{Ended}
use Rattle.script_meaning.specs.declared.completion.Ended.TheVariants as ended
use Rattle.script_meaning.specs.declared.completion.StopCause.TheVariants.{Timeout}
use Rattle.script_meaning.specs.declared.site.Key.{Key}
use Rattle.script_meaning.specs.declared.site.Place.{Place}
use Rattle.script_meaning.specs.declared.site.Role.{Role}
use Rattle.script_meaning.specs.declared.site.Role.TheVariants as role
use Rattle.script_meaning.specs.declared.site.Site.{Site}
use Rattle.script_laws.proofs.StoreFunctions.{o-binary, o-block, o-builtin, o-call, o-catch, o-closure, o-name, o-name-scope, o-no-function, o-place-read, o-place-type, o-place-written, o-pushed, o-read, o-script, o-thrown, o-unary, o-value, o-write, o-wrong, s-initialised, o-copied}
use Rattle.script_laws.specs.Scripts.{ScriptsAreThere, IsFunctionAt}
use Rattle.script_laws.proofs.Changes.{AreDeclared, Keeps}
use Rattle.script_laws.proofs.FormTrees.{AreForms, IsForm, body_declared, forms_from, kid_form, list_declared, number_form}

-- a node leaves a heap in which each function is one of the scripts
Leaves : ScriptList → Out → Type 0
Leaves b o = ScriptsAreThere b o.1.heap

-- each node inside, where it is a form of its script, keeps the heap so
record IsLawful (b : ScriptList) (at : Inside) : Type 0 where
  keeps : (for : Role) (t : Tree) (site : Site) (s : State) → IsForm b site.script t → ScriptsAreThere b s.heap → ScriptsAreThere b (at for t site s).1.heap

m-done : (b : ScriptList) (end : Ended) (s : State) → ScriptsAreThere b s.heap → Leaves b (Ok end, s)
unfolding Leaves
m-done b end s few = few

m-value : (b : ScriptList) (o : Out) (go : Value → State → Out) → Leaves b o → ((v : Value) (s : State) → ScriptsAreThere b s.heap → Leaves b (go v s)) → Leaves b (with_value o go)
unfolding Leaves
m-value b (Ok (ended.Value v), s) go few on = on v s few
m-value b (Ok ended.Empty, s) go few on = few
m-value b (Ok (ended.Place p), s) go few on = few
m-value b (Ok (ended.Member f r), s) go few on = few
m-value b (Err e, s) go few on = few

m-place : (b : ScriptList) (o : Out) (go : Place → State → Out) → Leaves b o → ((p : Place) (s : State) → ScriptsAreThere b s.heap → Leaves b (go p s)) → Leaves b (with_place o go)
unfolding Leaves
m-place b (Ok (ended.Place p), s) go few on = on p s few
m-place b (Ok ended.Empty, s) go few on = few
m-place b (Ok (ended.Value v), s) go few on = few
m-place b (Ok (ended.Member f r), s) go few on = few
m-place b (Err e, s) go few on = few

m-callee : (b : ScriptList) (o : Out) (go : Value → Value → State → Out) → Leaves b o → ((f r : Value) (s : State) → ScriptsAreThere b s.heap → Leaves b (go f r s)) → Leaves b (with_callee o go)
unfolding Leaves
m-callee b (Ok (ended.Member f r), s) go few on = on f r s few
m-callee b (Ok (ended.Value v), s) go few on = on v value.Undefined s few
m-callee b (Ok ended.Empty, s) go few on = few
m-callee b (Ok (ended.Place p), s) go few on = few
m-callee b (Err e, s) go few on = few

m-end : (b : ScriptList) (o : Out) (go : State → Out) → Leaves b o → ((s : State) → ScriptsAreThere b s.heap → Leaves b (go s)) → Leaves b (with_end o go)
unfolding Leaves
m-end b (Ok end, s) go few on = on s few
m-end b (Err e, s) go few on = few

m-heap : {A : Type 0} → (b : ScriptList) (s : State) (made : Ends A) (go : A → State → Out) → ScriptsAreThere b s.heap → Keeps b s.heap made
    → ((a : A) (s : State) → ScriptsAreThere b s.heap → Leaves b (go a s)) → Leaves b (on_heap s made go)
unfolding Leaves
m-heap b s (Ok a, heap) go few keeps on = on a (record s { heap = heap }) (keeps few)
m-heap b s (Err failed, heap) go few keeps on = keeps few

m-of : (b : ScriptList) (s : State) (made : Ends Value) → ScriptsAreThere b s.heap → Keeps b s.heap made → Leaves b (of_heap s made)
m-of b s made few keeps = m-heap b s made gives few keeps (λ v s few. m-done b (ended.Value v) s few)

m-if : (b : ScriptList) (is : Bool) (x y : Out) → Leaves b x → Leaves b y → Leaves b (if is then x else y)
m-if b true x y few few' = few
m-if b false x y few few' = few'

m-at : (b : ScriptList) (at : Inside) (for : Role) (t : Tree) (site : Site) (s : State) → IsLawful b at → IsForm b site.script t → ScriptsAreThere b s.heap → Leaves b (at for t site s)
unfolding Leaves
m-at b at for t site s lawful is few = lawful.keeps for t site s is few

-- a tick is taken, or none is left
m-ticked : (b : ScriptList) (left : ℕ) (s : State) (go : State → Out) → ScriptsAreThere b s.heap → ((s : State) → ScriptsAreThere b s.heap → Leaves b (go s)) → Leaves b (ticked left s go)
unfolding Leaves
m-ticked b zero s go few on = few
m-ticked b (suc left) s go few on = on (record s { left = left }) few

-- ---- calls

m-returned : (b : ScriptList) (o : Out) → Leaves b o → Leaves b (returned o)
unfolding Leaves
m-returned b (Ok end, s) few = few
m-returned b (Err (abrupt.Return v), s) few = few
m-returned b (Err (abrupt.Throw v), s) few = few
m-returned b (Err (abrupt.Break v), s) few = few
m-returned b (Err (abrupt.Continue v), s) few = few
m-returned b (Err (abrupt.Stop cause), s) few = few
m-returned b (Err abrupt.NoMemory, s) few = few

m-body : (b : ScriptList) (is : Bool) (at : Inside) (body : Tree) (site : Site) (s : State) → IsLawful b at → IsForm b site.script body → ScriptsAreThere b s.heap → Leaves b (body_rule is at body site s)
m-body b true at body site s takes are few = m-returned b (at role.Statement body site s) (m-at b at role.Statement body site s takes are few)
m-body b false at body site s takes are few = m-at b at role.Value body site s takes are few

m-enter : (b : ScriptList) (at : Inside) (f : Tree) (site : Site) (arguments : List Value) (s : State) → IsLawful b at → IsForm b site.script f → ScriptsAreThere b s.heap → Leaves b (enter_rule at f site arguments s)
unfolding enter_rule
m-enter b at f site arguments s takes are few =
    let body = kid_form b site.script 0 f.kids are.kids in
    m-heap {A = ℕ} b s (call_scope site.script site.global site.scope f.head.names (body_declares (kid 0 f.kids)) arguments s.heap) _ few
    (o-call b site.script site.global site.scope f.head.names (body_declares (kid 0 f.kids)) arguments s.heap (body_declared b site.script (kid 0 f.kids) body))
    (λ scope s few. m-body b (is_body (kid 0 f.kids).head.kind) at (kid 0 f.kids) (record site { scope = scope }) s takes body few)

m-item : (b : ScriptList) (at : Inside) (one : Item) (receiver : Value) (arguments : List Value) (s : State)
    → IsLawful b at → ScriptsAreThere b s.heap → Leaves b (item_call at b one receiver arguments s)
m-item b at (item.Closure script node scope global kept) receiver arguments s takes few =
    m-enter b at (form_at b script node)
    (record { script = script; scope = scope; global = global; receiver = this_of (form_at b script node).head.kind kept receiver }) arguments s takes (number_form b script node) few
m-item b at _ receiver arguments s takes few = m-of b s _ few (o-no-function b s.heap)

m-builtin : (b : ScriptList) (which : Builtin) (receiver : Value) (arguments : List Value) (s : State) → ScriptsAreThere b s.heap → Leaves b (builtin_rule which receiver arguments s)
unfolding builtin_rule
m-builtin b which receiver arguments s few =
    m-ticked b s.left s _ few (λ s few. m-of b s (builtin_outcome which receiver arguments s.heap) few (o-builtin b which receiver arguments s.heap))

m-call : (b : ScriptList) (at : Inside) (f receiver : Value) (arguments : List Value) (s : State)
    → IsLawful b at → ScriptsAreThere b s.heap → Leaves b (call_rule at b f receiver arguments s)
unfolding call_rule
m-call b at (value.Builtin which) receiver arguments s takes few = m-builtin b which receiver arguments s few
m-call b at (value.Item k) receiver arguments s takes few = m-item b at _ receiver arguments s takes few
m-call b at _ receiver arguments s takes few = m-of b s _ few (o-no-function b s.heap)

m-arguments : (b : ScriptList) (at : Inside) (kids : Trees) (site : Site) (values : List Value) (go : List Value → State → Out) (s : State) → IsLawful b at → AreForms b site.script kids → ScriptsAreThere b s.heap
    → ((values : List Value) (s : State) → ScriptsAreThere b s.heap → Leaves b (go values s)) → Leaves b (arguments_rule at kids site values go s)
unfolding arguments_rule
m-arguments b at nothing site values go s takes are few on = on values s few
m-arguments b at (tree head kids rest) site values go s takes are few on =
    m-value b _ _ (m-at b at role.Value _ site s takes (record { head = are.0; kids = are.1 }) few) (λ v s few. m-arguments b at rest site (values ++ v ∷ []) go s takes are.2 few on)

m-called : (b : ScriptList) (at : Inside) (kids : Trees) (site : Site) (s : State) → IsLawful b at → AreForms b site.script kids → ScriptsAreThere b s.heap → Leaves b (called_rule b at kids site s)
unfolding called_rule
m-called b at kids site s takes are few =
    m-callee b _ _ (m-at b at role.Callee _ site s takes (kid_form b site.script 0 kids are) few)
    (λ f receiver s few. m-arguments b at _ site [] _ s takes (forms_from b site.script 1 kids are) few (λ values s few. m-call b at f receiver values s takes few))

-- ---- expressions

m-comma : (b : ScriptList) (at : Inside) (kids : Trees) (site : Site) (s : State) → IsLawful b at → AreForms b site.script kids → ScriptsAreThere b s.heap → Leaves b (comma_rule at kids site s)
unfolding comma_rule
m-comma b at kids site s takes are few = m-value b _ _ (m-at b at role.Value _ site s takes (kid_form b site.script 0 kids are) few) (λ v s few. m-at b at role.Value _ site s takes (kid_form b site.script 1 kids are) few)

m-binary : (b : ScriptList) (op : BinaryOperator) (at : Inside) (kids : Trees) (site : Site) (s : State) → IsLawful b at → AreForms b site.script kids → ScriptsAreThere b s.heap → Leaves b (binary_rule op at kids site s)
unfolding binary_rule
m-binary b op at kids site s takes are few =
    m-value b _ _ (m-at b at role.Value _ site s takes (kid_form b site.script 0 kids are) few) (λ left s few.
    m-value b _ _ (m-at b at role.Value _ site s takes (kid_form b site.script 1 kids are) few) (λ right s few. m-of b s (binary_outcome op left right s.heap) few (o-binary b op left right s.heap)))

m-unary : (b : ScriptList) (op : UnaryOperator) (at : Inside) (kids : Trees) (site : Site) (s : State) → IsLawful b at → AreForms b site.script kids → ScriptsAreThere b s.heap → Leaves b (unary_rule op at kids site s)
unfolding unary_rule
m-unary b op at kids site s takes are few =
    m-value b _ _ (m-at b at role.Value _ site s takes (kid_form b site.script 0 kids are) few) (λ v s few. m-of b s (unary_outcome op v s.heap) few (o-unary b op v s.heap))

m-typeof-by : (b : ScriptList) (kind : Kind) (at : Inside) (kids : Trees) (site : Site) (s : State) → IsLawful b at → AreForms b site.script kids → ScriptsAreThere b s.heap → Leaves b (typeof_by kind b at kids site s)
m-typeof-by b kinds.Name at kids site s takes are few = m-place b _ _ (m-at b at role.Target _ site s takes (kid_form b site.script 0 kids are) few) (λ p s few.
    m-of b s (place_type b site p s.heap) few (o-place-type b b site p s.heap))
m-typeof-by b _ at kids site s takes are few = m-unary b _ at kids site s takes are few

m-typeof : (b : ScriptList) (at : Inside) (kids : Trees) (site : Site) (s : State) → IsLawful b at → AreForms b site.script kids → ScriptsAreThere b s.heap → Leaves b (typeof_rule b at kids site s)
unfolding typeof_rule
m-typeof b at kids site s takes are few = m-typeof-by b _ at kids site s takes are few

m-void : (b : ScriptList) (at : Inside) (kids : Trees) (site : Site) (s : State) → IsLawful b at → AreForms b site.script kids → ScriptsAreThere b s.heap → Leaves b (void_rule at kids site s)
unfolding void_rule Leaves
m-void b at kids site s takes are few = m-value b _ _ (m-at b at role.Value _ site s takes (kid_form b site.script 0 kids are) few) (λ v s few. few)

m-condition : (b : ScriptList) (at : Inside) (kids : Trees) (site : Site) (s : State) → IsLawful b at → AreForms b site.script kids → ScriptsAreThere b s.heap → Leaves b (condition_rule at kids site s)
unfolding condition_rule
m-condition b at kids site s takes are few =
    m-value b _ _ (m-at b at role.Value _ site s takes (kid_form b site.script 0 kids are) few) (λ v s few.
    m-if b _ _ _ (m-at b at role.Value _ site s takes (kid_form b site.script 1 kids are) few) (m-at b at role.Value _ site s takes (kid_form b site.script 2 kids are) few))

m-logical : (b : ScriptList) (op : Kind) (at : Inside) (kids : Trees) (site : Site) (s : State) → IsLawful b at → AreForms b site.script kids → ScriptsAreThere b s.heap → Leaves b (logical_rule op at kids site s)
unfolding logical_rule
m-logical b op at kids site s takes are few =
    m-value b _ _ (m-at b at role.Value _ site s takes (kid_form b site.script 0 kids are) few) (λ v s few.
    m-if b (goes_right op s.heap v) (at role.Value (kid 1 kids) site s) (gives v s) (m-at b at role.Value (kid 1 kids) site s takes (kid_form b site.script 1 kids are) few) (m-done b _ s few))

m-assign : (b : ScriptList) (at : Inside) (kids : Trees) (site : Site) (s : State) → IsLawful b at → AreForms b site.script kids → ScriptsAreThere b s.heap → Leaves b (assign_rule b at kids site s)
unfolding assign_rule
m-assign b at kids site s takes are few =
    m-place b _ _ (m-at b at role.Target _ site s takes (kid_form b site.script 0 kids are) few) (λ p s few.
    m-value b _ _ (m-at b at role.Value _ site s takes (kid_form b site.script 1 kids are) few) (λ v s few. m-of b s (place_written b site p v s.heap) few (o-place-written b b site p v s.heap)))

m-update : (b : ScriptList) (op : BinaryOperator) (at : Inside) (kids : Trees) (site : Site) (s : State) → IsLawful b at → AreForms b site.script kids → ScriptsAreThere b s.heap → Leaves b (update_rule op b at kids site s)
unfolding update_rule
m-update b op at kids site s takes are few =
    m-place b _ _ (m-at b at role.Target _ site s takes (kid_form b site.script 0 kids are) few) (λ p s few.
    m-value b _ _ (m-of b s (place_read b site p s.heap) few (o-place-read b b site p s.heap)) (λ old s few.
    m-value b _ _ (m-at b at role.Value (kid 1 kids) site s takes (kid_form b site.script 1 kids are) few) (λ v s few.
    m-value b _ _ (m-of b s (binary_outcome op old v s.heap) few (o-binary b op old v s.heap)) (λ new s few. m-of b s (place_written b site p new s.heap) few (o-place-written b b site p new s.heap)))))

m-step : (b : ScriptList) (op : UnaryOperator) (before : Bool) (at : Inside) (kids : Trees) (site : Site) (s : State) → IsLawful b at → AreForms b site.script kids → ScriptsAreThere b s.heap
    → Leaves b (step_rule op before b at kids site s)
unfolding step_rule
m-step b op before at kids site s takes are few =
    m-place b _ _ (m-at b at role.Target _ site s takes (kid_form b site.script 0 kids are) few) (λ p s few.
    m-value b _ _ (m-of b s (place_read b site p s.heap) few (o-place-read b b site p s.heap)) (λ old s few.
    m-value b _ _ (m-of b s (unary_outcome op old s.heap) few (o-unary b op old s.heap)) (λ new s few.
    m-value b _ _ (m-of b s (place_written b site p new s.heap) few (o-place-written b b site p new s.heap)) (λ v s few. m-done b _ s few))))

m-member-for : (b : ScriptList) (for : Role) (base : Value) (k : Key) (s : State) (read : Ends Value) → ScriptsAreThere b s.heap → Keeps b s.heap read → Leaves b (member_for for base k s read)
unfolding Leaves
m-member-for b role.Target base k s read few within = few
m-member-for b role.Callee base k s read few within = m-heap b s read _ few within (λ v s few. few)
m-member-for b role.Value base k s read few within = m-of b s read few within
m-member-for b role.Statement base k s read few within = m-of b s read few within

m-member : (b : ScriptList) (for : Role) (at : Inside) (t : Tree) (site : Site) (s : State) → IsLawful b at → IsForm b site.script t → ScriptsAreThere b s.heap → Leaves b (member_rule for at t site s)
unfolding member_rule
m-member b for at t site s takes are few = m-value b _ _ (m-at b at role.Value _ site s takes (kid_form b site.script 0 t.kids are.kids) few) (λ v s few.
    m-member-for b for v _ s (read_outcome v (name_of t) s.heap) few (o-read b v (name_of t) s.heap))

m-computed : (b : ScriptList) (for : Role) (base k : Value) (s : State) (units : Option (List ℕ)) → ScriptsAreThere b s.heap → Leaves b (computed_for for base k s units)
m-computed b for base k s None few = m-of b s (wrong_kind s.heap) few (o-wrong b s.heap)
m-computed b for base k s (Some units) few = m-member-for b for base _ s (read_outcome base units s.heap) few (o-read b base units s.heap)

m-index : (b : ScriptList) (for : Role) (at : Inside) (kids : Trees) (site : Site) (s : State) → IsLawful b at → AreForms b site.script kids → ScriptsAreThere b s.heap → Leaves b (index_rule for at kids site s)
unfolding index_rule
m-index b for at kids site s takes are few =
    m-value b _ _ (m-at b at role.Value _ site s takes (kid_form b site.script 0 kids are) few) (λ base s few.
    m-value b _ _ (m-at b at role.Value _ site s takes (kid_form b site.script 1 kids are) few) (λ k s few. m-computed b for base k s _ few))

m-elements : (b : ScriptList) (at : Inside) (array : ℕ) (kids : Trees) (site : Site) (s : State) → IsLawful b at → AreForms b site.script kids → ScriptsAreThere b s.heap → Leaves b (elements_rule at array kids site s)
unfolding elements_rule
m-elements b at array nothing site s takes are few = m-done b _ s few
m-elements b at array (tree head kids rest) site s takes are few =
    m-value b _ _ (m-at b at role.Value _ site s takes (record { head = are.0; kids = are.1 }) few) (λ v s few.
    m-value b _ _ (m-of b s (pushed array (v ∷ []) s.heap) few (o-pushed b array (v ∷ []) s.heap)) (λ _ s few. m-elements b at array rest site s takes are.2 few))

m-array : (b : ScriptList) (at : Inside) (kids : Trees) (site : Site) (s : State) → IsLawful b at → AreForms b site.script kids → ScriptsAreThere b s.heap → Leaves b (array_rule at kids site s)
unfolding array_rule
m-array b at kids site s takes are few =
    m-value b _ _ (m-of b s (value_made (item.Array []) s.heap) few (o-value b (item.Array []) s.heap tt))
    (λ array s few. m-elements b at (item_number array) kids site s takes are few)

m-properties : (b : ScriptList) (at : Inside) (object : ℕ) (names : List (List ℕ)) (kids : Trees) (site : Site) (s : State) → IsLawful b at → AreForms b site.script kids → ScriptsAreThere b s.heap
    → Leaves b (properties_rule at object names kids site s)
unfolding properties_rule
m-properties b at object names nothing site s takes are few = m-done b _ s few
m-properties b at object [] (tree head kids rest) site s takes are few = m-done b _ s few
m-properties b at object (name ∷ names) (tree head kids rest) site s takes are few =
    m-value b _ _ (m-at b at role.Value _ site s takes (record { head = are.0; kids = are.1 }) few) (λ v s few.
    m-value b _ _ (m-of b s (write_outcome (value.Item object) name v s.heap) few (o-write b (value.Item object) name v s.heap)) (λ _ s few. m-properties b at object names rest site s takes are.2 few))

m-object : (b : ScriptList) (at : Inside) (t : Tree) (site : Site) (s : State) → IsLawful b at → IsForm b site.script t → ScriptsAreThere b s.heap → Leaves b (object_rule at t site s)
unfolding object_rule
m-object b at t site s takes are few =
    m-value b _ _ (m-of b s (value_made (item.Plain []) s.heap) few (o-value b (item.Plain []) s.heap tt))
    (λ object s few. m-properties b at (item_number object) t.head.names t.kids site s takes are.kids few)

m-function-by : (b : ScriptList) (name : Option (List ℕ)) (node : ℕ) (site : Site) (s : State) → IsFunctionAt b site.script node → ScriptsAreThere b s.heap → Leaves b (function_by name node site s)
m-function-by b None node site s is few = m-of b s (closure_made node site value.Undefined s.heap) few (o-closure b node site value.Undefined s.heap is)
m-function-by b (Some name) node site s is few =
    m-heap {A = ℕ} b s (name_scope site.scope name s.heap) _ few (o-name-scope b site.scope name s.heap) (λ scope s few.
    m-value b _ _ (m-of b s (closure_made node (record site { scope = scope }) value.Undefined s.heap) few (o-closure b node (record site { scope = scope }) value.Undefined s.heap is))
    (λ f s few. m-done b (ended.Value f) (record s { heap = initialised s.heap scope name f }) (s-initialised b s.heap scope name f few)))

m-function : (b : ScriptList) (t : Tree) (site : Site) (s : State) → IsFunctionAt b site.script t.head.number_of_node → ScriptsAreThere b s.heap → Leaves b (function_rule t site s)
unfolding function_rule
m-function b t site s is few = m-function-by b _ _ site s is few

-- ---- statements

m-after : (b : ScriptList) (last : Option Value) (o : Out) (go : Option Value → State → Out) → Leaves b o
    → ((last : Option Value) (s : State) → ScriptsAreThere b s.heap → Leaves b (go last s)) → Leaves b (after_statement last o go)
unfolding Leaves
m-after b last (Ok end, s) go few on = on _ s few
m-after b last (Err (abrupt.Break v), s) go few on = few
m-after b last (Err (abrupt.Continue v), s) go few on = few
m-after b last (Err (abrupt.Throw v), s) go few on = few
m-after b last (Err (abrupt.Return v), s) go few on = few
m-after b last (Err (abrupt.Stop cause), s) go few on = few
m-after b last (Err abrupt.NoMemory, s) go few on = few

m-list : (b : ScriptList) (at : Inside) (kids : Trees) (site : Site) (last : Option Value) (s : State) → IsLawful b at → AreForms b site.script kids → ScriptsAreThere b s.heap → Leaves b (list_rule at kids site last s)
unfolding list_rule Leaves
m-list b at nothing site last s takes are few = few
m-list b at (tree head kids rest) site last s takes are few =
    m-after b last _ _ (m-at b at role.Statement _ site s takes (record { head = are.0; kids = are.1 }) few) (λ last s few. m-list b at rest site last s takes are.2 few)

m-block-by : (b : ScriptList) (declared : List Declaration) (at : Inside) (kids : Trees) (site : Site) (s : State) → IsLawful b at → AreDeclared b site.script declared → AreForms b site.script kids → ScriptsAreThere b s.heap → Leaves b (block_by declared at kids site s)
m-block-by b [] at kids site s takes declared are few = m-list b at kids site None s takes are few
m-block-by b (first ∷ more) at kids site s takes declared are few =
    m-heap {A = ℕ} b s (block_scope site.script site.global site.scope (first ∷ more) s.heap) _ few
    (o-block b site.script site.global site.scope (first ∷ more) s.heap declared) (λ scope s few. m-list b at kids (record site { scope = scope }) None s takes are few)

m-block : (b : ScriptList) (at : Inside) (kids : Trees) (site : Site) (s : State) → IsLawful b at → AreForms b site.script kids → ScriptsAreThere b s.heap → Leaves b (block_rule at kids site s)
unfolding block_rule
m-block b at kids site s takes are few = m-block-by b _ at kids site s takes (list_declared b site.script kids are) are few

m-declarator : (b : ScriptList) (kind : Kind) (o : Out) (name : List ℕ) (site : Site) (s : State) (go : State → Out) → Leaves b o → ScriptsAreThere b s.heap
    → ((s : State) → ScriptsAreThere b s.heap → Leaves b (go s)) → Leaves b (declarator kind o name site s go)
m-declarator b kinds.Absent o name site s go few fewer on =
    on (record s { heap = initialised s.heap site.scope name value.Undefined }) (s-initialised b s.heap site.scope name value.Undefined fewer)
m-declarator b _ o name site s go few fewer on =
    m-value b o _ few (λ v s few. on (record s { heap = initialised s.heap site.scope name v }) (s-initialised b s.heap site.scope name v few))

m-declare : (b : ScriptList) (at : Inside) (names : List (List ℕ)) (kids : Trees) (site : Site) (s : State) → IsLawful b at → AreForms b site.script kids → ScriptsAreThere b s.heap → Leaves b (declare_rule at names kids site s)
unfolding declare_rule Leaves
m-declare b at [] kids site s takes are few = few
m-declare b at (name ∷ names) nothing site s takes are few = few
m-declare b at (name ∷ names) (tree head kids rest) site s takes are few =
    m-declarator b head.kind _ name site s _ (m-at b at role.Value _ site s takes (record { head = are.0; kids = are.1 }) few) few (λ s few. m-declare b at names rest site s takes are.2 few)

m-filled : (b : ScriptList) (o : Out) → Leaves b o → Leaves b (filled o)
unfolding Leaves
m-filled b (Ok end, s) few = few
m-filled b (Err (abrupt.Break v), s) few = few
m-filled b (Err (abrupt.Continue v), s) few = few
m-filled b (Err (abrupt.Throw v), s) few = few
m-filled b (Err (abrupt.Return v), s) few = few
m-filled b (Err (abrupt.Stop cause), s) few = few
m-filled b (Err abrupt.NoMemory, s) few = few

m-else : (b : ScriptList) (kind : Kind) (o : Out) (s : State) → Leaves b o → ScriptsAreThere b s.heap → Leaves b (else_by kind o s)
unfolding Leaves
m-else b kinds.Absent o s few fewer = fewer
m-else b _ o s few fewer = few

m-choice : (b : ScriptList) (at : Inside) (kids : Trees) (site : Site) (s : State) → IsLawful b at → AreForms b site.script kids → ScriptsAreThere b s.heap → Leaves b (if_rule at kids site s)
unfolding if_rule
m-choice b at kids site s takes are few =
    m-value b _ _ (m-at b at role.Value _ site s takes (kid_form b site.script 0 kids are) few) (λ v s few.
    m-filled b _ (m-if b _ _ _ (m-at b at role.Statement _ site s takes (kid_form b site.script 1 kids are) few) (m-else b _ _ s (m-at b at role.Statement _ site s takes (kid_form b site.script 2 kids are) few) few)))

m-return-by : (b : ScriptList) (kind : Kind) (o : Out) (s : State) → Leaves b o → ScriptsAreThere b s.heap → Leaves b (return_by kind o s)
unfolding Leaves
m-return-by b kinds.Absent o s few fewer = fewer
m-return-by b _ o s few fewer = m-value b o _ few (λ v s few. few)

m-return : (b : ScriptList) (at : Inside) (kids : Trees) (site : Site) (s : State) → IsLawful b at → AreForms b site.script kids → ScriptsAreThere b s.heap → Leaves b (return_rule at kids site s)
unfolding return_rule
m-return b at kids site s takes are few = m-return-by b _ _ s (m-at b at role.Value _ site s takes (kid_form b site.script 0 kids are) few) few

-- ---- loops

-- where a part that may be left out is there, it is a form of this script
abbrev PartForm : ScriptList → ℕ → Option Tree → Type 0
PartForm b script None = Unit {0}
PartForm b script (Some t) = IsForm b script t

part_form : (b : ScriptList) (script : ℕ) (kind : Kind) (t : Tree) → IsForm b script t → PartForm b script (part_by kind t)
part_form b script kinds.Absent t is = tt
part_form b script _ t is = is

record LoopForm (b : ScriptList) (script : ℕ) (loop : Loop) : Type 0 where
  test : PartForm b script loop.test
  body : IsForm b script loop.body
  update : PartForm b script loop.update

while_form : (b : ScriptList) (script : ℕ) (kids : Trees) → AreForms b script kids → LoopForm b script (while_loop kids)
while_form b script kids are = record { test = kid_form b script 0 kids are; body = kid_form b script 1 kids are; update = tt }

for_form : (b : ScriptList) (script : ℕ) (kids : Trees) → AreForms b script kids → LoopForm b script (for_loop kids)
for_form b script kids are = record {
  test = part_form b script (kid 1 kids).head.kind (kid 1 kids) (kid_form b script 1 kids are);
  body = kid_form b script 3 kids are;
  update = part_form b script (kid 2 kids).head.kind (kid 2 kids) (kid_form b script 2 kids are);
}

form_here : (b : ScriptList) (script : ℕ) (site : Site) (t : Tree) → site.script ≡ script → IsForm b script t → IsForm b site.script t
form_here b script site t same is = subst (λ (n : ℕ). IsForm b n t) (sym same) is

-- each round stands in the same script
m-copied : (b : ScriptList) (site : Site) (s : State) (made : Ends ℕ) (go : Site → State → Out) → Keeps b s.heap made → ScriptsAreThere b s.heap
    → ((other : Site) (after : State) → other.script ≡ site.script → ScriptsAreThere b after.heap → Leaves b (go other after))
    → Leaves b (on_heap s (and_then made (λ scope after. (Ok (record site { scope = scope }), after))) go)
unfolding Leaves
m-copied b site s (Ok scope, heap) go keeps few on = on (record site { scope = scope }) (record s { heap = heap }) refl (keeps few)
m-copied b site s (Err failed, heap) go keeps few on = keeps few

m-round : (b : ScriptList) (fresh : Bool) (site : Site) (s : State) (go : Site → State → Out) → ScriptsAreThere b s.heap
    → ((other : Site) (after : State) → other.script ≡ site.script → ScriptsAreThere b after.heap → Leaves b (go other after))
    → Leaves b (on_heap s (round_site fresh site s.heap) go)
m-round b false site s go few on = on site s refl few
m-round b true site s go few on = m-copied b site s (scope_copied site.scope s.heap) go (o-copied b site.scope s.heap) few on

m-updated : (b : ScriptList) (script : ℕ) (at : Inside) (update : Option Tree) (site : Site) (s : State) (go : State → Out) → IsLawful b at
    → site.script ≡ script → PartForm b script update → ScriptsAreThere b s.heap
    → ((after : State) → ScriptsAreThere b after.heap → Leaves b (go after)) → Leaves b (updated at update site s go)
m-updated b script at None site s go takes same is few on = on s few
m-updated b script at (Some update) site s go takes same is few on =
    m-value b (at role.Value update site s) (λ _ s. go s) (m-at b at role.Value update site s takes (form_here b script site update same is) few) (λ v after few. on after few)

m-next : (b : ScriptList) (script : ℕ) (at : Inside) (loop : Loop) (site : Site) (s : State) (go : Site → State → Out) → IsLawful b at
    → site.script ≡ script → LoopForm b script loop → ScriptsAreThere b s.heap
    → ((other : Site) (after : State) → other.script ≡ script → ScriptsAreThere b after.heap → Leaves b (go other after)) → Leaves b (to_next at loop site s go)
m-next b script at loop site s go takes same is few on =
    m-round b loop.fresh site s (λ site s. updated at loop.update site s (λ s. go site s)) few (λ other after now few.
    m-updated b script at loop.update other after (λ s. go other s) takes (now ∙ same) is.update few (λ after few. on other after (now ∙ same) few))

m-turned : (b : ScriptList) (script : ℕ) (at : Inside) (loop : Loop) (last : Option Value) (site : Site) (go : Option Value → Site → State → Out) (o : Out)
    → IsLawful b at → site.script ≡ script → LoopForm b script loop → Leaves b o
    → ((last : Option Value) (other : Site) (after : State) → other.script ≡ script → ScriptsAreThere b after.heap → Leaves b (go last other after))
    → Leaves b (after_body last o (λ last s. to_next at loop site s (λ site s. go last site s)))
unfolding Leaves
m-turned b script at loop last site go (Ok end, t) takes same is few on =
    m-next b script at loop site t (λ site s. go _ site s) takes same is few (λ other after same few. on _ other after same few)
m-turned b script at loop last site go (Err (abrupt.Continue v), t) takes same is few on =
    m-next b script at loop site t (λ site s. go _ site s) takes same is few (λ other after same few. on _ other after same few)
m-turned b script at loop last site go (Err (abrupt.Break v), t) takes same is few on = few
m-turned b script at loop last site go (Err (abrupt.Throw v), t) takes same is few on = few
m-turned b script at loop last site go (Err (abrupt.Return v), t) takes same is few on = few
m-turned b script at loop last site go (Err (abrupt.Stop cause), t) takes same is few on = few
m-turned b script at loop last site go (Err abrupt.NoMemory, t) takes same is few on = few

m-tested : (b : ScriptList) (script : ℕ) (at : Inside) (test : Option Tree) (site : Site) (s : State) (good bad : State → Out) → IsLawful b at
    → site.script ≡ script → PartForm b script test → ScriptsAreThere b s.heap
    → ((after : State) → ScriptsAreThere b after.heap → Leaves b (good after)) → ((after : State) → ScriptsAreThere b after.heap → Leaves b (bad after))
    → Leaves b (tested at test site s good bad)
m-tested b script at None site s good bad takes same is few on off = on s few
m-tested b script at (Some test) site s good bad takes same is few on off =
    m-value b (at role.Value test site s) (λ v s. if truthy s.heap v then good s else bad s)
    (m-at b at role.Value test site s takes (form_here b script site test same is) few)
    (λ v after few. m-if b (truthy after.heap v) (good after) (bad after) (on after few) (off after few))

m-rounds : (b : ScriptList) (script most : ℕ) (at : Inside) (loop : Loop) (last : Option Value) (site : Site) (s : State) → IsLawful b at
    → site.script ≡ script → LoopForm b script loop → ScriptsAreThere b s.heap → Leaves b (rounds most at loop last site s)
unfolding rounds Leaves
m-rounds b script zero at loop last site s takes same is few = few
m-rounds b script (suc most) at loop last site s takes same is few =
    m-tested b script at loop.test site s (λ s. turn at loop last site s (λ last site s. rounds most at loop last site s)) (λ s. loop_end last s) takes same is.test few
    (λ now few. m-turned b script at loop last site (λ last site s. rounds most at loop last site s) (at role.Statement loop.body site now) takes same is
    (m-at b at role.Statement loop.body site now takes (form_here b script site loop.body same is.body) few)
    (λ last other after same few. m-rounds b script most at loop last other after takes same is few))
    (λ s few. few)

m-loop : (b : ScriptList) (script : ℕ) (at : Inside) (loop : Loop) (last : Option Value) (site : Site) (s : State) → IsLawful b at
    → site.script ≡ script → LoopForm b script loop → ScriptsAreThere b s.heap → Leaves b (loop_rule at loop last site s)
unfolding loop_rule
m-loop b script at loop last site s takes same is few = m-rounds b script (suc s.left) at loop last site s takes same is few

m-while : (b : ScriptList) (at : Inside) (kids : Trees) (site : Site) (s : State) → IsLawful b at → AreForms b site.script kids → ScriptsAreThere b s.heap → Leaves b (while_rule at kids site s)
unfolding while_rule
m-while b at kids site s takes are few = m-loop b site.script at _ None site s takes refl (while_form b site.script kids are) few

m-started : (b : ScriptList) (kind : Kind) (at : Inside) (head : Tree) (site : Site) (s : State) (go : State → Out) → IsLawful b at → IsForm b site.script head → ScriptsAreThere b s.heap
    → ((s : State) → ScriptsAreThere b s.heap → Leaves b (go s)) → Leaves b (started kind at head site s go)
m-started b kinds.Absent at head site s go takes is few on = on s few
m-started b _ at head site s go takes is few on = m-end b _ go (m-at b at _ head site s takes is few) on

m-headed : (b : ScriptList) (at : Inside) (kids : Trees) (site : Site) (s : State) → IsLawful b at → AreForms b site.script kids → ScriptsAreThere b s.heap → Leaves b (headed at kids site s)
m-headed b at kids site s takes are few =
    m-started b (kid 0 kids).head.kind at (kid 0 kids) site s (λ s. first_round at (for_loop kids) site s) takes (kid_form b site.script 0 kids are) few
    (λ s few. m-round b (for_loop kids).fresh site s (λ site s. loop_rule at (for_loop kids) None site s) few
    (λ other after same few. m-loop b site.script at (for_loop kids) None other after takes same (for_form b site.script kids are) few))

m-for-by : (b : ScriptList) (declared : List Declaration) (at : Inside) (kids : Trees) (site : Site) (s : State) → IsLawful b at → AreDeclared b site.script declared → AreForms b site.script kids → ScriptsAreThere b s.heap → Leaves b (for_by declared at kids site s)
m-for-by b [] at kids site s takes declared are few = m-headed b at kids site s takes are few
m-for-by b (first ∷ more) at kids site s takes declared are few =
    m-heap {A = ℕ} b s (block_scope site.script site.global site.scope (first ∷ more) s.heap) _ few
    (o-block b site.script site.global site.scope (first ∷ more) s.heap declared) (λ scope s few. m-headed b at kids (record site { scope = scope }) s takes are few)

m-for : (b : ScriptList) (at : Inside) (kids : Trees) (site : Site) (s : State) → IsLawful b at → AreForms b site.script kids → ScriptsAreThere b s.heap → Leaves b (for_rule at kids site s)
unfolding for_rule
m-for b at kids site s takes are few = m-for-by b _ at kids site s takes (list_declared b site.script kids are) are few

-- ---- handlers

m-throw : (b : ScriptList) (at : Inside) (kids : Trees) (site : Site) (s : State) → IsLawful b at → AreForms b site.script kids → ScriptsAreThere b s.heap → Leaves b (throw_rule at kids site s)
unfolding throw_rule Leaves
m-throw b at kids site s takes are few = m-value b _ _ (m-at b at role.Value _ site s takes (kid_form b site.script 0 kids are) few) (λ v s few. few)

m-handler : (b : ScriptList) (name : Option (List ℕ)) (at : Inside) (handler : Tree) (site : Site) (v : Value) (s : State) → IsLawful b at → IsForm b site.script handler → ScriptsAreThere b s.heap
    → Leaves b (handler_by name at handler site v s)
m-handler b None at handler site v s takes is few = m-at b at role.Statement handler site s takes is few
m-handler b (Some name) at handler site v s takes is few =
    m-heap {A = ℕ} b s (catch_scope site.scope name v s.heap) _ few (o-catch b site.scope name v s.heap) (λ scope s few. m-at b at role.Statement handler _ s takes is few)

m-caught : (b : ScriptList) (o : Out) (handle : Value → State → Out) → Leaves b o → ((v : Value) (s : State) → ScriptsAreThere b s.heap → Leaves b (handle v s)) → Leaves b (caught o handle)
unfolding Leaves
m-caught b (Err (abrupt.Throw v), s) handle few on = on v s few
m-caught b (Err (abrupt.Return v), s) handle few on = few
m-caught b (Err (abrupt.Break v), s) handle few on = few
m-caught b (Err (abrupt.Continue v), s) handle few on = few
m-caught b (Err (abrupt.Stop cause), s) handle few on = few
m-caught b (Err abrupt.NoMemory, s) handle few on = few
m-caught b (Ok end, s) handle few on = few

m-handled-by : (b : ScriptList) (kind : Kind) (at : Inside) (name : Option (List ℕ)) (handler : Tree) (site : Site) (o : Out) → IsLawful b at → IsForm b site.script handler → Leaves b o
    → Leaves b (handled_by kind at name handler site o)
m-handled-by b kinds.Absent at name handler site o takes is few = few
m-handled-by b _ at name handler site o takes is few = m-caught b o _ few (λ v s few. m-handler b name at handler site v s takes is few)

m-kept : (b : ScriptList) (before : Result Ended Abrupt) (o : Out) → Leaves b o → Leaves b (kept before o)
unfolding Leaves
m-kept b before (Ok end, s) few = few
m-kept b before (Err e, s) few = few

m-last : (b : ScriptList) (o : Out) (finish : State → Out) → Leaves b o → ((s : State) → ScriptsAreThere b s.heap → Leaves b (finish s)) → Leaves b (at_last o finish)
unfolding Leaves
m-last b (Ok end, s) finish few on = m-kept b _ (finish s) (on s few)
m-last b (Err (abrupt.Throw v), s) finish few on = m-kept b _ (finish s) (on s few)
m-last b (Err (abrupt.Return v), s) finish few on = m-kept b _ (finish s) (on s few)
m-last b (Err (abrupt.Break v), s) finish few on = m-kept b _ (finish s) (on s few)
m-last b (Err (abrupt.Continue v), s) finish few on = m-kept b _ (finish s) (on s few)
m-last b (Err (abrupt.Stop cause), s) finish few on = few
m-last b (Err abrupt.NoMemory, s) finish few on = few

m-finalized-by : (b : ScriptList) (kind : Kind) (at : Inside) (finalizer : Tree) (site : Site) (o : Out) → IsLawful b at → IsForm b site.script finalizer → Leaves b o → Leaves b (finalized_by kind at finalizer site o)
m-finalized-by b kinds.Absent at finalizer site o takes is few = few
m-finalized-by b _ at finalizer site o takes is few = m-last b o _ few (λ s few. m-at b at role.Statement finalizer site s takes is few)

m-try : (b : ScriptList) (at : Inside) (t : Tree) (site : Site) (s : State) → IsLawful b at → IsForm b site.script t → ScriptsAreThere b s.heap → Leaves b (try_rule at t site s)
unfolding try_rule
m-try b at t site s takes are few =
    m-filled b _ (m-finalized-by b (kid 2 t.kids).head.kind at (kid 2 t.kids) site _ takes (kid_form b site.script 2 t.kids are.kids)
    (m-handled-by b (kid 1 t.kids).head.kind at t.head.name (kid 1 t.kids) site _ takes (kid_form b site.script 1 t.kids are.kids)
    (m-at b at role.Statement (kid 0 t.kids) site s takes (kid_form b site.script 0 t.kids are.kids) few)))

-- ---- forms

m-operation : (b : ScriptList) (op : Option Operator) (at : Inside) (kids : Trees) (site : Site) (s : State) → IsLawful b at → AreForms b site.script kids → ScriptsAreThere b s.heap
    → Leaves b (operation op b at kids site s)
unfolding Leaves
m-operation b (Some (operator.Binary op)) at kids site s takes are few = m-binary b op at kids site s takes are few
m-operation b (Some (operator.Unary unary.TypeOf)) at kids site s takes are few = m-typeof b at kids site s takes are few
m-operation b (Some (operator.Unary op)) at kids site s takes are few = m-unary b op at kids site s takes are few
m-operation b (Some (operator.Update op)) at kids site s takes are few = m-update b op at kids site s takes are few
m-operation b (Some (operator.Step op before)) at kids site s takes are few = m-step b op before at kids site s takes are few
m-operation b None at kids site s takes are few = few

m-by-value : (b : ScriptList) (kind : Kind) (at : Inside) (t : Tree) (site : Site) (s : State) → IsLawful b at → IsForm b site.script t → t.head.kind ≡ kind → ScriptsAreThere b s.heap
    → Leaves b (value_by kind b at t site s)
unfolding Leaves
m-by-value b kinds.Num at t site s takes are is few = few
m-by-value b kinds.Text at t site s takes are is few = m-of b s (text_made (name_of t) s.heap) few (o-value b (item.Text (name_of t)) s.heap tt)
m-by-value b kinds.Undefined at t site s takes are is few = few
m-by-value b kinds.Null at t site s takes are is few = few
m-by-value b kinds.True at t site s takes are is few = few
m-by-value b kinds.False at t site s takes are is few = few
m-by-value b kinds.This at t site s takes are is few = few
m-by-value b kinds.Name at t site s takes are is few =
    m-of b s (name_outcome (name_of t) site.scope site.global s.heap) few (o-name b (name_of t) site.scope site.global s.heap)
m-by-value b kinds.Comma at t site s takes are is few = m-comma b at t.kids site s takes are.kids few
m-by-value b kinds.Assign at t site s takes are is few = m-assign b at t.kids site s takes are.kids few
m-by-value b kinds.Arrow at t site s takes are is few =
    m-of b s (closure_made t.head.number_of_node site site.receiver s.heap) few (o-closure b t.head.number_of_node site site.receiver s.heap (are.head (ap is_function_kind is)))
m-by-value b kinds.FunctionExpr at t site s takes are is few = m-function b t site s (are.head (ap is_function_kind is)) few
m-by-value b kinds.Cond at t site s takes are is few = m-condition b at t.kids site s takes are.kids few
m-by-value b kinds.Coalesce at t site s takes are is few = m-logical b _ at t.kids site s takes are.kids few
m-by-value b kinds.Or at t site s takes are is few = m-logical b _ at t.kids site s takes are.kids few
m-by-value b kinds.And at t site s takes are is few = m-logical b _ at t.kids site s takes are.kids few
m-by-value b kinds.Void at t site s takes are is few = m-void b at t.kids site s takes are.kids few
m-by-value b kinds.Member at t site s takes are is few = m-member b role.Value at t site s takes are few
m-by-value b kinds.Index at t site s takes are is few = m-index b role.Value at t.kids site s takes are.kids few
m-by-value b kinds.Call at t site s takes are is few = m-called b at t.kids site s takes are.kids few
m-by-value b kinds.Array at t site s takes are is few = m-array b at t.kids site s takes are.kids few
m-by-value b kinds.Object at t site s takes are is few = m-object b at t site s takes are few
m-by-value b kind at t site s takes are is few = m-operation b (operator_of kind) at t.kids site s takes are.kids few

m-by-target : (b : ScriptList) (kind : Kind) (at : Inside) (t : Tree) (site : Site) (s : State) → IsLawful b at → IsForm b site.script t → ScriptsAreThere b s.heap → Leaves b (target_by kind at t site s)
unfolding Leaves
m-by-target b kinds.Name at t site s takes are few = few
m-by-target b kinds.Member at t site s takes are few = m-member b role.Target at t site s takes are few
m-by-target b kinds.Index at t site s takes are few = m-index b role.Target at t.kids site s takes are.kids few
m-by-target b _ at t site s takes are few = few

m-by-callee : (b : ScriptList) (kind : Kind) (at : Inside) (t : Tree) (site : Site) (s : State) → IsLawful b at → IsForm b site.script t → t.head.kind ≡ kind → ScriptsAreThere b s.heap
    → Leaves b (callee_by kind b at t site s)
m-by-callee b kinds.Member at t site s takes are is few = m-member b role.Callee at t site s takes are few
m-by-callee b kinds.Index at t site s takes are is few = m-index b role.Callee at t.kids site s takes are.kids few
m-by-callee b kind at t site s takes are is few = m-by-value b kind at t site s takes are is few

m-by-statement : (b : ScriptList) (kind : Kind) (at : Inside) (t : Tree) (site : Site) (s : State) → IsLawful b at → IsForm b site.script t → ScriptsAreThere b s.heap → Leaves b (statement_by kind at t site s)
unfolding Leaves
m-by-statement b kinds.Script at t site s takes are few = m-list b at t.kids site None s takes are.kids few
m-by-statement b kinds.Body at t site s takes are few = m-list b at t.kids site None s takes are.kids few
m-by-statement b kinds.Block at t site s takes are few = m-block b at t.kids site s takes are.kids few
m-by-statement b kinds.Let at t site s takes are few = m-declare b at t.head.names t.kids site s takes are.kids few
m-by-statement b kinds.Const at t site s takes are few = m-declare b at t.head.names t.kids site s takes are.kids few
m-by-statement b kinds.ExprStmt at t site s takes are few = m-at b at role.Value _ site s takes (kid_form b site.script 0 t.kids are.kids) few
m-by-statement b kinds.If at t site s takes are few = m-choice b at t.kids site s takes are.kids few
m-by-statement b kinds.Return at t site s takes are few = m-return b at t.kids site s takes are.kids few
m-by-statement b kinds.While at t site s takes are few = m-while b at t.kids site s takes are.kids few
m-by-statement b kinds.For at t site s takes are few = m-for b at t.kids site s takes are.kids few
m-by-statement b kinds.Throw at t site s takes are few = m-throw b at t.kids site s takes are.kids few
m-by-statement b kinds.Try at t site s takes are few = m-try b at t site s takes are few
m-by-statement b _ at t site s takes are few = few

m-node : (b : ScriptList) (for : Role) (at : Inside) (t : Tree) (site : Site) (s : State) → IsLawful b at → IsForm b site.script t → ScriptsAreThere b s.heap
    → Leaves b (node_by for b at t site s)
m-node b role.Value at t site s takes are few = m-by-value b t.head.kind at t site s takes are refl few
m-node b role.Target at t site s takes are few = m-by-target b t.head.kind at t site s takes are few
m-node b role.Callee at t site s takes are few = m-by-callee b t.head.kind at t site s takes are refl few
m-node b role.Statement at t site s takes are few = m-by-statement b t.head.kind at t site s takes are few

-- ---- nodes

-- ---- nodes

too-deep-kept : (b : ScriptList) (s : State) → ScriptsAreThere b s.heap → Leaves b (too_deep s)
too-deep-kept b s few = m-of b s (thrown RangeError (codes "nesting too deep") s.heap) few (o-thrown b RangeError (codes "nesting too deep") s.heap)

lawful : (b : ScriptList) (room : ℕ) → IsLawful b (evaluated b room)
unfolding evaluated Leaves
lawful b zero = record { keeps = λ for t site s is few. m-ticked b s.left s too_deep few (λ s few. too-deep-kept b s few) }
lawful b (suc room) = record {
  keeps = λ for t site s is few.
      m-ticked b s.left s (λ s. node_by for b (evaluated b room) t site s) few
      (λ s few. m-node b for (evaluated b room) t site s (lawful b room) is few);
}

-- ---- runs

pub script_keeps : (scripts : ScriptList) (script root names global : ℕ) (s : State) → ScriptsAreThere scripts s.heap
    → ScriptsAreThere scripts (script_run scripts script root names global s).1.heap
unfolding script_run Leaves
script_keeps scripts script root names global s few =
    let form = number_form scripts script root in
    m-heap {A = Unit {0}} scripts s (script_declared script names global (declarations (form_at scripts script root).kids) s.heap) _ few
    (o-script scripts script names global (declarations (form_at scripts script root).kids) s.heap (list_declared scripts script (form_at scripts script root).kids form.kids))
    (λ _ now few. m-at scripts (evaluated scripts NESTING) role.Statement (form_at scripts script root) _ now (lawful scripts NESTING) form few)

pub call_keeps : (scripts : ScriptList) (function receiver : Value) (arguments : List Value) (s : State) → ScriptsAreThere scripts s.heap
    → ScriptsAreThere scripts (call_run scripts function receiver arguments s).1.heap
unfolding call_run Leaves
call_keeps scripts function receiver arguments s few =
    m-call scripts (evaluated scripts NESTING) function receiver arguments s (lawful scripts NESTING) few
