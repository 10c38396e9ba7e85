-- Each call over a heap keeps its functions those of their scripts.
use Rattle.std.proofs.Common.{◌≡◌, ◌∙◌, ℕ, ◌+◌, ◌-◌, ◌≤◌, List, [], ◌∷◌, ◌++◌, length, take, Bool, true, false, Option, Some, None, Result, Ok, Err, refl, ap, sym, subst, arith, is_some, if◌then◌else◌}
use Rattle.std.specs.Prelude.{pos, codes}
use Rattle.std.proofs.lemmas.List.{length-take}
use Rattle.ivm_text.specs.Keys.{value_at}
use Rattle.ivm_text.specs.declared.copies.ErrorKind.{ErrorKind}
use Rattle.ivm_text.specs.declared.copies.ErrorKind.TheVariants.{TypeError, RangeError}
use Rattle.charged_heap.specs.Ends.{Ends, and_then, item_made}
use Rattle.charged_heap.specs.Price.{charge_of}
use Rattle.charged_heap.specs.Store.{Store, item_at, properties, elements, with_item, with_property, with_place, with_elements, with_binding, with_function}
use Rattle.charged_heap.specs.declared.builtin.Builtin.{Builtin}
use Rattle.charged_heap.specs.declared.builtin.Builtin.TheVariants as builtin
use Rattle.charged_heap.specs.declared.fault.Fail.TheVariants.{Throw}
use Rattle.charged_heap.specs.declared.item.Item.{Item}
use Rattle.charged_heap.specs.declared.item.Item.TheVariants as item
use Rattle.charged_heap.specs.declared.price.TheConstants.{ELEMENT_CELLS, BINDING_CELLS}
use Rattle.charged_heap.specs.declared.values.Binding.{Binding}
use Rattle.charged_heap.specs.declared.values.Value.{Value}
use Rattle.charged_heap.specs.declared.values.Value.TheVariants as value
use Rattle.js_ops.specs.Errors.{error_kind, error_text, name_error_text}
use Rattle.js_ops.specs.Operators.{binary_answer, unary_answer}
use Rattle.js_ops.specs.Outcome.{value_made, text_made, thrown, error_thrown, name_error_thrown, outcome_of, binary_outcome, unary_outcome}
use Rattle.js_ops.specs.declared.answer.Answer.{Answer}
use Rattle.js_ops.specs.declared.answer.Answer.TheVariants.{Truth, Number, Text, Fault}
use Rattle.js_ops.specs.declared.error.ScriptError.{ScriptError}
use Rattle.js_ops.specs.declared.error.ScriptError.TheVariants.{NotDefined, NotInitialised, Constant, BadArgument, AlreadyDeclared}
use Rattle.js_ops.specs.declared.operators.BinaryOperator.{BinaryOperator}
use Rattle.js_ops.specs.declared.operators.UnaryOperator.{UnaryOperator}
use Rattle.js_ops.specs.declared.operators.UnaryOperator.TheVariants.{TypeOf}
use Rattle.js_members.specs.Arrays.{pushed, pushed_at, push_outcome, array_at, last_of, without_last, popped, popped_as, popped_at, pop_outcome}
use Rattle.js_members.specs.Reads.{reading_of, reading_outcome, read_outcome}
use Rattle.js_members.specs.Writes.{price_at, appended, target_of, target_outcome, write_outcome}
use Rattle.js_members.specs.declared.reading.Reading.{Reading}
use Rattle.js_members.specs.declared.reading.Reading.TheVariants as reading
use Rattle.js_members.specs.declared.target.Target.{Target}
use Rattle.js_members.specs.declared.target.Target.TheVariants.{Property, Element, End, Refused}
use Rattle.charged_heap.specs.Bindings.{place_of}
use Rattle.js_scopes.specs.Bindings.{bindings_of, binding_at, parent_of, new_binding}
use Rattle.js_scopes.specs.Clashes.{clash_outcome}
use Rattle.js_scopes.specs.Lists.{with_declared, with_parameters, function_item, functions_made, block_scope, with_arguments, call_scope, name_scope, catch_scope}
use Rattle.js_scopes.specs.Lookup.{binding_of, builtin_of, first_of, lookup}
use Rattle.js_scopes.specs.Names.{value_found, read_as, name_outcome, typed_as, typeof_outcome, assigned_binding, assigned_found, assign_outcome}
use Rattle.js_scopes.specs.Scopes.{scope_with, scope_made, scope_copied, initialised_at, initialised}
use Rattle.js_scopes.specs.Scripts.{clash_among, name_declared, noted, names_declared, functions_declared, declared_unless, script_declared}
use Rattle.js_scopes.specs.declared.lookup.BindingPlace.{BindingPlace}
use Rattle.js_scopes.specs.declared.lookup.Lookup.{Lookup}
use Rattle.js_trees.specs.declared.declaration.Declaration.{Declaration}
use Rattle.js_trees.specs.declared.declaration.Declaration.TheVariants as declaration
use Rattle.script_meaning.specs.Expressions.{closure_made}
use Rattle.script_meaning.specs.Functions.{no_function, builtin_outcome}
use Rattle.script_meaning.specs.Loops.{round_site}
use Rattle.script_meaning.specs.Places.{ScriptList, name_at, key_units, wrong_kind, place_read, place_written, type_read, place_type}
use Rattle.script_meaning.specs.declared.site.Key.{Key}
use Rattle.script_meaning.specs.declared.site.Place.{Place}
use Rattle.script_meaning.specs.declared.site.Place.TheVariants as place
use Rattle.script_meaning.specs.declared.site.Site.{Site}
use Rattle.script_laws.specs.Scripts.{ScriptsAreThere, IsFunctionAt, ItsScriptIsThere}
use Rattle.script_laws.proofs.Changes.{AreDeclared, Keeps, Stays, asked_first, binding_kept, changed, elements_kept, ends_then, function_kept, item_ends, place_kept, property_kept, same_store, stays, stays-then, then_ends}

-- ---- made and thrown

pub o-value : (b : ScriptList) (one : Item) (s : Store) → ItsScriptIsThere b one → Keeps b s (value_made one s)
o-value b one s is = ends_then b s (item_made one s) (λ n after. (Ok (value.Item n), after)) (item_ends b one s is) (λ n after. same_store b after (Ok (value.Item n)))

pub o-thrown : (b : ScriptList) (sort : ErrorKind) (message : List ℕ) (s : Store) → Keeps b s (thrown sort message s)
o-thrown b sort message s =
    ends_then b s (item_made (item.Text message) s) _ (item_ends b (item.Text message) s tt) (λ text with_text.
    ends_then b with_text (item_made (item.Error sort text) with_text) _ (item_ends b (item.Error sort text) with_text tt) (λ error after.
    same_store {A = Value} b after (Err (Throw (value.Item error)))))

o-error : (b : ScriptList) (error : ScriptError) (s : Store) → Keeps b s (error_thrown error s)
o-error b error s = o-thrown b (error_kind error) (error_text error) s

o-name-error : (b : ScriptList) (error : ScriptError) (name : List ℕ) (s : Store) → Keeps b s (name_error_thrown error name s)
o-name-error b error name s = o-thrown b (error_kind error) (name_error_text error name) s

-- ---- operators

o-answer : (b : ScriptList) (answer : Answer) (s : Store) → Keeps b s (outcome_of answer s)
o-answer b (Truth is) s = same_store b s (Ok (value.Bool is))
o-answer b (Number n) s = same_store b s (Ok (value.Num n))
o-answer b (Text units) s = o-value b (item.Text units) s tt
o-answer b (Fault error) s = o-error b error s

pub o-binary : (b : ScriptList) (op : BinaryOperator) (left right : Value) (s : Store) → Keeps b s (binary_outcome op left right s)
unfolding binary_outcome
o-binary b op left right s = o-answer b (binary_answer s op left right) s

pub o-unary : (b : ScriptList) (op : UnaryOperator) (operand : Value) (s : Store) → Keeps b s (unary_outcome op operand s)
unfolding unary_outcome
o-unary b op operand s = o-answer b (unary_answer s op operand) s

-- ---- members

o-reading : (b : ScriptList) (found : Reading) (s : Store) → Keeps b s (reading_outcome found s)
o-reading b (reading.Held v) s = same_store b s (Ok v)
o-reading b (reading.Made units) s = o-value b (item.Text units) s tt
o-reading b (reading.Fault error) s = o-error b error s

pub o-read : (b : ScriptList) (base : Value) (key : List ℕ) (s : Store) → Keeps b s (read_outcome base key s)
unfolding read_outcome
o-read b base key s = o-reading b (reading_of s base key) s

one_element_more : (b : ScriptList) (s : Store) (n : ℕ) (v : Value) → Stays b s (appended s n v)
one_element_more b s n v =
    changed b s n (with_elements (item_at s n) (elements (item_at s n) ++ v ∷ []))
    (elements_kept b (item_at s n) (elements (item_at s n) ++ v ∷ []))

o-target : (b : ScriptList) (target : Target) (key : List ℕ) (v : Value) (s : Store) → Keeps b s (target_outcome target key v s)
o-target b (Property n) key v s =
    asked_first b s (price_at (item_at s n) key) (Ok v, with_item s n (with_property (item_at s n) key v))
    (changed b s n (with_property (item_at s n) key v) (property_kept b (item_at s n) key v))
o-target b (Element n k) key v s = changed b s n (with_place (item_at s n) k v) (place_kept b (item_at s n) k v)
o-target b (End n) key v s = asked_first b s ELEMENT_CELLS (Ok v, appended s n v) (one_element_more b s n v)
o-target b (Refused error) key v s = o-error b error s

pub o-write : (b : ScriptList) (base : Value) (key : List ℕ) (v : Value) (s : Store) → Keeps b s (write_outcome base key v s)
unfolding write_outcome
o-write b base key v s = o-target b (target_of s base key) key v s

pub o-pushed : (b : ScriptList) (n : ℕ) (values : List Value) (s : Store) → Keeps b s (pushed n values s)
o-pushed b n [] s = same_store b s (Ok (value.Num (pos (length (elements (item_at s n))))))
o-pushed b n (v ∷ values) s =
    asked_first b s ELEMENT_CELLS (pushed n values (appended s n v))
    (then_ends b s (appended s n v) (pushed n values (appended s n v)) (one_element_more b s n v) (o-pushed b n values (appended s n v)))

o-pushed-at : (b : ScriptList) (at : Option ℕ) (values : List Value) (s : Store) → Keeps b s (pushed_at at values s)
o-pushed-at b (Some n) values s = o-pushed b n values s
o-pushed-at b None values s = o-error b BadArgument s

o-push : (b : ScriptList) (receiver : Value) (arguments : List Value) (s : Store) → Keeps b s (push_outcome receiver arguments s)
unfolding push_outcome
o-push b receiver arguments s = o-pushed-at b (array_at s receiver) arguments s

o-popped : (b : ScriptList) (n : ℕ) (values : List Value) (last : Option Value) (s : Store) → Keeps b s (popped_as n values last s)
o-popped b n values (Some last) s =
    changed b s n (with_elements (item_at s n) (without_last values)) (elements_kept b (item_at s n) (without_last values))
o-popped b n values None s = same_store b s (Ok value.Undefined)

o-popped-at : (b : ScriptList) (at : Option ℕ) (s : Store) → Keeps b s (popped_at at s)
o-popped-at b (Some n) s =
    o-popped b n (elements (item_at s n)) (last_of (elements (item_at s n))) s
o-popped-at b None s = o-error b BadArgument s

o-pop : (b : ScriptList) (receiver : Value) (s : Store) → Keeps b s (pop_outcome receiver s)
unfolding pop_outcome
o-pop b receiver s = o-popped-at b (array_at s receiver) s

-- ---- names

o-read-as : (b : ScriptList) (found : Result Value ScriptError) (name : List ℕ) (s : Store) → Keeps b s (read_as found name s)
o-read-as b (Ok v) name s = same_store b s (Ok v)
o-read-as b (Err error) name s = o-name-error b error name s

pub o-name : (b : ScriptList) (name : List ℕ) (scope global : ℕ) (s : Store) → Keeps b s (name_outcome name scope global s)
unfolding name_outcome
o-name b name scope global s = o-read-as b (value_found s (lookup s scope global name)) name s

o-typed-as : (b : ScriptList) (found : Result Value ScriptError) (name : List ℕ) (s : Store) → Keeps b s (typed_as found name s)
o-typed-as b (Ok v) name s = o-unary b TypeOf v s
o-typed-as b (Err NotDefined) name s = o-value b (item.Text (codes "undefined")) s tt
o-typed-as b (Err error) name s = o-name-error b error name s

o-typeof : (b : ScriptList) (name : List ℕ) (scope global : ℕ) (s : Store) → Keeps b s (typeof_outcome name scope global s)
unfolding typeof_outcome
o-typeof b name scope global s = o-typed-as b (value_found s (lookup s scope global name)) name s

o-binding : (b : ScriptList) (was : Option Value) (constant : Bool) (at : BindingPlace) (name : List ℕ) (v : Value) (s : Store) → Keeps b s (assigned_binding was constant at name v s)
o-binding b None constant at name v s = o-name-error b NotInitialised name s
o-binding b (Some was) true at name v s = o-name-error b Constant name s
o-binding b (Some was) false at name v s =
    changed b s at.scope (with_place (item_at s at.scope) at.place v) (place_kept b (item_at s at.scope) at.place v)

o-assigned : (b : ScriptList) (at : Option BindingPlace) (property builtin : Option Value) (global : ℕ) (name : List ℕ) (v : Value) (s : Store)
    → Keeps b s (assigned_found (first_of at property builtin) global name v s)
o-assigned b (Some at) property builtin global name v s =
    o-binding b (binding_at (item_at s at.scope) at.place).value (binding_at (item_at s at.scope) at.place).constant at name v s
o-assigned b None (Some was) builtin global name v s =
    changed b s global (with_property (item_at s global) name v) (property_kept b (item_at s global) name v)
o-assigned b None None (Some was) global name v s = o-name-error b Constant name s
o-assigned b None None None global name v s = o-name-error b NotDefined name s

o-assign : (b : ScriptList) (name : List ℕ) (v : Value) (scope global : ℕ) (s : Store) → Keeps b s (assign_outcome name v scope global s)
unfolding assign_outcome lookup
o-assign b name v scope global s = o-assigned b (binding_of s name scope) (value_at (properties (item_at s global)) name) (builtin_of global name) global name v s

-- ---- scopes

o-scope : (b : ScriptList) (parent : Option ℕ) (bindings : List Binding) (s : Store) → Keeps b s (scope_made parent bindings s)
unfolding scope_made
o-scope b parent bindings s = item_ends b (scope_with parent bindings) s tt

pub o-copied : (b : ScriptList) (n : ℕ) (s : Store) → Keeps b s (scope_copied n s)
unfolding scope_copied
o-copied b n s = o-scope b (parent_of (item_at s n)) (bindings_of (item_at s n)) s

s-initialised-at : (b : ScriptList) (s : Store) (n : ℕ) (at : Option ℕ) (v : Value) → Stays b s (initialised_at s n at v)
s-initialised-at b s n (Some place) v = changed b s n (with_place (item_at s n) place v) (place_kept b (item_at s n) place v)
s-initialised-at b s n None v = stays b s

pub s-initialised : (b : ScriptList) (s : Store) (n : ℕ) (name : List ℕ) (v : Value) → Stays b s (initialised s n name v)
unfolding initialised
s-initialised b s n name v = s-initialised-at b s n (place_of (bindings_of (item_at s n)) name) v

o-functions : (b : ScriptList) (script global scope : ℕ) (declared : List Declaration) (s : Store) → AreDeclared b script declared → Keeps b s (functions_made script global scope declared s)
unfolding functions_made
o-functions b script global scope [] s are = same_store b s (Ok scope)
o-functions b script global scope (declaration.Variable name ∷ more) s are = o-functions b script global scope more s are
o-functions b script global scope (declaration.Constant name ∷ more) s are = o-functions b script global scope more s are
o-functions b script global scope (declaration.Function name node ∷ more) s are =
    ends_then b s (item_made (function_item script node scope global) s) _ (item_ends b (function_item script node scope global) s are.0) (λ n after.
    then_ends b after (initialised after scope name (value.Item n)) (functions_made script global scope more (initialised after scope name (value.Item n)))
    (s-initialised b after scope name (value.Item n)) (o-functions b script global scope more (initialised after scope name (value.Item n)) are.1))

pub o-block : (b : ScriptList) (script global parent : ℕ) (declared : List Declaration) (s : Store) → AreDeclared b script declared → Keeps b s (block_scope script global parent declared s)
unfolding block_scope
o-block b script global parent declared s are =
    ends_then b s (scope_made (Some parent) (with_declared [] declared) s) _ (o-scope b (Some parent) (with_declared [] declared) s)
    (λ scope after. o-functions b script global scope declared after are)

s-arguments : (b : ScriptList) (scope : ℕ) (names : List (List ℕ)) (arguments : List Value) (s : Store) → Stays b s (with_arguments scope names arguments s)
s-arguments b scope [] arguments s = stays b s
s-arguments b scope (name ∷ names) [] s =
    stays-then b s (initialised s scope name value.Undefined) (with_arguments scope names [] (initialised s scope name value.Undefined))
    (s-initialised b s scope name value.Undefined) (s-arguments b scope names [] (initialised s scope name value.Undefined))
s-arguments b scope (name ∷ names) (v ∷ arguments) s =
    stays-then b s (initialised s scope name v) (with_arguments scope names arguments (initialised s scope name v))
    (s-initialised b s scope name v) (s-arguments b scope names arguments (initialised s scope name v))

pub o-call : (b : ScriptList) (script global parent : ℕ) (parameters : List (List ℕ)) (declared : List Declaration) (arguments : List Value) (s : Store)
    → AreDeclared b script declared → Keeps b s (call_scope script global parent parameters declared arguments s)
unfolding call_scope
o-call b script global parent parameters declared arguments s are =
    ends_then b s (scope_made (Some parent) (with_declared (with_parameters [] parameters) declared) s) _
    (o-scope b (Some parent) (with_declared (with_parameters [] parameters) declared) s) (λ scope after.
    then_ends b after (with_arguments scope parameters arguments after) (functions_made script global scope declared (with_arguments scope parameters arguments after))
    (s-arguments b scope parameters arguments after) (o-functions b script global scope declared (with_arguments scope parameters arguments after) are))

pub o-name-scope : (b : ScriptList) (parent : ℕ) (name : List ℕ) (s : Store) → Keeps b s (name_scope parent name s)
unfolding name_scope
o-name-scope b parent name s = o-scope b (Some parent) _ s

pub o-catch : (b : ScriptList) (parent : ℕ) (name : List ℕ) (v : Value) (s : Store) → Keeps b s (catch_scope parent name v s)
unfolding catch_scope
o-catch b parent name v s =
    ends_then b s (scope_made (Some parent) _ s) (λ scope after. (Ok scope, initialised after scope name v)) (o-scope b (Some parent) _ s)
    (λ scope after. s-initialised b after scope name v)

-- ---- declarations of scripts

o-declared : (b : ScriptList) (name : List ℕ) (constant : Bool) (names : ℕ) (s : Store) → Keeps b s (name_declared name constant names s)
o-declared b name constant names s =
    asked_first {A = Unit {0}} b s BINDING_CELLS (Ok tt, with_item s names (with_binding (item_at s names) (new_binding name constant)))
    (changed b s names (with_binding (item_at s names) (new_binding name constant)) (binding_kept b (item_at s names) (new_binding name constant)))

s-noted : (b : ScriptList) (name : List ℕ) (names : ℕ) (s : Store) → Stays b s (noted name names s)
s-noted b name names s = changed b s names (with_function (item_at s names) name) (function_kept b (item_at s names) name)

o-names : (b : ScriptList) (names : ℕ) (declared : List Declaration) (s : Store) → Keeps b s (names_declared names declared s)
o-names b names [] s = same_store {A = Unit {0}} b s (Ok tt)
o-names b names (declaration.Variable name ∷ more) s =
    ends_then b s (name_declared name false names s) (λ _ after. names_declared names more after) (o-declared b name false names s) (λ _ after. o-names b names more after)
o-names b names (declaration.Constant name ∷ more) s =
    ends_then b s (name_declared name true names s) (λ _ after. names_declared names more after) (o-declared b name true names s) (λ _ after. o-names b names more after)
o-names b names (declaration.Function name node ∷ more) s = o-names b names more s

o-globals : (b : ScriptList) (script names global : ℕ) (declared : List Declaration) (s : Store) → AreDeclared b script declared → Keeps b s (functions_declared script names global declared s)
o-globals b script names global [] s are = same_store {A = Unit {0}} b s (Ok tt)
o-globals b script names global (declaration.Variable name ∷ more) s are = o-globals b script names global more s are
o-globals b script names global (declaration.Constant name ∷ more) s are = o-globals b script names global more s are
o-globals b script names global (declaration.Function name node ∷ more) s are =
    ends_then b s (item_made (function_item script node names global) s) _ (item_ends b (function_item script node names global) s are.0) (λ n made.
    ends_then b made (write_outcome (value.Item global) name (value.Item n) made) (λ _ after. functions_declared script names global more (noted name names after))
    (o-write b (value.Item global) name (value.Item n) made) (λ _ after.
    then_ends b after (noted name names after) (functions_declared script names global more (noted name names after))
    (s-noted b name names after) (o-globals b script names global more (noted name names after) are.1)))

o-unless : (b : ScriptList) (clash : Option (List ℕ)) (script names global : ℕ) (declared : List Declaration) (s : Store) → AreDeclared b script declared → Keeps b s (declared_unless clash script names global declared s)
o-unless b (Some name) script names global declared s are =
    ends_then {B = Unit {0}} b s (clash_outcome name s) (λ _ after. (Ok tt, after)) (o-name-error b AlreadyDeclared name s) (λ _ after. same_store {A = Unit {0}} b after (Ok tt))
o-unless b None script names global declared s are =
    ends_then b s (names_declared names declared s) (λ _ after. functions_declared script names global declared after) (o-names b names declared s)
    (λ _ after. o-globals b script names global declared after are)

pub o-script : (b : ScriptList) (script names global : ℕ) (declared : List Declaration) (s : Store) → AreDeclared b script declared → Keeps b s (script_declared script names global declared s)
unfolding script_declared
o-script b script names global declared s are = o-unless b (clash_among names s declared) script names global declared s are

-- ---- places, calls and rounds

pub o-wrong : (b : ScriptList) (s : Store) → Keeps b s (wrong_kind s)
o-wrong b s = o-thrown b TypeError (codes "wrong kind of operand") s

pub o-place-read : (b scripts : ScriptList) (site : Site) (at : Place) (s : Store) → Keeps b s (place_read scripts site at s)
unfolding place_read
o-place-read b scripts site (place.Name n) s = o-name b (name_at scripts site.script n) site.scope site.global s
o-place-read b scripts site (place.Member base key) s = o-read b base (key_units scripts site.script s key) s

pub o-place-written : (b scripts : ScriptList) (site : Site) (at : Place) (v : Value) (s : Store) → Keeps b s (place_written scripts site at v s)
unfolding place_written
o-place-written b scripts site (place.Name n) v s = o-assign b (name_at scripts site.script n) v site.scope site.global s
o-place-written b scripts site (place.Member base key) v s = o-write b base (key_units scripts site.script s key) v s

o-type : (b : ScriptList) (s : Store) (read : Ends Value) → Keeps b s read → Keeps b s (type_read read)
o-type b s (Ok v, t) one = then_ends b s t (unary_outcome TypeOf v t) one (o-unary b TypeOf v t)
o-type b s (Err failed, t) one = one

pub o-place-type : (b scripts : ScriptList) (site : Site) (at : Place) (s : Store) → Keeps b s (place_type scripts site at s)
unfolding place_type
o-place-type b scripts site (place.Name n) s = o-typeof b (name_at scripts site.script n) site.scope site.global s
o-place-type b scripts site (place.Member base key) s =
    o-type b s (read_outcome base (key_units scripts site.script s key) s) (o-read b base (key_units scripts site.script s key) s)

pub o-no-function : (b : ScriptList) (s : Store) → Keeps b s (no_function s)
o-no-function b s = o-thrown b TypeError (codes "not a function") s

pub o-builtin : (b : ScriptList) (which : Builtin) (receiver : Value) (arguments : List Value) (s : Store) → Keeps b s (builtin_outcome which receiver arguments s)
o-builtin b builtin.ArrayPush receiver arguments s = o-push b receiver arguments s
o-builtin b builtin.ArrayPop receiver arguments s = o-pop b receiver s
o-builtin b _ receiver arguments s = o-no-function b s

pub o-closure : (b : ScriptList) (node : ℕ) (site : Site) (receiver : Value) (s : Store) → IsFunctionAt b site.script node → Keeps b s (closure_made node site receiver s)
o-closure b node site receiver s is = o-value b (item.Closure site.script node site.scope site.global receiver) s is

pub o-round : (b : ScriptList) (fresh : Bool) (site : Site) (s : Store) → Keeps b s (round_site fresh site s)
o-round b false site s = same_store b s (Ok site)
o-round b true site s =
    ends_then b s (scope_copied site.scope s) (λ scope after. (Ok (record site { scope = scope }), after)) (o-copied b site.scope s) (λ scope after. same_store {A = Site} b after (Ok (record site { scope = scope })))
