-- Each call over a heap stays within the limit, and a refusal tells what didn't fit.
use Rattle.std.proofs.Common.{◌≡◌, ◌∙◌, ℕ, ◌+◌, ◌-◌, ◌≤◌, List, [], ◌∷◌, ◌++◌, length, take, Bool, true, false, Option, Some, None, Result, Ok, Err, refl, ap, sym, subst, arith, is_some, if◌then◌else◌}
use Rattle.std.specs.Prelude.{pos, codes}
use Rattle.std.proofs.lemmas.List.{length-take}
use Rattle.ivm_text.specs.Keys.{value_at}
use Rattle.ivm_text.specs.declared.copies.ErrorKind.{ErrorKind}
use Rattle.ivm_text.specs.declared.copies.ErrorKind.TheVariants.{TypeError, RangeError}
use Rattle.charged_heap.specs.Ends.{Ends, and_then, item_made}
use Rattle.charged_heap.specs.Price.{charge_of, price_of, property_price}
use Rattle.charged_heap.specs.Store.{Store, item_at, properties, elements, with_item, with_property, with_place, with_elements, with_binding, with_function}
use Rattle.charged_heap.specs.declared.builtin.Builtin.{Builtin}
use Rattle.charged_heap.specs.declared.builtin.Builtin.TheVariants as builtin
use Rattle.charged_heap.specs.declared.fault.Fail.TheVariants.{Throw}
use Rattle.charged_heap.specs.declared.item.Item.{Item}
use Rattle.charged_heap.specs.declared.item.Item.TheVariants as item
use Rattle.charged_heap.specs.declared.price.TheConstants.{ELEMENT_CELLS, BINDING_CELLS}
use Rattle.charged_heap.specs.declared.values.Binding.{Binding}
use Rattle.charged_heap.specs.declared.values.Value.{Value}
use Rattle.charged_heap.specs.declared.values.Value.TheVariants as value
use Rattle.js_ops.specs.Errors.{error_kind, error_text, name_error_text}
use Rattle.js_ops.specs.Operators.{binary_answer, unary_answer}
use Rattle.js_ops.specs.Outcome.{value_made, text_made, thrown, error_thrown, name_error_thrown, outcome_of, binary_outcome, unary_outcome}
use Rattle.js_ops.specs.declared.answer.Answer.{Answer}
use Rattle.js_ops.specs.declared.answer.Answer.TheVariants.{Truth, Number, Text, Fault}
use Rattle.js_ops.specs.declared.error.ScriptError.{ScriptError}
use Rattle.js_ops.specs.declared.error.ScriptError.TheVariants.{NotDefined, NotInitialised, Constant, BadArgument, AlreadyDeclared}
use Rattle.js_ops.specs.declared.operators.BinaryOperator.{BinaryOperator}
use Rattle.js_ops.specs.declared.operators.UnaryOperator.{UnaryOperator}
use Rattle.js_ops.specs.declared.operators.UnaryOperator.TheVariants.{TypeOf}
use Rattle.js_members.specs.Arrays.{pushed, pushed_at, push_outcome, array_at, last_of, without_last, popped, popped_as, popped_at, pop_outcome}
use Rattle.js_members.specs.Reads.{reading_of, reading_outcome, read_outcome}
use Rattle.js_members.specs.Writes.{price_at, appended, target_of, target_outcome, write_outcome}
use Rattle.js_members.specs.declared.reading.Reading.{Reading}
use Rattle.js_members.specs.declared.reading.Reading.TheVariants as reading
use Rattle.js_members.specs.declared.target.Target.{Target}
use Rattle.js_members.specs.declared.target.Target.TheVariants.{Property, Element, End, Refused}
use Rattle.charged_heap.specs.Bindings.{place_of}
use Rattle.js_scopes.specs.Bindings.{bindings_of, binding_at, parent_of, new_binding}
use Rattle.js_scopes.specs.Clashes.{clash_outcome}
use Rattle.js_scopes.specs.Lists.{with_declared, with_parameters, function_item, functions_made, block_scope, with_arguments, call_scope, name_scope, catch_scope}
use Rattle.js_scopes.specs.Lookup.{binding_of, builtin_of, first_of, lookup}
use Rattle.js_scopes.specs.Names.{value_found, read_as, name_outcome, typed_as, typeof_outcome, assigned_binding, assigned_found, assign_outcome}
use Rattle.js_scopes.specs.Scopes.{scope_with, scope_made, scope_copied, initialised_at, initialised}
use Rattle.js_scopes.specs.Scripts.{clash_among, name_declared, noted, names_declared, functions_declared, declared_unless, script_declared}
use Rattle.js_scopes.specs.declared.lookup.BindingPlace.{BindingPlace}
use Rattle.js_scopes.specs.declared.lookup.Lookup.{Lookup}
use Rattle.js_trees.specs.declared.declaration.Declaration.{Declaration}
use Rattle.js_trees.specs.declared.declaration.Declaration.TheVariants as declaration
use Rattle.script_meaning.specs.Expressions.{closure_made}
use Rattle.script_meaning.specs.Functions.{no_function, builtin_outcome}
use Rattle.script_meaning.specs.Limits.{StaysWithin, EndsWithin}
use Rattle.script_meaning.specs.Loops.{round_site}
use Rattle.script_meaning.specs.Places.{ScriptList, name_at, key_units, wrong_kind, place_read, place_written, type_read, place_type}
use Rattle.script_meaning.specs.declared.site.Key.{Key}
use Rattle.script_meaning.specs.declared.site.Place.{Place}
use Rattle.script_meaning.specs.declared.site.Place.TheVariants as place
use Rattle.script_meaning.specs.declared.site.Site.{Site}
use Rattle.script_meaning.proofs.StoreLimits.{stays, stays-then, replaced, as_dear, property_price_at, element_price, elements_price, binding_price, function_price, place_price, same_store, then_ends, ends_then, asked_first, item_ends}

-- ---- made and thrown

pub o-value : (one : Item) (s : Store) → EndsWithin s (value_made one s)
o-value one s = ends_then s (item_made one s) (λ n after. (Ok (value.Item n), after)) (item_ends one s) (λ n after. same_store after (Ok (value.Item n)) tt)

pub o-thrown : (sort : ErrorKind) (message : List ℕ) (s : Store) → EndsWithin s (thrown sort message s)
o-thrown sort message s =
    ends_then s (item_made (item.Text message) s) _ (item_ends (item.Text message) s) (λ text with_text.
    ends_then with_text (item_made (item.Error sort text) with_text) _ (item_ends (item.Error sort text) with_text) (λ error after.
    same_store {A = Value} after (Err (Throw (value.Item error))) tt))

o-error : (error : ScriptError) (s : Store) → EndsWithin s (error_thrown error s)
o-error error s = o-thrown (error_kind error) (error_text error) s

o-name-error : (error : ScriptError) (name : List ℕ) (s : Store) → EndsWithin s (name_error_thrown error name s)
o-name-error error name s = o-thrown (error_kind error) (name_error_text error name) s

-- ---- operators

o-answer : (answer : Answer) (s : Store) → EndsWithin s (outcome_of answer s)
o-answer (Truth b) s = same_store s (Ok (value.Bool b)) tt
o-answer (Number n) s = same_store s (Ok (value.Num n)) tt
o-answer (Text units) s = o-value (item.Text units) s
o-answer (Fault error) s = o-error error s

pub o-binary : (op : BinaryOperator) (left right : Value) (s : Store) → EndsWithin s (binary_outcome op left right s)
unfolding binary_outcome
o-binary op left right s = o-answer (binary_answer s op left right) s

pub o-unary : (op : UnaryOperator) (operand : Value) (s : Store) → EndsWithin s (unary_outcome op operand s)
unfolding unary_outcome
o-unary op operand s = o-answer (unary_answer s op operand) s

-- ---- members

o-reading : (found : Reading) (s : Store) → EndsWithin s (reading_outcome found s)
o-reading (reading.Held v) s = same_store s (Ok v) tt
o-reading (reading.Made units) s = o-value (item.Text units) s
o-reading (reading.Fault error) s = o-error error s

pub o-read : (base : Value) (key : List ℕ) (s : Store) → EndsWithin s (read_outcome base key s)
unfolding read_outcome
o-read base key s = o-reading (reading_of s base key) s

one_element_more : (s : Store) (n : ℕ) (v : Value) → charge_of s.items + ELEMENT_CELLS ≤ s.limit → StaysWithin s (appended s n v)
one_element_more s n v fits = replaced s n (with_elements (item_at s n) (elements (item_at s n) ++ v ∷ [])) ELEMENT_CELLS (element_price (item_at s n) v) fits

o-target : (target : Target) (key : List ℕ) (v : Value) (s : Store) → EndsWithin s (target_outcome target key v s)
o-target (Property n) key v s =
    asked_first s (price_at (item_at s n) key) (Ok v, with_item s n (with_property (item_at s n) key v))
    (λ fits. (replaced s n (with_property (item_at s n) key v) (price_at (item_at s n) key) (property_price_at (item_at s n) key v) fits, tt))
o-target (Element n k) key v s = (as_dear s n (with_place (item_at s n) k v) (place_price (item_at s n) k v), tt)
o-target (End n) key v s = asked_first s ELEMENT_CELLS (Ok v, appended s n v) (λ fits. (one_element_more s n v fits, tt))
o-target (Refused error) key v s = o-error error s

pub o-write : (base : Value) (key : List ℕ) (v : Value) (s : Store) → EndsWithin s (write_outcome base key v s)
unfolding write_outcome
o-write base key v s = o-target (target_of s base key) key v s

pub o-pushed : (n : ℕ) (values : List Value) (s : Store) → EndsWithin s (pushed n values s)
o-pushed n [] s = same_store s (Ok (value.Num (pos (length (elements (item_at s n)))))) tt
o-pushed n (v ∷ values) s =
    asked_first s ELEMENT_CELLS (pushed n values (appended s n v))
    (λ fits. then_ends s (appended s n v) (pushed n values (appended s n v)) (one_element_more s n v fits) (o-pushed n values (appended s n v)))

o-pushed-at : (at : Option ℕ) (values : List Value) (s : Store) → EndsWithin s (pushed_at at values s)
o-pushed-at (Some n) values s = o-pushed n values s
o-pushed-at None values s = o-error BadArgument s

o-push : (receiver : Value) (arguments : List Value) (s : Store) → EndsWithin s (push_outcome receiver arguments s)
unfolding push_outcome
o-push receiver arguments s = o-pushed-at (array_at s receiver) arguments s

o-popped : (n : ℕ) (values : List Value) (last : Option Value) (s : Store) → length (without_last values) ≤ length (elements (item_at s n)) → EndsWithin s (popped_as n values last s)
o-popped n values (Some last) s fewer =
    (as_dear s n (with_elements (item_at s n) (without_last values)) (elements_price (item_at s n) (without_last values) fewer), tt)
o-popped n values None s fewer = same_store s (Ok value.Undefined) tt

fewer_taken : (k : ℕ) (values : List Value) → length (take k values) ≤ length values
fewer_taken k values = omega (arith, length-take k values)

o-popped-at : (at : Option ℕ) (s : Store) → EndsWithin s (popped_at at s)
o-popped-at (Some n) s =
    o-popped n (elements (item_at s n)) (last_of (elements (item_at s n))) s (fewer_taken (length (elements (item_at s n)) - 1) (elements (item_at s n)))
o-popped-at None s = o-error BadArgument s

o-pop : (receiver : Value) (s : Store) → EndsWithin s (pop_outcome receiver s)
unfolding pop_outcome
o-pop receiver s = o-popped-at (array_at s receiver) s

-- ---- names

o-read-as : (found : Result Value ScriptError) (name : List ℕ) (s : Store) → EndsWithin s (read_as found name s)
o-read-as (Ok v) name s = same_store s (Ok v) tt
o-read-as (Err error) name s = o-name-error error name s

pub o-name : (name : List ℕ) (scope global : ℕ) (s : Store) → EndsWithin s (name_outcome name scope global s)
unfolding name_outcome
o-name name scope global s = o-read-as (value_found s (lookup s scope global name)) name s

o-typed-as : (found : Result Value ScriptError) (name : List ℕ) (s : Store) → EndsWithin s (typed_as found name s)
o-typed-as (Ok v) name s = o-unary TypeOf v s
o-typed-as (Err NotDefined) name s = o-value (item.Text (codes "undefined")) s
o-typed-as (Err error) name s = o-name-error error name s

o-typeof : (name : List ℕ) (scope global : ℕ) (s : Store) → EndsWithin s (typeof_outcome name scope global s)
unfolding typeof_outcome
o-typeof name scope global s = o-typed-as (value_found s (lookup s scope global name)) name s

o-binding : (was : Option Value) (constant : Bool) (at : BindingPlace) (name : List ℕ) (v : Value) (s : Store) → EndsWithin s (assigned_binding was constant at name v s)
o-binding None constant at name v s = o-name-error NotInitialised name s
o-binding (Some was) true at name v s = o-name-error Constant name s
o-binding (Some was) false at name v s =
    (as_dear s at.scope (with_place (item_at s at.scope) at.place v) (place_price (item_at s at.scope) at.place v), tt)

-- a property that is there is free
present_price : (one : Item) (key : List ℕ) (was v : Value) → Some was ≡ value_at (properties one) key → price_of (with_property one key v) ≤ price_of one
present_price one key was v is =
    let free : price_at one key ≡ 0 = ap (λ (found : Option Value). if is_some found then 0 else property_price key) (sym is) in
    omega (arith, property_price_at one key v, free)

o-assigned : (at : Option BindingPlace) (property builtin : Option Value) (global : ℕ) (name : List ℕ) (v : Value) (s : Store)
    → property ≡ value_at (properties (item_at s global)) name → EndsWithin s (assigned_found (first_of at property builtin) global name v s)
o-assigned (Some at) property builtin global name v s is =
    o-binding (binding_at (item_at s at.scope) at.place).value (binding_at (item_at s at.scope) at.place).constant at name v s
o-assigned None (Some was) builtin global name v s is =
    (as_dear s global (with_property (item_at s global) name v) (present_price (item_at s global) name was v is), tt)
o-assigned None None (Some was) global name v s is = o-name-error Constant name s
o-assigned None None None global name v s is = o-name-error NotDefined name s

o-assign : (name : List ℕ) (v : Value) (scope global : ℕ) (s : Store) → EndsWithin s (assign_outcome name v scope global s)
unfolding assign_outcome lookup
o-assign name v scope global s = o-assigned (binding_of s name scope) (value_at (properties (item_at s global)) name) (builtin_of global name) global name v s refl

-- ---- scopes

o-scope : (parent : Option ℕ) (bindings : List Binding) (s : Store) → EndsWithin s (scope_made parent bindings s)
unfolding scope_made
o-scope parent bindings s = item_ends (scope_with parent bindings) s

o-copied : (n : ℕ) (s : Store) → EndsWithin s (scope_copied n s)
unfolding scope_copied
o-copied n s = o-scope (parent_of (item_at s n)) (bindings_of (item_at s n)) s

s-initialised-at : (s : Store) (n : ℕ) (at : Option ℕ) (v : Value) → StaysWithin s (initialised_at s n at v)
s-initialised-at s n (Some place) v = as_dear s n (with_place (item_at s n) place v) (place_price (item_at s n) place v)
s-initialised-at s n None v = stays s

pub s-initialised : (s : Store) (n : ℕ) (name : List ℕ) (v : Value) → StaysWithin s (initialised s n name v)
unfolding initialised
s-initialised s n name v = s-initialised-at s n (place_of (bindings_of (item_at s n)) name) v

o-functions : (script global scope : ℕ) (declared : List Declaration) (s : Store) → EndsWithin s (functions_made script global scope declared s)
unfolding functions_made
o-functions script global scope [] s = same_store s (Ok scope) tt
o-functions script global scope (declaration.Variable name ∷ more) s = o-functions script global scope more s
o-functions script global scope (declaration.Constant name ∷ more) s = o-functions script global scope more s
o-functions script global scope (declaration.Function name node ∷ more) s =
    ends_then s (item_made (function_item script node scope global) s) _ (item_ends (function_item script node scope global) s) (λ n after.
    then_ends after (initialised after scope name (value.Item n)) (functions_made script global scope more (initialised after scope name (value.Item n)))
    (s-initialised after scope name (value.Item n)) (o-functions script global scope more (initialised after scope name (value.Item n))))

pub o-block : (script global parent : ℕ) (declared : List Declaration) (s : Store) → EndsWithin s (block_scope script global parent declared s)
unfolding block_scope
o-block script global parent declared s =
    ends_then s (scope_made (Some parent) (with_declared [] declared) s) _ (o-scope (Some parent) (with_declared [] declared) s)
    (λ scope after. o-functions script global scope declared after)

s-arguments : (scope : ℕ) (names : List (List ℕ)) (arguments : List Value) (s : Store) → StaysWithin s (with_arguments scope names arguments s)
s-arguments scope [] arguments s = stays s
s-arguments scope (name ∷ names) [] s =
    stays-then s (initialised s scope name value.Undefined) (with_arguments scope names [] (initialised s scope name value.Undefined))
    (s-initialised s scope name value.Undefined) (s-arguments scope names [] (initialised s scope name value.Undefined))
s-arguments scope (name ∷ names) (v ∷ arguments) s =
    stays-then s (initialised s scope name v) (with_arguments scope names arguments (initialised s scope name v))
    (s-initialised s scope name v) (s-arguments scope names arguments (initialised s scope name v))

pub o-call : (script global parent : ℕ) (parameters : List (List ℕ)) (declared : List Declaration) (arguments : List Value) (s : Store)
    → EndsWithin s (call_scope script global parent parameters declared arguments s)
unfolding call_scope
o-call script global parent parameters declared arguments s =
    ends_then s (scope_made (Some parent) (with_declared (with_parameters [] parameters) declared) s) _
    (o-scope (Some parent) (with_declared (with_parameters [] parameters) declared) s) (λ scope after.
    then_ends after (with_arguments scope parameters arguments after) (functions_made script global scope declared (with_arguments scope parameters arguments after))
    (s-arguments scope parameters arguments after) (o-functions script global scope declared (with_arguments scope parameters arguments after)))

pub o-name-scope : (parent : ℕ) (name : List ℕ) (s : Store) → EndsWithin s (name_scope parent name s)
unfolding name_scope
o-name-scope parent name s = o-scope (Some parent) _ s

pub o-catch : (parent : ℕ) (name : List ℕ) (v : Value) (s : Store) → EndsWithin s (catch_scope parent name v s)
unfolding catch_scope
o-catch parent name v s =
    ends_then s (scope_made (Some parent) _ s) (λ scope after. (Ok scope, initialised after scope name v)) (o-scope (Some parent) _ s)
    (λ scope after. (s-initialised after scope name v, tt))

-- ---- declarations of scripts

o-declared : (name : List ℕ) (constant : Bool) (names : ℕ) (s : Store) → EndsWithin s (name_declared name constant names s)
o-declared name constant names s =
    asked_first {A = Unit {0}} s BINDING_CELLS (Ok tt, with_item s names (with_binding (item_at s names) (new_binding name constant)))
    (λ fits. (replaced s names (with_binding (item_at s names) (new_binding name constant)) BINDING_CELLS (binding_price (item_at s names) (new_binding name constant)) fits, tt))

s-noted : (name : List ℕ) (names : ℕ) (s : Store) → StaysWithin s (noted name names s)
s-noted name names s = as_dear s names (with_function (item_at s names) name) (function_price (item_at s names) name)

o-names : (names : ℕ) (declared : List Declaration) (s : Store) → EndsWithin s (names_declared names declared s)
o-names names [] s = same_store {A = Unit {0}} s (Ok tt) tt
o-names names (declaration.Variable name ∷ more) s =
    ends_then s (name_declared name false names s) (λ _ after. names_declared names more after) (o-declared name false names s) (λ _ after. o-names names more after)
o-names names (declaration.Constant name ∷ more) s =
    ends_then s (name_declared name true names s) (λ _ after. names_declared names more after) (o-declared name true names s) (λ _ after. o-names names more after)
o-names names (declaration.Function name node ∷ more) s = o-names names more s

o-globals : (script names global : ℕ) (declared : List Declaration) (s : Store) → EndsWithin s (functions_declared script names global declared s)
o-globals script names global [] s = same_store {A = Unit {0}} s (Ok tt) tt
o-globals script names global (declaration.Variable name ∷ more) s = o-globals script names global more s
o-globals script names global (declaration.Constant name ∷ more) s = o-globals script names global more s
o-globals script names global (declaration.Function name node ∷ more) s =
    ends_then s (item_made (function_item script node names global) s) _ (item_ends (function_item script node names global) s) (λ n made.
    ends_then made (write_outcome (value.Item global) name (value.Item n) made) (λ _ after. functions_declared script names global more (noted name names after))
    (o-write (value.Item global) name (value.Item n) made) (λ _ after.
    then_ends after (noted name names after) (functions_declared script names global more (noted name names after))
    (s-noted name names after) (o-globals script names global more (noted name names after))))

o-unless : (clash : Option (List ℕ)) (script names global : ℕ) (declared : List Declaration) (s : Store) → EndsWithin s (declared_unless clash script names global declared s)
o-unless (Some name) script names global declared s =
    ends_then {B = Unit {0}} s (clash_outcome name s) (λ _ after. (Ok tt, after)) (o-name-error AlreadyDeclared name s) (λ _ after. same_store {A = Unit {0}} after (Ok tt) tt)
o-unless None script names global declared s =
    ends_then s (names_declared names declared s) (λ _ after. functions_declared script names global declared after) (o-names names declared s)
    (λ _ after. o-globals script names global declared after)

pub o-script : (script names global : ℕ) (declared : List Declaration) (s : Store) → EndsWithin s (script_declared script names global declared s)
unfolding script_declared
o-script script names global declared s = o-unless (clash_among names s declared) script names global declared s

-- ---- places, calls and rounds

pub o-wrong : (s : Store) → EndsWithin s (wrong_kind s)
o-wrong s = o-thrown TypeError (codes "wrong kind of operand") s

pub o-place-read : (scripts : ScriptList) (site : Site) (at : Place) (s : Store) → EndsWithin s (place_read scripts site at s)
unfolding place_read
o-place-read scripts site (place.Name n) s = o-name (name_at scripts site.script n) site.scope site.global s
o-place-read scripts site (place.Member base key) s = o-read base (key_units scripts site.script s key) s

pub o-place-written : (scripts : ScriptList) (site : Site) (at : Place) (v : Value) (s : Store) → EndsWithin s (place_written scripts site at v s)
unfolding place_written
o-place-written scripts site (place.Name n) v s = o-assign (name_at scripts site.script n) v site.scope site.global s
o-place-written scripts site (place.Member base key) v s = o-write base (key_units scripts site.script s key) v s

o-type : (s : Store) (read : Ends Value) → EndsWithin s read → EndsWithin s (type_read read)
o-type s (Ok v, t) one = then_ends s t (unary_outcome TypeOf v t) one.0 (o-unary TypeOf v t)
o-type s (Err failed, t) one = one

pub o-place-type : (scripts : ScriptList) (site : Site) (at : Place) (s : Store) → EndsWithin s (place_type scripts site at s)
unfolding place_type
o-place-type scripts site (place.Name n) s = o-typeof (name_at scripts site.script n) site.scope site.global s
o-place-type scripts site (place.Member base key) s =
    o-type s (read_outcome base (key_units scripts site.script s key) s) (o-read base (key_units scripts site.script s key) s)

pub o-no-function : (s : Store) → EndsWithin s (no_function s)
o-no-function s = o-thrown TypeError (codes "not a function") s

pub o-builtin : (which : Builtin) (receiver : Value) (arguments : List Value) (s : Store) → EndsWithin s (builtin_outcome which receiver arguments s)
o-builtin builtin.ArrayPush receiver arguments s = o-push receiver arguments s
o-builtin builtin.ArrayPop receiver arguments s = o-pop receiver s
o-builtin _ receiver arguments s = o-no-function s

pub o-closure : (node : ℕ) (site : Site) (receiver : Value) (s : Store) → EndsWithin s (closure_made node site receiver s)
o-closure node site receiver s = o-value (item.Closure site.script node site.scope site.global receiver) s

pub o-round : (fresh : Bool) (site : Site) (s : Store) → EndsWithin s (round_site fresh site s)
o-round false site s = same_store s (Ok site) tt
o-round true site s =
    ends_then s (scope_copied site.scope s) (λ scope after. (Ok (record site { scope = scope }), after)) (o-copied site.scope s) (λ scope after. same_store {A = Site} after (Ok (record site { scope = scope })) tt)
