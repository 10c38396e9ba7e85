-- What the use of a name gives: its value, its type, and what an assignment to it leaves.
-- ECMA-262, GetValue, PutValue, the typeof operator and SetMutableBinding in strict code; docs/SCRIPTS.md, "Names and scopes".
use Rattle.std.specs.Prelude.{ℕ, List, codes, Bool, true, false, Option, Some, None, Result, Ok, Err}
use Rattle.charged_heap.specs.Store.{Store, item_at, with_item, with_place, with_property}
use Rattle.charged_heap.specs.declared.values.Value.{Value}
use Rattle.charged_heap.specs.Ends.{Ends}
use Rattle.js_ops.specs.Outcome.{text_made, unary_outcome, name_error_thrown}
use Rattle.js_ops.specs.declared.operators.UnaryOperator.TheVariants.{TypeOf}
use Rattle.js_scopes.specs.Bindings.{binding_at}
use Rattle.js_scopes.specs.Lookup.{lookup}
use Rattle.js_ops.specs.declared.error.ScriptError.{ScriptError}
use Rattle.js_ops.specs.declared.error.ScriptError.TheVariants.{NotDefined, NotInitialised, Constant}
use Rattle.js_scopes.specs.declared.lookup.BindingPlace.{BindingPlace}
use Rattle.js_scopes.specs.declared.lookup.Lookup.{Lookup}
use Rattle.js_scopes.specs.declared.lookup.Lookup.TheVariants.{Bound, Property, Builtin, Nowhere}

-- ---- values

-- a binding's value; in its dead zone it has none
abbrev pub or_dead_zone : Option Value → Result Value ScriptError
or_dead_zone (Some v) = Ok v
or_dead_zone None = Err NotInitialised

-- the value that stands there, or why there is none
abbrev pub value_found : Store → Lookup → Result Value ScriptError
value_found s (Bound at) = or_dead_zone (binding_at (item_at s at.scope) at.place).value
value_found s (Property v) = Ok v
value_found s (Builtin v) = Ok v
value_found s Nowhere = Err NotDefined

-- ---- reading

-- a value is free, an error is made and thrown
abbrev pub read_as : Result Value ScriptError → List ℕ → Store → Ends Value
read_as (Ok v) name s = (Ok v, s)
read_as (Err fault) name s = name_error_thrown fault name s

-- what the name gives, read in this scope of a context with this global object
unfoldable pub name_outcome : List ℕ → ℕ → ℕ → Store → Ends Value
name_outcome name scope global s = read_as (value_found s (lookup s scope global name)) name s

-- ---- typeof

-- the operator on the value; a name that is nowhere has the type of undefined, and a dead zone throws
abbrev pub typed_as : Result Value ScriptError → List ℕ → Store → Ends Value
typed_as (Ok v) name s = unary_outcome TypeOf v s
typed_as (Err NotDefined) name s = text_made (codes "undefined") s
typed_as (Err fault) name s = name_error_thrown fault name s

-- what the operator `typeof` gives on the name
unfoldable pub typeof_outcome : List ℕ → ℕ → ℕ → Store → Ends Value
typeof_outcome name scope global s = typed_as (value_found s (lookup s scope global name)) name s

-- ---- assignments

-- the store in which the binding has the value
abbrev pub with_bound_at : Store → BindingPlace → Value → Store
with_bound_at s at v = with_item s at.scope (with_place (item_at s at.scope) at.place v)

-- of a binding, with its value before and whether it is constant: the dead zone is asked first
abbrev pub assigned_binding : Option Value → Bool → BindingPlace → List ℕ → Value → Store → Ends Value
assigned_binding None constant at name v s = name_error_thrown NotInitialised name s
assigned_binding (Some was) true at name v s = name_error_thrown Constant name s
assigned_binding (Some was) false at name v s = (Ok v, with_bound_at s at v)

-- the value where the name was found, and given; a built-in name is constant
abbrev pub assigned_found : Lookup → ℕ → List ℕ → Value → Store → Ends Value
assigned_found (Bound at) global name v s =
    assigned_binding (binding_at (item_at s at.scope) at.place).value (binding_at (item_at s at.scope) at.place).constant at name v s
assigned_found (Property was) global name v s = (Ok v, with_item s global (with_property (item_at s global) name v))
assigned_found (Builtin was) global name v s = name_error_thrown Constant name s
assigned_found Nowhere global name v s = name_error_thrown NotDefined name s

-- what an assignment of the value to the name gives
unfoldable pub assign_outcome : List ℕ → Value → ℕ → ℕ → Store → Ends Value
assign_outcome name v scope global s = assigned_found (lookup s scope global name) global name v s
