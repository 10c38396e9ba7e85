-- What a value is: true or false, the same as another, of which type, and its text.
-- ECMA-262, ToBoolean, IsStrictlyEqual, the typeof operator and ToString of primitives; docs/SCRIPTS.md, "Operators".
use Rattle.std.specs.Prelude.{◌≡◌, ◌⊎◌, ℕ, List, length, codes, Bool, true, false, not, ◌||◌, Option, None, Some, nat_eq, if◌then◌else◌}
use Rattle.std.specs.Bool.{beq}
use Rattle.std.specs.Fmt.{signed_decimal}
use Rattle.std.specs.Ordering.{int_eq}
use denote.Enum.Bare.{sameb}
use Rattle.ivm_text.specs.declared.copies.TypeOf.{TypeOf}
use Rattle.ivm_text.specs.declared.copies.TypeOf.TheVariants as type
use Rattle.ivm_text.specs.Keys.{is_key}
use Rattle.charged_heap.specs.Store.{Store, item_at}
use Rattle.charged_heap.specs.declared.builtin.Builtin.{Builtin as BuiltinFunction}
use Rattle.charged_heap.specs.contracts.builtin.Builtin.{the_type as the_builtins}
use Rattle.charged_heap.specs.declared.item.Item.{Item as AnItem}
use Rattle.charged_heap.specs.declared.item.Item.TheVariants.{Text, Closure, Settler, Callback}
use Rattle.charged_heap.specs.declared.values.Value.{Value}
use Rattle.charged_heap.specs.declared.values.Value.TheVariants.{Undefined, Null, Bool as Truth, Num, Item, Builtin}
use Rattle.js_ops.specs.Numbers.{is_zero}

-- ---- strings

-- the units of an item that is a string
abbrev pub units_in : AnItem → Option (List ℕ)
units_in (Text units) = Some units
units_in _ = None

-- the units of a value that is a string
abbrev pub string_at : Store → Value → Option (List ℕ)
string_at s (Item n) = units_in (item_at s n)
string_at s _ = None

-- ---- true or false

-- an item is false where it is the empty string
abbrev pub is_item_true : AnItem → Bool
is_item_true (Text units) = not (nat_eq (length units) 0)
is_item_true _ = true

-- undefined, null, false, 0 and the empty string are false
abbrev pub truthy : Store → Value → Bool
truthy s Undefined = false
truthy s Null = false
truthy s (Truth b) = b
truthy s (Num n) = not (is_zero n)
truthy s (Item n) = is_item_true (item_at s n)
truthy s (Builtin f) = true

-- ---- the same

-- both are strings with the same units
abbrev pub is_same_text : AnItem → AnItem → Bool
is_same_text (Text a) (Text b) = is_key a b
is_same_text _ _ = false

-- both are one built-in function
abbrev pub is_builtin : BuiltinFunction → BuiltinFunction → Bool
is_builtin a b = sameb the_builtins a b

-- the same kind and the same value: strings by units, all other items by identity
abbrev pub same : Store → Value → Value → Bool
same s Undefined Undefined = true
same s Null Null = true
same s (Truth a) (Truth b) = beq a b
same s (Num a) (Num b) = int_eq a b
same s (Item m) (Item n) = nat_eq m n || is_same_text (item_at s m) (item_at s n)
same s (Builtin a) (Builtin b) = is_builtin a b
same s _ _ = false

-- that two values are the same, as a sentence: they are one value, or two strings with the same units
abbrev pub IsSame : Store → Value → Value → Type 0
IsSame s a b = (a ≡ b) ⊎ ((units : List ℕ) × ((string_at s a ≡ Some units) × (string_at s b ≡ Some units)))

-- ---- types

-- an item's type: scripts, settlers and callbacks can be called
abbrev pub type_of_item : AnItem → TypeOf
type_of_item (Text units) = type.Text
type_of_item (Closure script node scope global receiver) = type.Function
type_of_item (Settler promise good) = type.Function
type_of_item (Callback callback) = type.Function
type_of_item _ = type.Object

-- a value's type; null has one of its own here
abbrev pub type_of : Store → Value → TypeOf
type_of s Undefined = type.Undefined
type_of s Null = type.Null
type_of s (Truth b) = type.Boolean
type_of s (Num n) = type.Number
type_of s (Item n) = type_of_item (item_at s n)
type_of s (Builtin f) = type.Function

-- what the operator `typeof` calls a type; null is an object to it
abbrev pub type_text : TypeOf → List ℕ
type_text type.Undefined = codes "undefined"
type_text type.Null = codes "object"
type_text type.Object = codes "object"
type_text type.Boolean = codes "boolean"
type_text type.Number = codes "number"
type_text type.Text = codes "string"
type_text type.Function = codes "function"

-- ---- texts

-- the text of a primitive that is no string
abbrev pub primitive_text : Value → Option (List ℕ)
primitive_text Undefined = Some (codes "undefined")
primitive_text Null = Some (codes "null")
primitive_text (Truth b) = Some (if b then codes "true" else codes "false")
primitive_text (Num n) = Some (signed_decimal n)
primitive_text (Item n) = None
primitive_text (Builtin f) = None
