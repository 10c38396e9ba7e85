-- How values leave an isolate, and how they enter it.
-- This project's own, after isolated-vm's transferable values; docs/HOST.md, "What a call gives".
use Rattle.std.specs.Prelude.{ℕ, List, [], ◌∷◌, codes, Option, None, Some}
use Rattle.std.specs.Option.{unwrap_or, option_map_or}
use Rattle.ivm_text.specs.declared.copies.Copy.{Copy}
use Rattle.ivm_text.specs.declared.copies.CopyNode.TheVariants as node
use Rattle.ivm_text.specs.declared.copies.ErrorKind.{ErrorKind}
use Rattle.ivm_text.specs.declared.copies.ErrorKind.TheVariants.{TypeError}
use Rattle.ivm_text.specs.declared.copies.Leaf.{Leaf}
use Rattle.ivm_text.specs.declared.copies.Leaf.TheVariants as leaf
use Rattle.ivm_text.specs.declared.copies.Passed.{Passed}
use Rattle.ivm_text.specs.declared.copies.Passed.TheVariants as passed
use Rattle.charged_heap.specs.Store.{Store, item_at}
use Rattle.charged_heap.specs.declared.item.Item.{Item}
use Rattle.charged_heap.specs.declared.item.Item.TheVariants as item
use Rattle.charged_heap.specs.declared.values.Value.{Value}
use Rattle.charged_heap.specs.declared.values.Value.TheVariants as value
use Rattle.js_ops.specs.Values.{units_in}
use Rattle.task_history.specs.declared.outcome.Outcome.{Outcome}
use Rattle.task_history.specs.declared.outcome.Outcome.TheVariants as outcome

-- ---- copies of one node at most

abbrev pub primitive : Leaf → Copy
primitive root = record { nodes = []; root = root }

abbrev pub text : List ℕ → Copy
text units = record { nodes = node.Text units ∷ []; root = leaf.Node 0 }

abbrev pub error : ErrorKind → List ℕ → Copy
error kind message = record { nodes = node.Error kind message ∷ []; root = leaf.Node 0 }

-- ---- out

-- a string passes as its copy; no other item passes by itself
abbrev pub item_copy : Item → Option Copy
item_copy (item.Text units) = Some (text units)
item_copy (item.Plain props) = None
item_copy (item.Array values) = None
item_copy (item.Error sort message) = None
item_copy (item.Scope parent bindings functions) = None
item_copy (item.Closure number node scope global receiver) = None
item_copy (item.Promise state reactions) = None
item_copy (item.Settler promise good) = None
item_copy (item.Reference to released) = None
item_copy (item.Deref handle) = None
item_copy (item.External copy) = None
item_copy (item.Into copy) = None
item_copy (item.Callback number) = None
item_copy (item.Row v) = None
item_copy (item.Script number) = None

-- a primitive or a string as what passes; no other value does
abbrev pub value_copy : Store → Value → Option Copy
value_copy s value.Undefined = Some (primitive leaf.Undefined)
value_copy s value.Null = Some (primitive leaf.Null)
value_copy s (value.Bool b) = Some (primitive (leaf.Bool b))
value_copy s (value.Num n) = Some (primitive (leaf.Num n))
value_copy s (value.Item n) = item_copy (item_at s n)
value_copy s (value.Builtin which) = None

-- the result of a run: what doesn't pass is told as undefined
abbrev pub result : Store → Value → Outcome
result s v = outcome.Passed (passed.Copy (unwrap_or (value_copy s v) (primitive leaf.Undefined)))

-- a value that was read: what doesn't pass isn't transferable
abbrev pub reading : Store → Value → Outcome
reading s v = option_map_or (λ copy. outcome.Passed (passed.Copy copy)) (value_copy s v) outcome.NotTransferable

-- what is told in place of a thrown value that has no copy
abbrev pub not_copyable : Copy
not_copyable = error TypeError (codes "thrown value not copyable")

abbrev pub thrown_item : Store → Item → Copy
thrown_item s (item.Text units) = text units
thrown_item s (item.Error kind message) = error kind (unwrap_or (units_in (item_at s message)) [])
thrown_item s (item.Plain props) = not_copyable
thrown_item s (item.Array values) = not_copyable
thrown_item s (item.Scope parent bindings functions) = not_copyable
thrown_item s (item.Closure number node scope global receiver) = not_copyable
thrown_item s (item.Promise state reactions) = not_copyable
thrown_item s (item.Settler promise good) = not_copyable
thrown_item s (item.Reference to released) = not_copyable
thrown_item s (item.Deref handle) = not_copyable
thrown_item s (item.External copy) = not_copyable
thrown_item s (item.Into copy) = not_copyable
thrown_item s (item.Callback number) = not_copyable
thrown_item s (item.Row v) = not_copyable
thrown_item s (item.Script number) = not_copyable

-- a thrown value: a primitive, a string, or an error with its message; of another is told that it has no copy
abbrev pub thrown_copy : Store → Value → Copy
thrown_copy s value.Undefined = primitive leaf.Undefined
thrown_copy s value.Null = primitive leaf.Null
thrown_copy s (value.Bool b) = primitive (leaf.Bool b)
thrown_copy s (value.Num n) = primitive (leaf.Num n)
thrown_copy s (value.Item n) = thrown_item s (item_at s n)
thrown_copy s (value.Builtin which) = not_copyable

abbrev pub thrown : Store → Value → Outcome
thrown s v = outcome.Throw (thrown_copy s v)

-- ---- in

-- a primitive; a node of a copy can't enter yet
abbrev pub value_of : Leaf → Option Value
value_of leaf.Undefined = Some value.Undefined
value_of leaf.Null = Some value.Null
value_of (leaf.Bool b) = Some (value.Bool b)
value_of (leaf.Num n) = Some (value.Num n)
value_of (leaf.Node n) = None

-- the primitive that passes; nothing else can enter yet
abbrev pub passed_value : Passed → Option Value
passed_value (passed.Copy copy) = value_of copy.root
passed_value (passed.External copy) = None
passed_value (passed.Ref handle) = None
passed_value (passed.Deref handle) = None
passed_value (passed.Callback number) = None
