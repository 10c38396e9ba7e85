-- What a write to a member leaves.
-- ECMA-262, PutValue, without prototypes; docs/SCRIPTS.md, "Members". Cells: docs/PRICES.md, "Cells".
use Rattle.std.specs.Prelude.{ℕ, ◌+◌, ◌<◌, List, [], ◌∷◌, ◌++◌, length, Option, Some, None, Ok, Err, is_some, nat_eq, nat_le, nat_lt, if◌then◌else◌}
use Rattle.ivm_text.specs.Keys.{value_at}
use Rattle.ivm_text.specs.KeyOrder.{index_of}
use Rattle.charged_heap.specs.Price.{charge_of, property_price}
use Rattle.charged_heap.specs.Room.{overrun_of}
use Rattle.charged_heap.specs.Store.{Store, IsAt, IsPlain, IsArray, item_at, properties, elements, with_item, with_property, with_place, with_elements}
use Rattle.charged_heap.specs.declared.price.TheConstants.{ELEMENT_CELLS}
use Rattle.charged_heap.specs.declared.fault.Fail.TheVariants.{Over}
use Rattle.charged_heap.specs.declared.item.Item.{Item}
use Rattle.charged_heap.specs.declared.item.Item.TheVariants as item
use Rattle.charged_heap.specs.declared.values.Value.{Value}
use Rattle.charged_heap.specs.declared.values.Value.TheVariants as value
use Rattle.charged_heap.specs.Ends.{Ends}
use Rattle.js_ops.specs.Outcome.{error_thrown}
use Rattle.js_ops.specs.declared.error.ScriptError.TheVariants.{NoObject, PastEnd, NotWritable}
use Rattle.js_members.specs.declared.target.Target.{Target}
use Rattle.js_members.specs.declared.target.Target.TheVariants.{Property, Element, End, Refused}

-- ---- where a write goes

-- of an array: an index within it is that element's, its length is its end
abbrev pub element_target : ℕ → List Value → Option ℕ → Target
element_target n values (Some k) =
    if nat_lt k (length values) then Element n k
    else if nat_eq k (length values) then End n
    else Refused PastEnd
element_target n values None = Refused NotWritable

-- of the item with the number n: an object takes each key, an array its indices
abbrev pub item_target : ℕ → Item → List ℕ → Target
item_target n (item.Plain props) key = Property n
item_target n (item.Array values) key = element_target n values (index_of key)
item_target n (item.Text units) key = Refused NotWritable
item_target n (item.Error sort message) key = Refused NotWritable
item_target n (item.Scope parent bindings functions) key = Refused NotWritable
item_target n (item.Closure script node scope global receiver) key = Refused NotWritable
item_target n (item.Promise state reactions) key = Refused NotWritable
item_target n (item.Settler promise good) key = Refused NotWritable
item_target n (item.Reference to released) key = Refused NotWritable
item_target n (item.Deref handle) key = Refused NotWritable
item_target n (item.External copy) key = Refused NotWritable
item_target n (item.Into copy) key = Refused NotWritable
item_target n (item.Callback callback) key = Refused NotWritable
item_target n (item.Row v) key = Refused NotWritable
item_target n (item.Script script) key = Refused NotWritable

unfoldable pub target_of : Store → Value → List ℕ → Target
target_of s value.Undefined key = Refused NoObject
target_of s value.Null key = Refused NoObject
target_of s (value.Item n) key = item_target n (item_at s n) key
target_of s _ key = Refused NotWritable

-- ---- what it leaves

-- so many cells asked, and then the rest; where they don't fit, the refusal alone
abbrev pub charged : ℕ → Store → Ends Value → Ends Value
charged asked s rest =
    if nat_le (charge_of s.items + asked) s.limit then rest
    else (Err (Over (overrun_of s asked)), s)

-- a property costs its price where the object doesn't have the key, and else nothing
abbrev pub price_at : Item → List ℕ → ℕ
price_at object key = if is_some (value_at (properties object) key) then 0 else property_price key

-- the store in which the array with the number n has one more element
abbrev pub appended : Store → ℕ → Value → Store
appended s n v = with_item s n (with_elements (item_at s n) (elements (item_at s n) ++ v ∷ []))

-- the value written there, and given
abbrev pub target_outcome : Target → List ℕ → Value → Store → Ends Value
target_outcome (Property n) key v s =
    charged (price_at (item_at s n) key) s (Ok v, with_item s n (with_property (item_at s n) key v))
target_outcome (Element n k) key v s = (Ok v, with_item s n (with_place (item_at s n) k v))
target_outcome (End n) key v s = charged ELEMENT_CELLS s (Ok v, appended s n v)
target_outcome (Refused fault) key v s = error_thrown fault s

-- what a write of the value to the key gives
unfoldable pub write_outcome : Value → List ℕ → Value → Store → Ends Value
write_outcome base key v s = target_outcome (target_of s base key) key v s

-- ---- what holds of each target

-- the element k of the array with the number n is there
pub record IsElement (s : Store) (n k : ℕ) : Type 0 where
  pub array : IsAt IsArray s n
  pub within : k < length (elements (item_at s n))

-- an item of that kind is there, and the element
abbrev pub FitsTarget : Store → Target → Type 0
FitsTarget s (Property n) = IsAt IsPlain s n
FitsTarget s (Element n k) = IsElement s n k
FitsTarget s (End n) = IsAt IsArray s n
FitsTarget s (Refused fault) = Unit {0}
