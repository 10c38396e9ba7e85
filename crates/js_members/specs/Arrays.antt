-- What the member functions of arrays give.
-- ECMA-262, Array.prototype.push and Array.prototype.pop; docs/SCRIPTS.md, "Members". Cells: docs/PRICES.md, "Cells".
use Rattle.std.specs.Prelude.{ℕ, ◌-◌, pos, List, [], ◌∷◌, length, slice_get, take, Option, Some, None, Ok}
use Rattle.charged_heap.specs.Store.{Store, item_at, elements, with_item, with_elements}
use Rattle.charged_heap.specs.declared.price.TheConstants.{ELEMENT_CELLS}
use Rattle.charged_heap.specs.declared.item.Item.{Item}
use Rattle.charged_heap.specs.declared.item.Item.TheVariants as item
use Rattle.charged_heap.specs.declared.values.Value.{Value}
use Rattle.charged_heap.specs.declared.values.Value.TheVariants as value
use Rattle.charged_heap.specs.Ends.{Ends}
use Rattle.js_ops.specs.Outcome.{error_thrown}
use Rattle.js_members.specs.Writes.{charged, appended}
use Rattle.js_ops.specs.declared.error.ScriptError.TheVariants.{BadArgument}

-- ---- the array that is meant

-- the number n, where the item is an array
abbrev pub array_number : ℕ → Item → Option ℕ
array_number n (item.Array values) = Some n
array_number n _ = None

-- the number of a value that is an array
abbrev pub array_at : Store → Value → Option ℕ
array_at s (value.Item n) = array_number n (item_at s n)
array_at s _ = None

-- ---- push

-- each value is charged and stands at the end of the array before the next is; then the new length is given
abbrev pub pushed : ℕ → List Value → Store → Ends Value
pushed n [] s = (Ok (value.Num (pos (length (elements (item_at s n))))), s)
pushed n (v ∷ vs) s = charged ELEMENT_CELLS s (pushed n vs (appended s n v))

-- the same on the array that is meant
abbrev pub pushed_at : Option ℕ → List Value → Store → Ends Value
pushed_at (Some n) values s = pushed n values s
pushed_at None values s = error_thrown BadArgument s

-- what a call of `push` with these arguments gives
unfoldable pub push_outcome : Value → List Value → Store → Ends Value
push_outcome receiver arguments s = pushed_at (array_at s receiver) arguments s

-- ---- pop

abbrev pub last_of : List Value → Option Value
last_of values = slice_get values (length values - 1)

abbrev pub without_last : List Value → List Value
without_last values = take (length values - 1) values

-- the last element is given and the array lacks it; where there is none, undefined is given and nothing changes
abbrev pub popped_as : ℕ → List Value → Option Value → Store → Ends Value
popped_as n values (Some last) s = (Ok last, with_item s n (with_elements (item_at s n) (without_last values)))
popped_as n values None s = (Ok value.Undefined, s)

-- the same of the array with the number n and these elements
abbrev pub popped : ℕ → List Value → Store → Ends Value
popped n values s = popped_as n values (last_of values) s

-- the same on the array that is meant
abbrev pub popped_at : Option ℕ → Store → Ends Value
popped_at (Some n) s = popped n (elements (item_at s n)) s
popped_at None s = error_thrown BadArgument s

-- what a call of `pop` gives
unfoldable pub pop_outcome : Value → Store → Ends Value
pop_outcome receiver s = popped_at (array_at s receiver) s
