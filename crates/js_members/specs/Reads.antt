-- What a key reads of a value.
-- ECMA-262, GetValue, without prototypes; docs/SCRIPTS.md, "Members".
use Rattle.std.specs.Prelude.{ℕ, pos, List, [], ◌∷◌, length, slice_get, codes, Option, Some, None, Ok, if◌then◌else◌}
use Rattle.ivm_text.specs.declared.copies.ErrorKind.{ErrorKind}
use Rattle.ivm_text.specs.declared.copies.ErrorKind.TheVariants as error
use Rattle.ivm_text.specs.Keys.{is_key, value_at}
use Rattle.ivm_text.specs.KeyOrder.{index_of}
use Rattle.charged_heap.specs.Store.{Store, item_at}
use Rattle.charged_heap.specs.Closed.{IsSoundValue}
use Rattle.charged_heap.specs.declared.builtin.Builtin.TheVariants as builtin
use Rattle.charged_heap.specs.declared.item.Item.{Item}
use Rattle.charged_heap.specs.declared.item.Item.TheVariants as item
use Rattle.charged_heap.specs.declared.values.Value.{Value}
use Rattle.charged_heap.specs.declared.values.Value.TheVariants as value
use Rattle.charged_heap.specs.Ends.{Ends}
use Rattle.js_ops.specs.Outcome.{text_made, error_thrown}
use Rattle.js_ops.specs.declared.error.ScriptError.TheVariants.{NoObject}
use Rattle.js_members.specs.declared.names.MemberName.{MemberName}
use Rattle.js_members.specs.declared.names.MemberName.TheVariants.{Length, Push, Pop, Name, Message}
use Rattle.js_members.specs.declared.reading.Reading.{Reading}
use Rattle.js_members.specs.declared.reading.Reading.TheVariants.{Held, Made, Fault}

-- the member that a key names
unfoldable pub member_name : List ℕ → Option MemberName
member_name key =
    if is_key key (codes "length") then Some Length
    else if is_key key (codes "push") then Some Push
    else if is_key key (codes "pop") then Some Pop
    else if is_key key (codes "name") then Some Name
    else if is_key key (codes "message") then Some Message
    else None

-- the value, and undefined where there is none
abbrev pub or_undefined : Option Value → Reading
or_undefined (Some v) = Held v
or_undefined None = Held value.Undefined

-- ---- arrays

abbrev pub array_member : List Value → Option MemberName → Reading
array_member values (Some Length) = Held (value.Num (pos (length values)))
array_member values (Some Push) = Held (value.Builtin builtin.ArrayPush)
array_member values (Some Pop) = Held (value.Builtin builtin.ArrayPop)
array_member values (Some Name) = Held value.Undefined
array_member values (Some Message) = Held value.Undefined
array_member values None = Held value.Undefined

-- at an index the element, and under another key the member of that name
abbrev pub array_reading : List Value → Option ℕ → Option MemberName → Reading
array_reading values (Some k) name = or_undefined (slice_get values k)
array_reading values None name = array_member values name

-- ---- strings

abbrev pub text_member : List ℕ → Option MemberName → Reading
text_member units (Some Length) = Held (value.Num (pos (length units)))
text_member units (Some Push) = Held value.Undefined
text_member units (Some Pop) = Held value.Undefined
text_member units (Some Name) = Held value.Undefined
text_member units (Some Message) = Held value.Undefined
text_member units None = Held value.Undefined

-- the string of one unit
abbrev pub unit_reading : Option ℕ → Reading
unit_reading (Some unit) = Made (unit ∷ [])
unit_reading None = Held value.Undefined

-- at an index the string of the unit there, and under another key the member of that name
abbrev pub text_reading : List ℕ → Option ℕ → Option MemberName → Reading
text_reading units (Some k) name = unit_reading (slice_get units k)
text_reading units None name = text_member units name

-- ---- errors

abbrev pub error_name : ErrorKind → List ℕ
error_name error.Error = codes "Error"
error_name error.TypeError = codes "TypeError"
error_name error.RangeError = codes "RangeError"
error_name error.ReferenceError = codes "ReferenceError"
error_name error.SyntaxError = codes "SyntaxError"

-- the name is a new string, the message the string that the error has
abbrev pub error_member : ErrorKind → ℕ → Option MemberName → Reading
error_member sort message (Some Name) = Made (error_name sort)
error_member sort message (Some Message) = Held (value.Item message)
error_member sort message (Some Length) = Held value.Undefined
error_member sort message (Some Push) = Held value.Undefined
error_member sort message (Some Pop) = Held value.Undefined
error_member sort message None = Held value.Undefined

-- ---- all values

-- what a key reads of an item; items of the last kinds have no members
abbrev pub item_reading : Item → List ℕ → Reading
item_reading (item.Text units) key = text_reading units (index_of key) (member_name key)
item_reading (item.Plain props) key = or_undefined (value_at props key)
item_reading (item.Array values) key = array_reading values (index_of key) (member_name key)
item_reading (item.Error sort message) key = error_member sort message (member_name key)
item_reading (item.Scope parent bindings functions) key = Held value.Undefined
item_reading (item.Closure script node scope global receiver) key = Held value.Undefined
item_reading (item.Promise state reactions) key = Held value.Undefined
item_reading (item.Settler promise good) key = Held value.Undefined
item_reading (item.Reference to released) key = Held value.Undefined
item_reading (item.Deref handle) key = Held value.Undefined
item_reading (item.External copy) key = Held value.Undefined
item_reading (item.Into copy) key = Held value.Undefined
item_reading (item.Callback callback) key = Held value.Undefined
item_reading (item.Row v) key = Held value.Undefined
item_reading (item.Script script) key = Held value.Undefined

-- what a key reads of a value; undefined and null have no members, and reading one throws
unfoldable pub reading_of : Store → Value → List ℕ → Reading
reading_of s value.Undefined key = Fault NoObject
reading_of s value.Null key = Fault NoObject
reading_of s (value.Item n) key = item_reading (item_at s n) key
reading_of s _ key = Held value.Undefined

-- ---- what a read gives

-- a reading carried out: what is held is free, a string or an error is made
abbrev pub reading_outcome : Reading → Store → Ends Value
reading_outcome (Held v) s = (Ok v, s)
reading_outcome (Made units) s = text_made units s
reading_outcome (Fault fault) s = error_thrown fault s

-- what a read of the key gives
unfoldable pub read_outcome : Value → List ℕ → Store → Ends Value
read_outcome base key s = reading_outcome (reading_of s base key) s

-- what is held is a value that a script can hold
abbrev pub IsSoundReading : Store → Reading → Type 0
IsSoundReading s (Held v) = IsSoundValue s v
IsSoundReading s (Made units) = Unit {0}
IsSoundReading s (Fault fault) = Unit {0}
