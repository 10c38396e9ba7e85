-- How values are printed.
-- This project's own; docs/FORMATS.md, "Values".
use Rattle.std.specs.Prelude.{ℕ, ◌+◌, ◌/◌, ◌%◌, List, [], ◌∷◌, ◌++◌, Bool, ◌==◌, ◌||◌, nat_lt, slice_get, codes, Option, None, Some, if◌then◌else◌}
use Rattle.std.specs.List.{flat_map}
use Rattle.std.specs.Fmt.{signed_decimal}
use Rattle.ivm_text.specs.Text.{utf8_of}
use Rattle.ivm_text.specs.declared.copies.Copy.{Copy}
use Rattle.ivm_text.specs.declared.copies.CopyNode.{CopyNode}
use Rattle.ivm_text.specs.declared.copies.CopyNode.TheVariants as node
use Rattle.ivm_text.specs.declared.copies.ErrorKind.{ErrorKind}
use Rattle.ivm_text.specs.declared.copies.ErrorKind.TheVariants as error
use Rattle.ivm_text.specs.declared.copies.Leaf.{Leaf}
use Rattle.ivm_text.specs.declared.copies.Leaf.TheVariants as leaf

-- ---- strings

-- a digit of a hexadecimal number, in lower case
abbrev pub hex_digit : ℕ → ℕ
hex_digit n = if nat_lt n 10 then 48 + n else 87 + n

-- `\u` and four digits
abbrev pub escaped : ℕ → List ℕ
escaped byte = codes "\\u00" ++ hex_digit (byte / 16) ∷ hex_digit (byte % 16) ∷ []

-- a byte of a string's text: `"`, `\`, LF, CR and TAB behind a backslash, other controls by their number, and all else as it is
abbrev pub byte_text : ℕ → List ℕ
byte_text byte =
    if byte == 34 then codes "\\\""
    else if byte == 92 then codes "\\\\"
    else if byte == 10 then codes "\\n"
    else if byte == 13 then codes "\\r"
    else if byte == 9 then codes "\\t"
    else if nat_lt byte 32 || byte == 127 then escaped byte
    else byte ∷ []

-- a string: its text in UTF-8, where a surrogate without its partner is U+FFFD, between quotes
abbrev pub string_text : List ℕ → List ℕ
string_text units = 34 ∷ flat_map byte_text (utf8_of units) ++ 34 ∷ []

-- ---- values

abbrev pub error_name : ErrorKind → List ℕ
error_name error.Error = codes "Error"
error_name error.TypeError = codes "TypeError"
error_name error.RangeError = codes "RangeError"
error_name error.ReferenceError = codes "ReferenceError"
error_name error.SyntaxError = codes "SyntaxError"

-- a string, or an error by its kind and message; of objects and arrays, which no isolate sends yet, only what they are
abbrev pub node_text : Option CopyNode → List ℕ
node_text None = codes "no value"
node_text (Some (node.Text units)) = string_text units
node_text (Some (node.Plain pairs)) = codes "object"
node_text (Some (node.Array leaves)) = codes "array"
node_text (Some (node.Error kind message)) = error_name kind ++ 40 ∷ string_text message ++ 41 ∷ []

abbrev pub leaf_text : List CopyNode → Leaf → List ℕ
leaf_text nodes leaf.Undefined = codes "undefined"
leaf_text nodes leaf.Null = codes "null"
leaf_text nodes (leaf.Bool b) = if b then codes "true" else codes "false"
leaf_text nodes (leaf.Num n) = signed_decimal n
leaf_text nodes (leaf.Node k) = node_text (slice_get nodes k)

abbrev pub value_text : Copy → List ℕ
value_text copy = leaf_text copy.nodes copy.root
