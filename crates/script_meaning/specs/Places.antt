-- The names of nodes, the keys of members, and what a place reads and takes.
-- ECMA-262, The Reference Record Specification Type, GetValue and PutValue; docs/SCRIPTS.md, "Members".
use Rattle.std.specs.Prelude.{ℕ, List, [], slice_index_or, codes, length, Option, Some, Ok, Err, nat_lt, if◌then◌else◌}
use Rattle.std.specs.Option.{unwrap_or}
use Rattle.std.specs.Fmt.{signed_decimal}
use Rattle.ivm_text.specs.declared.copies.ErrorKind.TheVariants.{TypeError}
use Rattle.charged_heap.specs.Store.{Store}
use Rattle.charged_heap.specs.declared.values.Value.{Value}
use Rattle.charged_heap.specs.declared.values.Value.TheVariants as value
use Rattle.js_syntax.specs.declared.node.Node.{Node}
use Rattle.charged_heap.specs.Ends.{Ends}
use Rattle.js_ops.specs.Outcome.{thrown, unary_outcome}
use Rattle.js_ops.specs.declared.operators.UnaryOperator.TheVariants.{TypeOf}
use Rattle.js_ops.specs.Values.{string_at}
use Rattle.js_members.specs.Reads.{read_outcome}
use Rattle.js_members.specs.Writes.{write_outcome}
use Rattle.js_scopes.specs.Names.{name_outcome, typeof_outcome, assign_outcome}
use Rattle.js_trees.specs.Tree.{Tree, tree_of, absent}
use Rattle.script_meaning.specs.declared.site.Key.{Key}
use Rattle.script_meaning.specs.declared.site.Key.TheVariants as key
use Rattle.script_meaning.specs.declared.site.Place.{Place}
use Rattle.script_meaning.specs.declared.site.Place.TheVariants as place
use Rattle.script_meaning.specs.declared.site.Site.{Site}

-- the scripts of an isolate, each as the list of its nodes
abbrev pub ScriptList : Type 0
ScriptList = List (List Node)

-- the nodes of a script; none where there is no such script
abbrev pub script_at : ScriptList → ℕ → List Node
script_at scripts n = slice_index_or scripts n []

-- the form that is node n of a script, and none where there is no such node
abbrev pub form_in : List Node → ℕ → Tree
form_in nodes n = if nat_lt n (length nodes) then tree_of nodes n else absent

abbrev pub form_at : ScriptList → ℕ → ℕ → Tree
form_at scripts script n = form_in (script_at scripts script) n

-- the name of a form, and no text where it has none
abbrev pub name_of : Tree → List ℕ
name_of t = unwrap_or t.head.name []

-- the name of a node of a script
abbrev pub name_at : ScriptList → ℕ → ℕ → List ℕ
name_at scripts script n = name_of (form_at scripts script n)

-- ---- keys

-- the key that a value is: a string's units or a number's decimal text
abbrev pub key_of : Store → Value → Option (List ℕ)
key_of s (value.Num n) = Some (signed_decimal n)
key_of s v = string_at s v

-- the units of a member's key
abbrev pub key_units : ScriptList → ℕ → Store → Key → List ℕ
key_units scripts script s (key.Name n) = name_at scripts script n
key_units scripts script s (key.Computed v) = unwrap_or (key_of s v) []

-- an operand or a key of a kind that isn't asked for
abbrev pub wrong_kind : Store → Ends Value
wrong_kind s = thrown TypeError (codes "wrong kind of operand") s

-- ---- places

-- what a place reads
unfoldable pub place_read : ScriptList → Site → Place → Store → Ends Value
place_read scripts site (place.Name n) s = name_outcome (name_at scripts site.script n) site.scope site.global s
place_read scripts site (place.Member base key) s = read_outcome base (key_units scripts site.script s key) s

-- what a place leaves that takes a value
unfoldable pub place_written : ScriptList → Site → Place → Value → Store → Ends Value
place_written scripts site (place.Name n) v s = assign_outcome (name_at scripts site.script n) v site.scope site.global s
place_written scripts site (place.Member base key) v s = write_outcome base (key_units scripts site.script s key) v s

-- the type of a value that was read
abbrev pub type_read : Ends Value → Ends Value
type_read (Ok v, s) = unary_outcome TypeOf v s
type_read (Err failed, s) = (Err failed, s)

-- what `typeof` gives of a place: a name that is nowhere has a type too
unfoldable pub place_type : ScriptList → Site → Place → Store → Ends Value
place_type scripts site (place.Name n) s = typeof_outcome (name_at scripts site.script n) site.scope site.global s
place_type scripts site (place.Member base key) s = type_read (read_outcome base (key_units scripts site.script s key) s)
