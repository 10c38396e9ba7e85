-- That what the items of a store name of their isolate's scripts is there.
-- This project's own; docs/SCRIPTS.md, "Calls". No statement about ECMA-262.
use Rattle.std.specs.Prelude.{◌≡◌, ℕ, ◌<◌, length, true}
use Rattle.charged_heap.specs.Store.{Store, item_at}
use Rattle.charged_heap.specs.declared.item.Item.{Item}
use Rattle.charged_heap.specs.declared.item.Item.TheVariants as item
use Rattle.js_trees.specs.Forms.{is_function_kind}
use Rattle.script_meaning.specs.Places.{ScriptList, form_at}

-- the script is among these, and this node of it is a function
abbrev pub IsFunctionAt : ScriptList → ℕ → ℕ → Type 0
IsFunctionAt scripts script node = is_function_kind (form_at scripts script node).head.kind ≡ true

-- what an item names of these scripts is there: a function is one of theirs, and a compiled script is one of them
abbrev pub ItsScriptIsThere : ScriptList → Item → Type 0
ItsScriptIsThere scripts (item.Closure script node scope global receiver) = IsFunctionAt scripts script node
ItsScriptIsThere scripts (item.Text units) = Unit {0}
ItsScriptIsThere scripts (item.Plain props) = Unit {0}
ItsScriptIsThere scripts (item.Array values) = Unit {0}
ItsScriptIsThere scripts (item.Error sort message) = Unit {0}
ItsScriptIsThere scripts (item.Scope parent bindings functions) = Unit {0}
ItsScriptIsThere scripts (item.Promise state reactions) = Unit {0}
ItsScriptIsThere scripts (item.Settler promise good) = Unit {0}
ItsScriptIsThere scripts (item.Reference to released) = Unit {0}
ItsScriptIsThere scripts (item.Deref handle) = Unit {0}
ItsScriptIsThere scripts (item.External copy) = Unit {0}
ItsScriptIsThere scripts (item.Into copy) = Unit {0}
ItsScriptIsThere scripts (item.Callback callback) = Unit {0}
ItsScriptIsThere scripts (item.Row value) = Unit {0}
ItsScriptIsThere scripts (item.Script script) = script < length scripts

-- so it is of each item of the store
pub record ScriptsAreThere (scripts : ScriptList) (s : Store) : Type 0 where
  pub each : (n : ℕ) → n < length s.items → ItsScriptIsThere scripts (item_at s n)
