-- A `catch` whose scope doesn't fit ends as the refusal says.
use Rattle.std.proofs.Common.{◌≡◌, ℕ, List, Some, Err, refl}
use Rattle.charged_heap.specs.Store.{Store}
use Rattle.charged_heap.specs.declared.fault.Fail.{Fail}
use Rattle.charged_heap.specs.declared.values.Value.{Value}
use Rattle.js_trees.specs.Tree.{Tree}
use Rattle.js_scopes.specs.Lists.{catch_scope}
use Rattle.script_meaning.specs.Handlers.{handler_by}
use Rattle.script_meaning.specs.Outcome.{Inside, abrupt_of}
use Rattle.script_meaning.specs.declared.site.Site.{Site}
use Rattle.script_steps.specs.After.{with_left}

pub catch_refused : (at : Inside) (t handler : Tree) (name : List ℕ) (site : Site) (thrown : Value) (old new : Store) (left : ℕ) (fail : Fail)
    → Some name ≡ t.head.name → catch_scope site.scope name thrown old ≡ (Err fail, new)
    → handler_by t.head.name at handler site thrown (with_left old left) ≡ (Err (abrupt_of fail), with_left new left)
catch_refused at t handler name site thrown old new left fail named refused = rw (← named, refused) refl
