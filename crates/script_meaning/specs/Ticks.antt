-- What the evaluation of nodes takes of the ticks that are left.
-- This project's own; docs/PRICES.md, "Ticks".
use Rattle.std.specs.Prelude.{◌≡◌, ◌⊎◌, ◌<◌, Err}
use Rattle.js_trees.specs.Tree.{Tree}
use Rattle.script_meaning.specs.Outcome.{State, Inside}
use Rattle.script_meaning.specs.declared.completion.Abrupt.TheVariants as abrupt
use Rattle.script_meaning.specs.declared.completion.StopCause.TheVariants.{Timeout}
use Rattle.script_meaning.specs.declared.site.Role.{Role}
use Rattle.script_meaning.specs.declared.site.Site.{Site}

-- each node takes a tick, or none is left: then the run stops there, and nothing has changed
pub record TakesTicks (at : Inside) : Type 0 where
  pub takes : (for : Role) (t : Tree) (site : Site) (s : State)
      → ((at for t site s).1.left < s.left) ⊎ (at for t site s ≡ (Err (abrupt.Stop Timeout), s))
