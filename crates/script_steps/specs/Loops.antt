-- Loops by the numbers of their parts.
-- This project's own; docs/SCRIPTS.md, "Loops".
use Rattle.std.specs.Prelude.{ℕ, Option, Some, None}
use Rattle.js_trees.specs.Tree.{Tree}
use Rattle.script_meaning.specs.Loops.{Loop}
use Rattle.script_meaning.specs.Places.{ScriptList, form_at}
use Rattle.script_steps.specs.declared.frame.LoopParts.{LoopParts}

-- a part of a script's form that may be left out
abbrev pub form_of : ScriptList → ℕ → Option ℕ → Option Tree
form_of scripts script None = None
form_of scripts script (Some node) = Some (form_at scripts script node)

-- the loop whose parts are the nodes of a script with these numbers
abbrev pub loop_of : ScriptList → ℕ → LoopParts → Loop
loop_of scripts script parts = record {
  test = form_of scripts script parts.test;
  body = form_at scripts script parts.body;
  update = form_of scripts script parts.update;
  fresh = parts.fresh;
}
