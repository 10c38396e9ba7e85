-- Which machines may run over a store.
-- This project's own; docs/PRICES.md, "Cells".
use Rattle.std.specs.Prelude.{◌≤◌, List, length}
use Rattle.std.specs.List.{All}
use Rattle.charged_heap.specs.Store.{Store}
use Rattle.script_meaning.specs.Evaluates.{NESTING}
use Rattle.script_meaning.specs.Places.{ScriptList}
use Rattle.script_steps.specs.Fits.{FrameFits}
use Rattle.script_steps.specs.Sound.{IsSoundEnd, IsSoundFrame, IsSoundSite}
use Rattle.script_steps.specs.declared.frame.Frame.{Frame}
use Rattle.script_eval.specs.declared.machine.Control.{Control}
use Rattle.script_eval.specs.declared.machine.Control.TheVariants as control

-- the next node stands in a scope of the store, or the end names what is there
abbrev pub IsSoundControl : Store → Control → Type 0
IsSoundControl s (control.Node inner) = IsSoundSite s inner.site
IsSoundControl s (control.Ended end) = IsSoundEnd s end

-- each waiting form names what is there, each node that it names is of the form that its frame asks for, and no more
-- wait than nodes may be in evaluation
pub record AreSoundFrames (scripts : ScriptList) (s : Store) (frames : List Frame) : Type 0 where
  pub each : All (IsSoundFrame s) frames
  pub fit : All (FrameFits scripts) frames
  pub most : length frames ≤ NESTING
