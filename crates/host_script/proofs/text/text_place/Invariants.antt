use Rattle.std.proofs.Common.{◌≡◌, ◌+◌, false, drop}
use Rattle.host_script.specs.Texts.{text_place}
use Rattle.host_script.proofs.text.text_place.Given as goal

abbrev pub invariant-loop-place : goal.invariant-loop-place
invariant-loop-place l = text_place false l.rest ≡ l.place + text_place l.behind_blank (drop l.place l.rest)
