use Rattle.std.proofs.Common.{◌≡◌, length, take}
use Rattle.js_parser.proofs.classes.spells.Given as goal

abbrev pub invariant-loop-place : goal.invariant-loop-place
invariant-loop-place l = record {
  long : length l.text ≡ length l.bytes;
  same : take l.place l.bytes ≡ take l.place l.text;
}
