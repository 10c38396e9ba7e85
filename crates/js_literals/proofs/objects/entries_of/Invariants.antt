use Rattle.std.proofs.Common.{◌≡◌, [], drop}
use Rattle.std.specs.Prelude.{zip}
use Rattle.ivm_text.specs.Keys.{HasDistinctKeys}
use Rattle.js_literals.specs.Copies.{given}
use Rattle.js_literals.proofs.objects.entries_of.Given as goal

abbrev pub invariant-loop-place : goal.invariant-loop-place
invariant-loop-place l = record {
  entries : given l.entries.entries (zip (drop l.place l.names) (drop l.place l.kids)) ≡ given [] (zip l.node.names l.node.kids);
  distinct : HasDistinctKeys l.entries.entries;
}
