use Rattle.std.proofs.Common.{length, inl, inr, arith}
use Rattle.std.proofs.lemmas.Bool.{cases_lt}
use Rattle.js_literals.proofs.PairLemmas.{given_ends}
use Rattle.js_literals.proofs.objects.entries_of.Goals as goal

pub returns-clause-entries : goal.returns-clause-entries
returns-clause-entries c =
    given_ends c.as_slice-names.result.now c.as_slice-kids.result.now c.loop-place.entries.entries _ c.loop-place.place
    (elim (cases_lt (length c.as_slice-kids.result.now) (length c.as_slice-names.result.now)) [
      | inl h ↦ inr (omega arith)
      | inr h ↦ inl (omega arith)
    ]) c.loop-place.invariant.entries
