use Rattle.std.proofs.Common.{arith, sym, ◌∙◌}
use Rattle.host_script.proofs.TextLemmas.{reads_more, reads_none, goes_past}
use Rattle.host_script.proofs.long_text.long_text.Goals as goal

pub returns-then-eq-clause-goes : goal.returns-then-eq-clause-goes
returns-then-eq-clause-goes c =
    goes_past _ _ _ _ _ _ _ _ _ _ c.loop-line.invariant.read c.in-Some.ensures.line c.in-Some.ensures.number c.in-Some.ensures.shorter

pub loop-line-preserved : goal.loop-line-preserved
loop-line-preserved c = record {
  read = reads_more _ _ _ _ _ _ _ _ _ c.keep_line.new.text.items _ _ c.loop-line.invariant.read c.in-Some.ensures.line (sym c.eq.ensures ∙ c.if-eq.false)
      c.in-Some.ensures.number c.in-Some.ensures.shorter c.in_ok-keep_line.ensures c.first_bad-bad.ensures;
  began = c.loop-line.invariant.began;
  within = omega (arith, c.in-Some.ensures.number, c.in-Some.ensures.shorter);
}

pub returns-clause-gives : goal.returns-clause-gives
returns-clause-gives c = reads_none _ _ _ _ _ _ _ _ c.loop-line.invariant.read c.in_default.ensures.line c.in_default.ensures.ended.0
