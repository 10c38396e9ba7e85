use Rattle.std.proofs.Common.{ℕ, List, [], Bor, sym, refl, ◌∙◌}
use Rattle.js_lexer.specs.Punctuators.{first_of}
use Rattle.js_lexer.proofs.TableLemmas.{first_step, first_end}
use Rattle.js_lexer.proofs.punctuators.first_in.Goals as goal

-- the slice that is read beyond the table's end
abbrev empty : Bor (List ℕ)
empty = record { ref_ptr = (0, 0); now = [] }

pub returns-in-Some : goal.returns-in-Some
returns-in-Some c = record {
  value = sym c.loop-spelling.invariant ∙ first_step c.args.table.now c.loop-spelling.spelling-index empty c.args.text.now c.loop-spelling-test.true
      ∙ rw c.in-Some.ensures.value refl;
}

pub loop-spelling-preserved : goal.loop-spelling-preserved
loop-spelling-preserved c =
    sym (first_step c.args.table.now c.loop-spelling.spelling-index empty c.args.text.now c.loop-spelling-test.true ∙ rw c.in_default.ensures.value refl)
    ∙ c.loop-spelling.invariant

pub returns : goal.returns
unfolding first_of
returns c = record {
  value = sym c.loop-spelling.invariant ∙ first_end c.args.table.now c.loop-spelling.spelling-index c.args.text.now c.loop-spelling-test.false;
}
