use Rattle.std.proofs.Common.{sym, ◌∙◌}
use Rattle.js_lexer.proofs.TableLemmas.{past_nothing}
use Rattle.js_lexer.proofs.punctuators.strip.Goals as goal

pub returns-in_default : goal.returns-in_default
returns-in_default c = record {
  value = sym c.loop-byte.invariant
      ∙ past_nothing c.args.spelling.now c.loop-byte.byte-index c.loop-byte.rest.now c.loop-byte-test.true c.in_default.len_below;
}
