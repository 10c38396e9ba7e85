use Rattle.std.proofs.Common.{if◌then◌else◌, refl, ap, ◌∙◌}
use Rattle.parser_rules.specs.declared.class.Class.{Class}
use Rattle.parser_rules.specs.declared.form.Why.TheVariants.{TooDeep, Unexpected}
use Rattle.parser_rules.specs.Classes.{is_one_of}
use Rattle.parser_rules.specs.Grammar as grammar
use Rattle.parser_rules.specs.Grammar.{within, limit}
use Rattle.js_parser.specs.State.{state_of}
use Rattle.js_parser.proofs.Steps as steps
use Rattle.js_parser.proofs.limit.stop_beyond.Goals as goal

pub returns-in-None : goal.returns-in-None
unfolding state_of
returns-in-None c = steps.beyond_here c.args.reader.now c.args.form _ c.in-None.is
    (c.refused_at_limit.ensures ∙ ap (λ (k : Class). if is_one_of k (grammar.begins c.args.form) then TooDeep else Unexpected) c.args.reader.now.in_view)

pub returns-in-Some : goal.returns-in-Some
returns-in-Some c = steps.form_stuck c.args.reader.now _ (grammar.beyond c.args.form) c.in-Some.is refl
