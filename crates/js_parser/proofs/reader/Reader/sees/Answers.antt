use Rattle.std.proofs.Common.{[], ◌∷◌, ap, ◌∙◌}
use Rattle.parser_rules.specs.declared.class.Class.{Class}
use Rattle.parser_rules.specs.Classes.{is_one_of}
use Rattle.parser_rules.specs.Rules as rules
use Rattle.js_parser.proofs.Steps as steps
use Rattle.js_parser.proofs.reader.Reader.sees.Goals as goal

pub returns-in-None : goal.returns-in-None
returns-in-None c = (c.is_among.ensures ∙ ap (λ (k : Class). is_one_of k (c.args.class ∷ [])) c.args.self.now.in_view) ∙ steps.passes_here c.args.self.now (rules.sees (c.args.class ∷ [])) c.in-None.is

pub returns-in-Some : goal.returns-in-Some
returns-in-Some c = steps.passes_not c.args.self.now (rules.sees (c.args.class ∷ [])) _ c.in-Some.is
