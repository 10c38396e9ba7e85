use Rattle.std.proofs.Common.{Bool, ◌&&◌, not, ap, ◌∙◌}
use Rattle.parser_rules.specs.declared.class.Class.{Class}
use Rattle.parser_rules.specs.Classes.{class_of, is_one_of}
use Rattle.parser_rules.specs.Rules as rules
use Rattle.js_parser.specs.State.{rest_of}
use Rattle.js_parser.proofs.Steps as steps
use Rattle.js_parser.proofs.reader.Reader.sees_on_line.Goals as goal

pub returns-in-None : goal.returns-in-None
returns-in-None c = (ap (λ (b : Bool). b && not c.is_line.result) (c.is_among.ensures ∙ ap (λ (k : Class). is_one_of k c.args.classes.now) c.args.self.now.in_view) ∙ ap (λ (b : Bool). is_one_of (class_of (rest_of c.args.self.now)) c.args.classes.now && not b) c.is_line.ensures) ∙ steps.passes_here c.args.self.now (rules.sees_on_line c.args.classes.now) c.in-None.is

pub returns-in-Some : goal.returns-in-Some
returns-in-Some c = steps.passes_not c.args.self.now (rules.sees_on_line c.args.classes.now) _ c.in-Some.is
