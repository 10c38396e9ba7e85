use Rattle.std.proofs.Common.{◌∙◌}
use Rattle.parser_rules.specs.Rules as rules
use Rattle.js_parser.proofs.Steps as steps
use Rattle.js_parser.proofs.reader.Reader.must_be_parameters.Goals as goal

pub returns-in-None : goal.returns-in-None
returns-in-None c = c.parameters_alone.ensures ∙ steps.passes_here c.args.self.now rules.must_be_parameters c.in-None.is

pub returns-in-Some : goal.returns-in-Some
returns-in-Some c = steps.passes_not c.args.self.now rules.must_be_parameters _ c.in-Some.is
