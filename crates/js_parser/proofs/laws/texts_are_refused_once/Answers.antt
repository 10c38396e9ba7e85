use Rattle.js_parser.proofs.OneFault.{script_once, literal_once, arguments_once}
use Rattle.js_parser.proofs.laws.texts_are_refused_once.Goals as goal

pub returns-clause-scripts : goal.returns-clause-scripts
returns-clause-scripts c = script_once

pub returns-clause-literals : goal.returns-clause-literals
returns-clause-literals c = literal_once

pub returns-clause-arguments : goal.returns-clause-arguments
returns-clause-arguments c = arguments_once
