use Rattle.js_lexer.proofs.OneReading.{has_one_reading}
use Rattle.js_lexer.proofs.laws.one_reading.Goals as goal

pub returns : goal.returns
returns c = has_one_reading
