use Rattle.js_scripts.proofs.ReadingLemmas.{early_told}
use Rattle.js_scripts.proofs.read.judged.Goals as goal

pub returns-in-Err-clause-err : goal.returns-in-Err-clause-err
returns-in-Err-clause-err c = early_told c.args.parsed c.in-Err.fault c.told.result c.in-Err.ensures.refused c.told.ensures
