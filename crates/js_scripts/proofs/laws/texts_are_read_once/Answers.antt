use Rattle.js_scripts.proofs.ReadingLemmas.{reads_once}
use Rattle.js_scripts.proofs.laws.texts_are_read_once.Goals as goal

pub returns : goal.returns
returns c = λ bytes one other first second. reads_once bytes one other (record { lexed = c.one_reading.ensures bytes; grammar = c.scripts_derive.ensures; refusals = c.scripts_have_one_refusal.ensures }) first second
