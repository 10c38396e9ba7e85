use Rattle.std.proofs.Common.{sym, subst}
use Rattle.std.specs.Str.{IsUtf8}
use Rattle.host_script.proofs.WordLemmas.{word_utf8}
use Rattle.host_script.proofs.draft.Draft.set.Goals as goal

pub key_of-requires : goal.key_of-requires
key_of-requires c = subst IsUtf8 (sym c.words_of-words.ensures.third) (word_utf8 2 c.args.words.now c.requires)
