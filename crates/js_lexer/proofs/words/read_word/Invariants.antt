use Rattle.std.proofs.Common.{◌≡◌, ◌≤◌, ◌∷◌, ◌++◌, length}
use Rattle.ivm_text.specs.Text.{encode_utf16_all}
use Rattle.js_lexer.specs.Words.{word_of, behind_word}
use Rattle.js_lexer.proofs.words.read_word.Given as goal

abbrev pub invariant-loop-rest : goal.invariant-loop-rest
invariant-loop-rest l =
    (l.units ++ encode_utf16_all (word_of l.rest) ≡ encode_utf16_all (l.fn.c ∷ word_of l.fn.text))
    × (behind_word l.rest ≡ behind_word l.fn.text) × (length l.rest ≤ length l.fn.text)

abbrev pub decreases-loop-rest : goal.decreases-loop-rest
decreases-loop-rest l = length l.rest
