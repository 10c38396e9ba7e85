use Rattle.std.proofs.Common.{◌≡◌, ◌+◌, ◌++◌, drop}
use Rattle.js_lexer.specs.Tokens.{byte_len}
use Rattle.js_lexer.specs.Places.{places_from}
use Rattle.js_lexer.proofs.places.places_of.Given as goal

abbrev pub invariant-loop-c : goal.invariant-loop-c
invariant-loop-c l =
    (l.places.items ++ places_from l.place (drop l.c-index l.text) ≡ places_from 0 l.text)
    × (l.place + byte_len (drop l.c-index l.text) ≡ byte_len l.text)
