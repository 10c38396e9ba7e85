use Rattle.std.proofs.Common.{arith, ap, ◌∙◌}
use Rattle.js_lexer.specs.Tokens.{byte_len}
use Rattle.js_lexer.proofs.PlaceLemmas.{byte_len-chars}
use Rattle.js_lexer.proofs.lexer.read.Goals as goal

pub places_of-requires : goal.places_of-requires
places_of-requires c =
    let all = byte_len-chars c.args.text.now c.utf8.text in
    omega (arith, all, ap byte_len (c.deref.ensures.value ∙ c.in_ok-characters.ensures))
