mod CommentLemmas
mod EscapeLemmas
mod NumeralLemmas
mod CharacterBytes
mod FaultLemmas
