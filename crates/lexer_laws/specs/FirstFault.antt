-- The first byte that no text could have at its place.
-- Unicode, table 3-7, Well-Formed UTF-8 Byte Sequences; docs/SCRIPTS.md, "Refusals of tokens".
use Rattle.std.specs.Prelude.{ℕ, ◌+◌, ◌<◌, ◌≤◌, List, ◌++◌, length, take}
use Rattle.std.specs.Str.{IsUtf8}

-- some text begins with these bytes
abbrev pub BeginsText : List ℕ → Type 0
BeginsText bytes = (more : List ℕ) × IsUtf8 (bytes ++ more)

-- some text begins with the bytes before this place, and none with those and the byte at it; or the
-- bytes end there
pub record IsFirstFault (bytes : List ℕ) (place : ℕ) : Type 0 where
  pub within : place ≤ length bytes
  pub before : BeginsText (take place bytes)
  pub at : place < length bytes → ¬ (BeginsText (take (place + 1) bytes))
