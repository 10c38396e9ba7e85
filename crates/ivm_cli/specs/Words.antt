-- Which words a run is asked for by.
-- This project's own; docs/HOST.md, "The words".
use Rattle.std.specs.Prelude.{ℕ, List, [], ◌∷◌, codes, Bool, false}
use Rattle.std.specs.Str.{bytes_eq}

-- the one word `run`
abbrev pub is_run : List (List ℕ) → Bool
is_run [] = false
is_run (word ∷ []) = bytes_eq word (codes "run")
is_run (word ∷ more ∷ words) = false
