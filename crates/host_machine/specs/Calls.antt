-- Which calls are open, and how many. No caller needs this.
-- This project's own; docs/HOST.md, "What becomes of a call".
use Rattle.std.specs.Prelude.{ℕ, List, Option, Bool, false, not, count_by, slice_get}
use Rattle.std.specs.Option.{option_map_or}
use Rattle.host_meaning.specs.declared.moves.Held.{Held}
use Rattle.host_meaning.specs.Stand.{is_there}

-- the calls that are not settled
abbrev pub open_count : List (Option Held) → ℕ
open_count calls = count_by (λ settled. not (is_there settled)) calls

-- call n was drawn and is not settled
abbrev pub is_open_in : List (Option Held) → ℕ → Bool
is_open_in calls n = option_map_or (λ settled. not (is_there settled)) (slice_get calls n) false
