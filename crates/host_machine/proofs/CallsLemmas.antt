-- The count of open calls.
use Rattle.std.proofs.Common.{◌≡◌, ℕ, suc, zero, ◌+◌, ◌<◌, ◌≤◌, List, [], ◌∷◌, ◌++◌, length, get_or, Bool, true, false, not, cond, Option, Some, None, refl, sym, ap, ◌∙◌, arith, slice_get, unwrap_or}
use Rattle.std.proofs.Math.ListN.{set}
use Rattle.std.proofs.lemmas.Option.{unwrap_or-slice_get}
use Rattle.std.proofs.lemmas.List.Sums.{sum_by-cons}
use Rattle.std.specs.Option.{option_map_or}
use Rattle.host_meaning.specs.declared.moves.Held.{Held}
use Rattle.host_meaning.specs.Stand.{is_there}
use Rattle.host_machine.specs.Calls.{open_count}

count_more : (call : Option Held) (calls : List (Option Held)) → open_count (call ∷ calls) ≡ cond (not (is_there call)) 1 0 + open_count calls
count_more call calls = sum_by-cons (λ (settled : Option Held). cond (not (is_there settled)) 1 0) call calls

set_later : (call : Option Held) (calls : List (Option Held)) (n : ℕ) (now : Option Held) → open_count (set calls n now) + 1 ≡ open_count calls
    → open_count (call ∷ set calls n now) + 1 ≡ open_count (call ∷ calls)
set_later call calls n now rest = omega (arith, count_more call (set calls n now), count_more call calls)

-- a call that is settled was open
pub one_fewer : (calls : List (Option Held)) (n : ℕ) (held : Held) → option_map_or (λ settled. not (is_there settled)) (slice_get calls n) false ≡ true
    → open_count (set calls n (Some held)) + 1 ≡ open_count calls
one_fewer [] n held was_open = cc
one_fewer (None ∷ calls) zero held was_open = omega (arith, count_more (Some held) calls, count_more None calls)
one_fewer (Some other ∷ calls) zero held was_open = cc
one_fewer (call ∷ calls) (suc n) held was_open = set_later call calls n (Some held) (one_fewer calls n held was_open)

pub open_within : (calls : List (Option Held)) (n : ℕ) → option_map_or (λ settled. not (is_there settled)) (slice_get calls n) false ≡ true → n < length calls
open_within [] n was_open = cc
open_within (call ∷ calls) zero was_open = omega arith
open_within (call ∷ calls) (suc n) was_open = omega (arith, open_within calls n was_open)

-- nothing is there past the end
pub absent : {A : Type 0} (xs : List A) (n : ℕ) (d : A) → slice_get xs n ≡ None → get_or xs n d ≡ d
absent xs n d none = sym (unwrap_or-slice_get xs n d) ∙ ap (λ o. unwrap_or o d) none
