-- The place of the first byte that passes a test, or the end.
use Rattle.std.proofs.Common.{◌≡◌, ℕ, ◌<◌, ◌≤◌, Bool, List, length, Some, None, arith, position, nat_lt, cond, not}
use Rattle.std.specs.List.{position_or_len}
use Rattle.std.specs.Option.{unwrap_or}
use Rattle.std.proofs.lemmas.List.Sums.{prefix_len-le-length}
use Rattle.std.proofs.lemmas.Bool.Decides.{nat_tests}

pub place_or_len_le : (p : ℕ → Bool) (xs : List ℕ) → position_or_len p xs ≤ length xs
place_or_len_le p xs = prefix_len-le-length (λ x. not (p x)) xs

found_or_end : (place n : ℕ) → place ≤ n → unwrap_or (cond (nat_lt place n) (Some place) None) n ≡ place
found_or_end place n h = grind (arith, nat_tests)

pub place_or_end : (p : ℕ → Bool) (xs : List ℕ) → unwrap_or (position p xs) (length xs) ≡ position_or_len p xs
place_or_end p xs = found_or_end (position_or_len p xs) (length xs) (place_or_len_le p xs)

pub place_within : (p : ℕ → Bool) (xs : List ℕ) → unwrap_or (position p xs) (length xs) ≤ length xs
place_within p xs = omega (arith, place_or_end p xs, place_or_len_le p xs)

some_place : (a n place : ℕ) → cond (nat_lt a n) (Some a) None ≡ Some place → (a ≡ place) × (a < n)
some_place a n place h = grind (arith, nat_tests)

no_place : (a n : ℕ) → a ≤ n → cond (nat_lt a n) (Some a) None ≡ None → a ≡ n
no_place a n h e = grind (arith, nat_tests)

-- the place where a test passes first
pub place_is : (p : ℕ → Bool) (xs : List ℕ) (place : ℕ) → position p xs ≡ Some place → (position_or_len p xs ≡ place) × (position_or_len p xs < length xs)
place_is p xs place e = some_place (position_or_len p xs) (length xs) place e

-- it passes nowhere
pub place_none : (p : ℕ → Bool) (xs : List ℕ) → position p xs ≡ None → position_or_len p xs ≡ length xs
place_none p xs e = no_place (position_or_len p xs) (length xs) (place_or_len_le p xs) e
