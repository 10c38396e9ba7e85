-- The order of an object's own keys.
-- ECMA-262, OrdinaryOwnPropertyKeys and "array index"; docs/SCRIPTS.md, "Keys".
use Rattle.std.specs.Prelude.{◌≡◌, ℕ, ◌+◌, ◌-◌, ◌*◌, List, [], ◌∷◌, ◌&&◌, Option, Some, None, nat_le, nat_lt, map, slice_get, if◌then◌else◌}
use Rattle.std.specs.Fmt.{decimal}
use Rattle.std.specs.List.Sorted.{IsPermutation, IsNonDecreasingBy, IsStableByKey}
use Rattle.std.specs.Ordering.{nat_cmp}
use Rattle.std.specs.Option.{unwrap_or, option_map_or}
use Rattle.ivm_text.specs.Keys.{is_key}
use Rattle.ivm_text.specs.declared.key_order.TheConstants.{INDEX_END}

-- ---- array indices

-- the number that these digits write after those of n; 48 is the code unit of the digit 0
abbrev pub read_on : ℕ → List ℕ → ℕ
read_on n [] = n
read_on n (digit ∷ digits) = read_on (10 * n + (digit - 48)) digits

-- the array index that a key is: the key is the decimal text of a number of 0 to 2^32 - 2
unfoldable pub index_of : List ℕ → Option ℕ
index_of key = let n = read_on 0 key in if is_key key (decimal n) && nat_lt n INDEX_END then Some n else None

-- where a key stands: an array index by its number, and all other keys behind those
unfoldable pub rank_of : List ℕ → ℕ
rank_of key = unwrap_or (index_of key) INDEX_END

-- ---- the order

-- x put before the first whose number isn't below that of x
abbrev pub put_by : {X : Type 0} → (X → ℕ) → X → List X → List X
put_by n x [] = x ∷ []
put_by n x (y ∷ ys) = if nat_le (n x) (n y) then x ∷ y ∷ ys else y ∷ put_by n x ys

-- the list by ascending numbers; of those with one number, the earlier stays before the later
abbrev pub sorted_by : {X : Type 0} → (X → ℕ) → List X → List X
sorted_by n [] = []
sorted_by n (x ∷ xs) = put_by n x (sorted_by n xs)

-- array indices ascending, then the others in order of creation
abbrev pub key_order : {V : Type 0} → List (List ℕ × V) → List (List ℕ × V)
key_order pairs = sorted_by (λ p. rank_of p.0) pairs

-- the pairs at these places are those in key order
abbrev pub AreInOrder : {V : Type 0} → List (List ℕ × V) → List ℕ → Type 0
AreInOrder pairs places = map (slice_get pairs) places ≡ map Some (key_order pairs)

-- where the pair at a place stands; one that isn't there, behind all
abbrev pub rank_at : {V : Type 0} → List (List ℕ × V) → ℕ → ℕ
rank_at pairs place = option_map_or (λ p. rank_of p.0) (slice_get pairs place) INDEX_END

-- ---- what is proved of it

-- the key order of a list has its pairs, by rank, and those of one rank as they stood; a list in
-- key order stays
pub record IsKeyOrder {V : Type 0} (pairs ordered : List (List ℕ × V)) : Type 0 where
  pub permutation : IsPermutation pairs ordered
  pub ascending : IsNonDecreasingBy (λ p. rank_of p.0) ordered
  pub stable : IsStableByKey (λ p. rank_of p.0) nat_cmp pairs ordered
  pub idempotent : key_order ordered ≡ ordered
