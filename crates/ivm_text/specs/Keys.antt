-- Lists of keys with values, such as the properties of an object.
-- ECMA-262, OrdinaryOwnPropertyKeys, for objects without array indices. A key is the list of its
-- code units.
use Rattle.std.specs.Prelude.{ℕ, Bool, List, Option, nat_eq}
use Rattle.std.specs.Map.{lookup, keys_of}
use Rattle.std.specs.List.{IsDistinct}
use Rattle.indexmap.specs.IndexMap.{insert_entry}
use lib.Pointwise.{pointwise}

-- whether two keys have the same units
abbrev pub is_key : List ℕ → List ℕ → Bool
is_key = pointwise nat_eq

-- the value at a key, if the key is there
abbrev pub value_at : {V : Type 0} → List (List ℕ × V) → List ℕ → Option V
value_at pairs key = lookup (is_key key) pairs

-- a key given a value: a new key goes last, a present key keeps its place
abbrev pub with_value : {V : Type 0} → List (List ℕ × V) → List ℕ → V → List (List ℕ × V)
with_value pairs key v = insert_entry is_key pairs key v

-- no key stands twice
abbrev pub HasDistinctKeys : {V : Type 0} → List (List ℕ × V) → Type 0
HasDistinctKeys pairs = IsDistinct is_key (keys_of pairs)
