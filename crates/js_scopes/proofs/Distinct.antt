-- A name that none of the bindings has makes no two of them alike.
use Rattle.std.proofs.Common.{◌≡◌, ℕ, ◌<◌, List, [], ◌∷◌, ◌++◌, Bool, true, false, Some, None, length, get_or, refl, sym, subst, arith}
use Rattle.std.specs.Prelude.{position, is_some, nat_lt, if◌then◌else◌}
use Rattle.std.specs.List.{position_or_len}
use Rattle.std.proofs.lemmas.Bool.Decides.{nat_tests}
use Rattle.std.proofs.lemmas.List.Quantifiers.{all_pairs_push}
use Rattle.std.proofs.lemmas.List.Sums.{fails_before_first}
use Rattle.ivm_text.specs.Keys.{is_key}
use Rattle.charged_heap.specs.declared.values.Binding.{Binding}
use Rattle.charged_heap.specs.Bindings.{place_of}
use Rattle.js_scopes.specs.Bindings.{new_binding, AreDistinct}

-- where no place passes, none of the elements does
none_passes : {X : Type 0} (p : X → Bool) (xs : List X) (k : ℕ) (d : X) → is_some (position p xs) ≡ false → k < length xs → p (get_or xs k d) ≡ false
none_passes p xs k d none within = fails_before_first p xs k d (by (nat_lt (position_or_len p xs) (length xs)) refl none)
  where
    by : (b : Bool) → nat_lt (position_or_len p xs) (length xs) ≡ b → is_some (if b then Some (position_or_len p xs) else None) ≡ false → k < position_or_len p xs
    by true e gone = absurd (cc)
    by false e gone = grind (arith, nat_tests)

pub distinct_pushed : (old new : List Binding) (name : List ℕ) (constant : Bool)
    → is_some (place_of old name) ≡ false → new ≡ old ++ new_binding name constant ∷ [] → AreDistinct old → AreDistinct new
distinct_pushed old new name constant none pushed distinct =
    subst AreDistinct (sym pushed)
    (all_pairs_push (λ a b. is_key a.name b.name ≡ false) old (new_binding name constant) distinct
    (λ k d within. none_passes (λ b. is_key b.name name) old k d none within))
