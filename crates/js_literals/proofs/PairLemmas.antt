-- The pairs of an object, as numbers of nodes and as trees.
use Rattle.std.proofs.Common.{◌≡◌, ℕ, zero, suc, ◌+◌, ◌<◌, ◌≤◌, true, false, ◌⊎◌, inl, inr, List, [], ◌∷◌, length, map, drop, get_or, Some, if◌then◌else◌, refl, sym, ap, ◌∙◌, subst, arith, add-one, drop-cons}
use Rattle.std.specs.Prelude.{slice_get, zip, All}
use Rattle.std.specs.Map.{keys_of}
use Rattle.std.specs.List.{IsDistinct}
use Rattle.std.specs.List.Sorted.{IsPermutation}
use Rattle.std.proofs.lemmas.List.Sorted.{IsPermutation-map}
use Rattle.std.proofs.lemmas.List.Elements.{All-get_or, All-cons}
use Rattle.std.proofs.lemmas.Option.{get_or_from_slice_get}
use Rattle.std.proofs.lemmas.Cmp.{nat_list_eq_equiv}
use Rattle.std.proofs.lemmas.List.{length-map, length-drop, nil_from_length}
use Rattle.std.proofs.lemmas.Map.Keys.{IsDistinct-IsPermutation}
use Rattle.ivm_text.specs.Keys.{is_key, with_value, HasDistinctKeys}
use Rattle.ivm_text.specs.KeyOrder.{rank_of, key_order}
use Rattle.ivm_text.proofs.SortLemmas.{sorted_map}
use Rattle.js_literals.specs.Copies.{given, pairs_of}

-- ---- a map of the values

module _ {A B : Type 0} (f : A → B) where
  abbrev second : List ℕ × A → List ℕ × B
  second p = (p.0, f p.1)

  put_at : (es : List (List ℕ × A)) (k : List ℕ) (v : A) → map second (with_value es k v) ≡ with_value (map second es) k (f v)
  put_at [] k v = refl
  put_at (e ∷ es) k v =
      elim (is_key k e.0) as (λ b. map second (if b then (e.0, v) ∷ es else e ∷ with_value es k v) ≡ (if b then (e.0, f v) ∷ map second es else second e ∷ with_value (map second es) k (f v))) [
        | true ↦ refl
        | false ↦ ap (λ ps. second e ∷ ps) (put_at es k v)
      ]

  given_at : (es ps : List (List ℕ × A)) → map second (given es ps) ≡ given (map second es) (map second ps)
  given_at es [] = refl
  given_at es (p ∷ ps) = given_at (with_value es p.0 p.1) ps ∙ ap (λ qs. given qs (map second ps)) (put_at es p.0 p.1)

  zip_at : (ks : List (List ℕ)) (vs : List A) → map second (zip ks vs) ≡ zip ks (map f vs)
  zip_at [] vs = refl
  zip_at (k ∷ ks) [] = refl
  zip_at (k ∷ ks) (v ∷ vs) = ap (λ ps. (k, f v) ∷ ps) (zip_at ks vs)

  pub pairs_of_map : (ks : List (List ℕ)) (vs : List A) → map second (pairs_of ks vs) ≡ pairs_of ks (map f vs)
  pairs_of_map ks vs =
      sorted_map (λ (p : List ℕ × B). rank_of p.0) second (given [] (zip ks vs))
      ∙ ap key_order (given_at [] (zip ks vs) ∙ ap (λ ps. given [] ps) (zip_at ks vs))

-- ---- numbers

module _ (P : ℕ → Type 0) where
  abbrev below : List ℕ × ℕ → Type 0
  below p = P p.1

  All-with_value : (es : List (List ℕ × ℕ)) (k : List ℕ) (v : ℕ) → All below es → P v → All below (with_value es k v)
  All-with_value [] k v all h = All-cons below (k, v) [] h (λ i d out. absurd (omega arith))
  All-with_value (e ∷ es) k v all h =
      let rest : All below es = λ i d within. all (suc i) d (omega arith) in
      elim (is_key k e.0) as (λ b. All below (if b then (e.0, v) ∷ es else e ∷ with_value es k v)) [
        | true ↦ All-cons below (e.0, v) es h rest
        | false ↦ All-cons below e (with_value es k v) (all 0 e (omega arith)) (All-with_value es k v rest h)
      ]

  pub All-given : (ks : List (List ℕ)) (vs : List ℕ) (es : List (List ℕ × ℕ)) → All P vs → All below es → All below (given es (zip ks vs))
  All-given [] vs es all done = done
  All-given (k ∷ ks) [] es all done = done
  All-given (k ∷ ks) (v ∷ vs) es all done =
      All-given ks vs (with_value es k v) (λ i d within. all (suc i) d (omega arith)) (All-with_value es k v done (all 0 0 (omega arith)))

  pub number_there : (es : List (List ℕ × ℕ)) (i : ℕ) (p : List ℕ × ℕ) → i < length es → All below es → slice_get es i ≡ Some p → P p.1
  number_there es i p within all e =
      subst (λ q. P q.1) (get_or_from_slice_get es i p p e) (All-get_or below es i p within all)

-- ---- walks

zip_from : (ks : List (List ℕ)) (vs : List ℕ) (i : ℕ) (key : List ℕ) (v : ℕ) → i < length ks → i < length vs → key ≡ get_or ks i key → v ≡ get_or vs i 0
    → zip (drop i ks) (drop i vs) ≡ (key, v) ∷ zip (drop (i + 1) ks) (drop (i + 1) vs)
zip_from ks vs i key v hk hv ek ev =
    ap (λ xs. zip xs (drop i vs)) (drop-cons ks i key hk) ∙ ap (λ ys. zip (get_or ks i key ∷ drop (suc i) ks) ys) (drop-cons vs i 0 hv)
    ∙ ap (λ x. (x, get_or vs i 0) ∷ zip (drop (suc i) ks) (drop (suc i) vs)) (sym ek)
    ∙ ap (λ y. (key, y) ∷ zip (drop (suc i) ks) (drop (suc i) vs)) (sym ev)
    ∙ ap (λ j. (key, v) ∷ zip (drop j ks) (drop j vs)) (sym (add-one i))

pub given_goes : (ks : List (List ℕ)) (vs : List ℕ) (es more whole : List (List ℕ × ℕ)) (i : ℕ) (key : List ℕ) (v : ℕ)
    → i < length ks → i < length vs → key ≡ get_or ks i key → v ≡ get_or vs i 0 → more ≡ with_value es key v
    → given es (zip (drop i ks) (drop i vs)) ≡ whole → given more (zip (drop (i + 1) ks) (drop (i + 1) vs)) ≡ whole
given_goes ks vs es more whole i key v hk hv ek ev em e =
    ap (λ qs. given qs (zip (drop (i + 1) ks) (drop (i + 1) vs))) em ∙ ap (λ ps. given es ps) (sym (zip_from ks vs i key v hk hv ek ev)) ∙ e

zip_past : (ks : List (List ℕ)) (vs : List ℕ) (i : ℕ) → (length ks ≤ i) ⊎ (length vs ≤ i) → zip (drop i ks) (drop i vs) ≡ []
zip_past [] vs zero past = refl
zip_past [] vs (suc i) past = refl
zip_past (k ∷ ks) [] zero past = refl
zip_past (k ∷ ks) [] (suc i) past = none (drop i ks)
  where
    none : (xs : List (List ℕ)) → zip {X = ℕ} xs [] ≡ []
    none [] = refl
    none (x ∷ xs) = refl
zip_past (k ∷ ks) (v ∷ vs) zero (inl h) = absurd (omega arith)
zip_past (k ∷ ks) (v ∷ vs) zero (inr h) = absurd (omega arith)
zip_past (k ∷ ks) (v ∷ vs) (suc i) (inl h) = zip_past ks vs i (inl (omega arith))
zip_past (k ∷ ks) (v ∷ vs) (suc i) (inr h) = zip_past ks vs i (inr (omega arith))

pub given_ends : (ks : List (List ℕ)) (vs : List ℕ) (es whole : List (List ℕ × ℕ)) (i : ℕ) → (length ks ≤ i) ⊎ (length vs ≤ i)
    → given es (zip (drop i ks) (drop i vs)) ≡ whole → es ≡ whole
given_ends ks vs es whole i past e = sym (ap (λ ps. given es ps) (zip_past ks vs i past)) ∙ e

-- the pair at a place of the order is the next one
next_pair : (es ordered : List (List ℕ × ℕ)) (places : List ℕ) (i : ℕ) (p : List ℕ × ℕ) → map (slice_get es) places ≡ map Some ordered → i < length places
    → slice_get es (get_or places i 0) ≡ Some p → drop i ordered ≡ p ∷ drop (suc i) ordered
next_pair es ordered [] i p e h at = absurd (omega arith)
next_pair es [] (k ∷ places) i p e h at = absurd (let none : ⊥ = cc in none)
next_pair es (q ∷ ordered) (k ∷ places) zero p e h at =
    let here : slice_get es k ≡ Some q = cc in
    let same : q ≡ p = cc in
    ap (λ x. x ∷ ordered) same
next_pair es (q ∷ ordered) (k ∷ places) (suc i) p e h at = let rest : map (slice_get es) places ≡ map Some ordered = cc in next_pair es ordered places i p rest (omega arith) at

pub ordered_from : (es ordered : List (List ℕ × ℕ)) (places : List ℕ) (i : ℕ) (p : List ℕ × ℕ) → map (slice_get es) places ≡ map Some ordered → i < length places
    → slice_get es (get_or places i 0) ≡ Some p → drop i ordered ≡ p ∷ drop (i + 1) ordered
ordered_from es ordered places i p e h at = next_pair es ordered places i p e h at ∙ ap (λ j. p ∷ drop j ordered) (sym (add-one i))

pub ordered_past : (es ordered : List (List ℕ × ℕ)) (places : List ℕ) (i : ℕ) → map (slice_get es) places ≡ map Some ordered → length places ≤ i → drop i ordered ≡ []
ordered_past es ordered places i e past =
    let long : length places ≡ length ordered = sym (length-map places (slice_get es)) ∙ ap length e ∙ length-map ordered Some in
    nil_from_length (drop i ordered) (omega (arith, length-drop i ordered, long, past))

pub keys_differ : (es ordered : List (List ℕ × ℕ)) → IsPermutation es ordered → HasDistinctKeys es → IsDistinct is_key (keys_of ordered)
keys_differ es ordered moved apart =
    IsDistinct-IsPermutation is_key (nat_list_eq_equiv.symm) (keys_of es) (keys_of ordered) (IsPermutation-map (λ (p : List ℕ × ℕ). p.0) es ordered moved) apart
