-- Lists sorted by a number of each element.
use Rattle.std.proofs.Common.{map, ◌≢◌, ◌≡◌, ◌⊎◌, ℕ, zero, suc, Bool, true, false, cond, ◌<◌, ◌≤◌, ◌∙◌, List, [], ◌∷◌, length, refl, ap, sym, subst, arith, inl, inr, if◌then◌else◌, get_or}
use Rattle.std.specs.Prelude.{nat_le}
use Rattle.std.specs.List.{filter, AllByRecursion}
use Rattle.std.specs.Ordering.{is_lt, nat_cmp}
use Rattle.std.specs.List.Sorted.{ties, IsPermutation, IsNonDecreasingBy, IsStableByKey}
use Rattle.std.proofs.lemmas.List.Sorted.{IsPermutation-refl, IsPermutation-cons, IsPermutation-middle, IsPermutation-sym, IsPermutation-trans}
use Rattle.std.proofs.lemmas.Bool.Decides.{leb_tells, nat_tests}
use Rattle.std.proofs.lemmas.Bool.{cases_lt, cases_eq}
use Rattle.ivm_text.specs.KeyOrder.{put_by, sorted_by}

-- sorted, by recursion
abbrev pub Rises : {X : Type 0} → (X → ℕ) → List X → Type 0
Rises n [] = Unit {0}
Rises n (x ∷ xs) = AllByRecursion (λ y. n x ≤ n y) xs × Rises n xs

module _ {X : Type 0} (n : X → ℕ) where
  -- the two cases of one step
  put_before : (x y : X) (ys : List X) → n x ≤ n y → put_by n x (y ∷ ys) ≡ x ∷ y ∷ ys
  put_before x y ys le = elim (leb_tells (n x) (n y)) [
    | inl t ↦ ap (λ b. if b then x ∷ y ∷ ys else y ∷ put_by n x ys) t.0
    | inr t ↦ absurd (omega (arith, t.1))
  ]

  put_after : (x y : X) (ys : List X) → n y < n x → put_by n x (y ∷ ys) ≡ y ∷ put_by n x ys
  put_after x y ys lt = elim (leb_tells (n x) (n y)) [
    | inl t ↦ absurd (omega (arith, t.1))
    | inr t ↦ ap (λ b. if b then x ∷ y ∷ ys else y ∷ put_by n x ys) t.0
  ]

  -- ---- a permutation

  put_permutation : (x : X) (xs : List X) → IsPermutation (x ∷ xs) (put_by n x xs)
  put_permutation x [] = IsPermutation-refl (x ∷ [])
  put_permutation x (y ∷ ys) = elim (cases_lt (n y) (n x)) [
    | inl lt ↦ subst (IsPermutation (x ∷ y ∷ ys)) (sym (put_after x y ys lt))
        (IsPermutation-trans (x ∷ y ∷ ys) (y ∷ x ∷ ys) (y ∷ put_by n x ys)
        (IsPermutation-sym (y ∷ x ∷ ys) (x ∷ y ∷ ys) (IsPermutation-middle (y ∷ []) x ys))
        (IsPermutation-cons y (x ∷ ys) (put_by n x ys) (put_permutation x ys)))
    | inr le ↦ subst (IsPermutation (x ∷ y ∷ ys)) (sym (put_before x y ys le)) (IsPermutation-refl (x ∷ y ∷ ys))
  ]

  pub sorted_permutation : (xs : List X) → IsPermutation xs (sorted_by n xs)
  sorted_permutation [] = IsPermutation-refl []
  sorted_permutation (x ∷ xs) =
      IsPermutation-trans (x ∷ xs) (x ∷ sorted_by n xs) (put_by n x (sorted_by n xs))
      (IsPermutation-cons x xs (sorted_by n xs) (sorted_permutation xs)) (put_permutation x (sorted_by n xs))

  -- ---- sorted

  put_all : (P : X → Type 0) (x : X) (xs : List X) → P x → AllByRecursion P xs → AllByRecursion P (put_by n x xs)
  put_all P x [] one all = (one, tt)
  put_all P x (y ∷ ys) one all = elim (cases_lt (n y) (n x)) [
    | inl lt ↦ subst (AllByRecursion P) (sym (put_after x y ys lt)) (all.0, put_all P x ys one all.1)
    | inr le ↦ subst (AllByRecursion P) (sym (put_before x y ys le)) (one, all)
  ]

  from_lower : (a b : ℕ) (xs : List X) → a ≤ b → AllByRecursion (λ y. b ≤ n y) xs → AllByRecursion (λ y. a ≤ n y) xs
  from_lower a b [] le all = tt
  from_lower a b (x ∷ xs) le all = (omega (arith, all.0), from_lower a b xs le all.1)

  put_rises : (x : X) (xs : List X) → Rises n xs → Rises n (put_by n x xs)
  put_rises x [] rises = (tt, tt)
  put_rises x (y ∷ ys) rises = elim (cases_lt (n y) (n x)) [
    | inl lt ↦ subst (Rises n) (sym (put_after x y ys lt))
        (put_all (λ z. n y ≤ n z) x ys (omega arith) rises.0, put_rises x ys rises.1)
    | inr le ↦ subst (Rises n) (sym (put_before x y ys le)) ((le, from_lower (n x) (n y) ys le rises.0), rises)
  ]

  pub sorted_rises : (xs : List X) → Rises n (sorted_by n xs)
  sorted_rises [] = tt
  sorted_rises (x ∷ xs) = put_rises x (sorted_by n xs) (sorted_rises xs)

  -- ---- a sorted list stays

  put_first : (x : X) (xs : List X) → AllByRecursion (λ y. n x ≤ n y) xs → put_by n x xs ≡ x ∷ xs
  put_first x [] all = refl
  put_first x (y ∷ ys) all = put_before x y ys all.0

  pub sorted_stays : (xs : List X) → Rises n xs → sorted_by n xs ≡ xs
  sorted_stays [] rises = refl
  sorted_stays (x ∷ xs) rises = ap (put_by n x) (sorted_stays xs rises.1) ∙ put_first x xs rises.0

  -- ---- stable

  -- two elements of which one test passes at most one can change places before it
  swap_filtered : (p : X → Bool) (x y : X) (xs : List X) → (p x ≡ false) ⊎ (p y ≡ false) → filter p (x ∷ y ∷ xs) ≡ filter p (y ∷ x ∷ xs)
  swap_filtered p x y xs (inl none) =
      ap (λ b. cond b (x ∷ filter p (y ∷ xs)) (filter p (y ∷ xs))) none
      ∙ sym (ap (λ b. cond (p y) (y ∷ cond b (x ∷ filter p xs) (filter p xs)) (cond b (x ∷ filter p xs) (filter p xs))) none)
  swap_filtered p x y xs (inr none) =
      ap (λ b. cond (p x) (x ∷ cond b (y ∷ filter p xs) (filter p xs)) (cond b (y ∷ filter p xs) (filter p xs))) none
      ∙ sym (ap (λ b. cond b (y ∷ filter p (x ∷ xs)) (filter p (x ∷ xs))) none)

  put_filtered : (p : X → Bool) (x : X) (xs : List X) → ((y : X) → n y < n x → (p x ≡ false) ⊎ (p y ≡ false)) → filter p (put_by n x xs) ≡ filter p (x ∷ xs)
  put_filtered p x [] one = refl
  put_filtered p x (y ∷ ys) one = elim (cases_lt (n y) (n x)) [
    | inl lt ↦ ap (filter p) (put_after x y ys lt) ∙ ap (λ zs. cond (p y) (y ∷ zs) zs) (put_filtered p x ys one) ∙ sym (swap_filtered p x y ys (one y lt))
    | inr le ↦ ap (filter p) (put_before x y ys le)
  ]

  pub sorted_filtered : (p : X → Bool) → ((x y : X) → n y < n x → (p x ≡ false) ⊎ (p y ≡ false)) → (xs : List X) → filter p (sorted_by n xs) ≡ filter p xs
  sorted_filtered p one [] = refl
  sorted_filtered p one (x ∷ xs) = put_filtered p x (sorted_by n xs) (one x) ∙ ap (λ zs. cond (p x) (x ∷ zs) zs) (sorted_filtered p one xs)

  -- ---- sorted by recursion and by places

  all_at : (P : X → Type 0) (xs : List X) → AllByRecursion P xs → (k : ℕ) (d : X) → k < length xs → P (get_or xs k d)
  all_at P [] all k d within = absurd (omega (arith, within))
  all_at P (x ∷ xs) all zero d within = all.0
  all_at P (x ∷ xs) all (suc k) d within = all_at P xs all.1 k d (omega (arith, within))

  all_from : (P : X → Type 0) (xs : List X) → ((k : ℕ) (d : X) → k < length xs → P (get_or xs k d)) → AllByRecursion P xs
  all_from P [] all = tt
  all_from P (x ∷ xs) all = (all 0 x (omega arith), all_from P xs (λ k d within. all (suc k) d (omega (arith, within))))

  pub rises_by : (xs : List X) → Rises n xs → IsNonDecreasingBy n xs
  rises_by [] rises = λ i j d le within. absurd (omega (arith, within))
  rises_by (x ∷ xs) rises = by (rises_by xs rises.1)
    where
      by : IsNonDecreasingBy n xs → (i j : ℕ) (d : X) → i ≤ j → j < length (x ∷ xs) → n (get_or (x ∷ xs) i d) ≤ n (get_or (x ∷ xs) j d)
      by rest zero zero d le within = omega arith
      by rest zero (suc j) d le within = all_at (λ y. n x ≤ n y) xs rises.0 j d (omega (arith, within))
      by rest (suc i) zero d le within = absurd (omega (arith, le))
      by rest (suc i) (suc j) d le within = rest i j d (omega (arith, le)) (omega (arith, within))

  pub rises_from : (xs : List X) → IsNonDecreasingBy n xs → Rises n xs
  rises_from [] up = tt
  rises_from (x ∷ xs) up = (
    all_from (λ y. n x ≤ n y) xs (λ k d within. up 0 (suc k) d (omega arith) (omega (arith, within))),
    rises_from xs (λ i j d le within. up (suc i) (suc j) d (omega (arith, le)) (omega (arith, within))),
  )

  -- ---- ties

  abbrev tied : X → X → Bool
  tied z w = ties (λ a b. is_lt (nat_cmp (n a) (n b))) z w

  tied_yes : (z w : X) → n z ≡ n w → tied z w ≡ true
  tied_yes z w e = grind (arith, nat_tests)

  tied_no : (z w : X) → n z ≢ n w → tied z w ≡ false
  tied_no z w ne = grind (arith, nat_tests)

  at_most_one : (z x y : X) → n y < n x → (tied z x ≡ false) ⊎ (tied z y ≡ false)
  at_most_one z x y lt = elim (cases_eq (n z) (n x)) [
    | inl e ↦ inr (tied_no z y (λ f. omega (arith, e, f, lt)))
    | inr ne ↦ inl (tied_no z x ne)
  ]

  pub sorted_stable : (xs : List X) → IsStableByKey n nat_cmp xs (sorted_by n xs)
  sorted_stable xs = λ z. sorted_filtered (tied z) (at_most_one z) xs

  -- ---- there is one list that is sorted and has the ties in their order

  filter_yes : (p : X → Bool) (x : X) (xs : List X) → p x ≡ true → filter p (x ∷ xs) ≡ x ∷ filter p xs
  filter_yes p x xs e = ap (λ b. cond b (x ∷ filter p xs) (filter p xs)) e

  filter_no : (p : X → Bool) (x : X) (xs : List X) → p x ≡ false → filter p (x ∷ xs) ≡ filter p xs
  filter_no p x xs e = ap (λ b. cond b (x ∷ filter p xs) (filter p xs)) e

  filter_none : (z : X) (xs : List X) → AllByRecursion (λ w. n z < n w) xs → filter (tied z) xs ≡ []
  filter_none z [] all = refl
  filter_none z (x ∷ xs) all = filter_no (tied z) x xs (tied_no z x (λ e. omega (arith, e, all.0))) ∙ filter_none z xs all.1

  above : (a b : ℕ) (xs : List X) → a < b → AllByRecursion (λ y. b ≤ n y) xs → AllByRecursion (λ y. a < n y) xs
  above a b [] lt all = tt
  above a b (x ∷ xs) lt all = (omega (arith, all.0), above a b xs lt all.1)

  -- the first of one list is not below the first of the other
  not_below : (x y : X) (xs ys : List X) → Rises n (y ∷ ys) → filter (tied x) (x ∷ xs) ≡ filter (tied x) (y ∷ ys) → n x < n y → ⊥
  not_below x y xs ys rises same lt =
      let some = filter_yes (tied x) x xs (tied_yes x x refl) in
      let none = filter_none x (y ∷ ys) (lt, above (n x) (n y) ys lt rises.0) in
      let no : x ∷ filter (tied x) xs ≡ [] = sym some ∙ same ∙ none in absurd cc

  pub one_sorted : (xs ys : List X) → Rises n xs → Rises n ys → ((z : X) → filter (tied z) xs ≡ filter (tied z) ys) → xs ≡ ys
  one_sorted [] [] rx ry same = refl
  one_sorted [] (y ∷ ys) rx ry same =
      let no : [] ≡ y ∷ filter (tied y) ys = same y ∙ filter_yes (tied y) y ys (tied_yes y y refl) in absurd cc
  one_sorted (x ∷ xs) [] rx ry same =
      let no : x ∷ filter (tied x) xs ≡ [] = sym (filter_yes (tied x) x xs (tied_yes x x refl)) ∙ same x in absurd cc
  one_sorted (x ∷ xs) (y ∷ ys) rx ry same =
      elim (cases_lt (n x) (n y)) [
        | inl lt ↦ absurd (not_below x y xs ys ry (same x) lt)
        | inr le ↦ elim (cases_lt (n y) (n x)) [
          | inl lt ↦ absurd (not_below y x ys xs rx (sym (same y)) lt)
          | inr ge ↦ by (one_sorted xs ys rx.1 ry.1) (omega (arith, le, ge))
        ]
      ]
    where
      by : (((z : X) → filter (tied z) xs ≡ filter (tied z) ys) → xs ≡ ys) → n x ≡ n y → x ∷ xs ≡ y ∷ ys
      by more e =
          let heads : x ∷ filter (tied x) xs ≡ y ∷ filter (tied x) ys =
          sym (filter_yes (tied x) x xs (tied_yes x x refl)) ∙ same x ∙ filter_yes (tied x) y ys (tied_yes x y e) in
          let first : x ≡ y = cc in
          let rest : xs ≡ ys = more (λ z. tails z (cases_eq (n z) (n x))) in cc
        where
          tails : (z : X) → (n z ≡ n x) ⊎ (n z ≡ n x → ⊥) → filter (tied z) xs ≡ filter (tied z) ys
          tails z (inl f) =
              let both : x ∷ filter (tied z) xs ≡ y ∷ filter (tied z) ys =
              sym (filter_yes (tied z) x xs (tied_yes z x f)) ∙ same z ∙ filter_yes (tied z) y ys (tied_yes z y (f ∙ e)) in cc
          tails z (inr f) =
              sym (filter_no (tied z) x xs (tied_no z x f)) ∙ same z ∙ filter_no (tied z) y ys (tied_no z y (λ g. f (g ∙ sym e)))

-- sorting comes to the same before and after a map
pub sorted_map : {X Y : Type 0} (n : Y → ℕ) (f : X → Y) (xs : List X) → map f (sorted_by (λ x. n (f x)) xs) ≡ sorted_by n (map f xs)
sorted_map n f [] = refl
sorted_map {X} {Y} n f (x ∷ xs) = put_map (sorted_by (λ z. n (f z)) xs) ∙ ap (put_by n (f x)) (sorted_map n f xs)
  where
    put_map : (zs : List X) → map f (put_by (λ z. n (f z)) x zs) ≡ put_by n (f x) (map f zs)
    put_map [] = refl
    put_map (z ∷ zs) = elim (nat_le (n (f x)) (n (f z))) as (λ b. map f (if b then x ∷ z ∷ zs else z ∷ put_by (λ w. n (f w)) x zs) ≡ (if b then f x ∷ f z ∷ map f zs else f z ∷ put_by n (f x) (map f zs))) [
      | true ↦ refl
      | false ↦ ap (λ ws. f z ∷ ws) (put_map zs)
    ]
