-- The places of names among bindings, and the index of them.
use Rattle.std.proofs.Common.{◌≡◌, ℕ, zero, suc, ◌+◌, ◌<◌, ◌∙◌, List, [], ◌∷◌, ◌++◌, Bool, true, false, cond, Option, Some, None, Result, Ok, Err, length, take, refl, ap, sym, subst, arith, true≢false}
use Rattle.std.specs.Prelude.{if◌then◌else◌, is_some, IfSome, OnOk, OnErr, slice_index_or}
use Rattle.std.specs.List.{position_from}
use Rattle.std.specs.Map.{lookup}
use Rattle.std.specs.Cmp.Lexicographic.{same_text}
use Rattle.std.proofs.lemmas.Cmp.{nat_list_eq_equiv}
use Rattle.std.proofs.lemmas.List.{take_more, length-take-le}
use Rattle.std.proofs.lemmas.Iterator.Adapters.{position_from-zero}
use Rattle.indexmap.proofs.MapLemmas.{absent_from_lookup, insert_entry-absent}
use Rattle.ivm_text.specs.Keys.{is_key, value_at, with_value}
use Rattle.charged_heap.specs.declared.values.Binding.{Binding}
use Rattle.charged_heap.specs.declared.values.Value.{Value}
use Rattle.charged_heap.specs.Store.{with_bound}
use Rattle.charged_heap.specs.Bindings.{place_of}
use Rattle.charged_heap.specs.Index.{with_first, IsIndex}

-- ---- what is found first, once there is one more behind the others

-- what was found, or else the last, if that passes
abbrev or_last : {X : Type 0} → Option X → Bool → X → Option X
or_last (Some found) passes last = Some found
or_last None passes last = cond passes (Some last) None

position_from-push : {X : Type 0} (p : X → Bool) (i n : ℕ) (xs : List X) (last : X) → n ≡ i + length xs
    → position_from p i (xs ++ last ∷ []) ≡ or_last (position_from p i xs) (p last) n
position_from-push p i n [] last e =
    let same : i ≡ n = omega (arith, e) in ap (λ k. cond (p last) (Some k) None) same
position_from-push p i n (x ∷ xs) last e =
    elim (p x) as (λ b. cond b (Some i) (position_from p (i + 1) (xs ++ last ∷ [])) ≡ or_last (cond b (Some i) (position_from p (i + 1) xs)) (p last) n) [
      | true ↦ refl
      | false ↦ position_from-push p (i + 1) n xs last (omega (arith, e))
    ]

place_of-from : (bindings : List Binding) (name : List ℕ) → place_of bindings name ≡ position_from (λ b. is_key b.name name) 0 bindings
place_of-from bindings name = position_from-zero (λ b. is_key b.name name) bindings

place_of-push : (bindings : List Binding) (last : Binding) (name : List ℕ)
    → place_of (bindings ++ last ∷ []) name ≡ or_last (place_of bindings name) (is_key last.name name) (length bindings)
place_of-push bindings last name =
    place_of-from (bindings ++ last ∷ []) name
    ∙ position_from-push (λ b. is_key b.name name) 0 (length bindings) bindings last (omega arith)
    ∙ ap (λ found. or_last found (is_key last.name name) (length bindings)) (sym (place_of-from bindings name))

lookup-push : {K X : Type 0} (test : K → Bool) (es : List (K × X)) (k : K) (x : X)
    → lookup test (es ++ (k, x) ∷ []) ≡ or_last (lookup test es) (test k) x
lookup-push test [] k x = refl
lookup-push test (e ∷ es) k x =
    elim (test e.0) as (λ b. cond b (Some e.1) (lookup test (es ++ (k, x) ∷ [])) ≡ or_last (cond b (Some e.1) (lookup test es)) (test k) x) [
      | true ↦ refl
      | false ↦ lookup-push test es k x
    ]

-- ---- one more binding

none_of : {X : Type 0} (found : Option X) → is_some found ≡ false → found ≡ None
none_of None none = refl
none_of (Some x) none = absurd (true≢false none)

-- a name that is new there gets the place behind the others
pub indexed_new : (places : List (List ℕ × ℕ)) (bindings : List Binding) (b : Binding) → IsIndex places bindings
    → is_some (value_at places b.name) ≡ false → IsIndex (with_value places b.name (length bindings)) (bindings ++ b ∷ [])
indexed_new places bindings b index new = record {
  finds = λ name.
      ap (λ more. value_at more name) (insert_entry-absent is_key b.name (length bindings) places (absent_from_lookup (is_key b.name) places (none_of _ new)))
      ∙ lookup-push (is_key name) places b.name (length bindings)
      ∙ ap (λ found. or_last found (is_key name b.name) (length bindings)) (index.finds name)
      ∙ ap (λ passes. or_last (place_of bindings name) passes (length bindings)) (nat_list_eq_equiv.symm name b.name)
      ∙ sym (place_of-push bindings b name);
}

-- one that is there keeps its place
pub indexed_again : (places : List (List ℕ × ℕ)) (bindings : List Binding) (b : Binding) → IsIndex places bindings
    → is_some (value_at places b.name) ≡ true → IsIndex places (bindings ++ b ∷ [])
indexed_again places bindings b index there = record {
  finds = λ name.
      index.finds name
      ∙ sym (stays name (place_of bindings name) refl (is_key b.name name) refl)
      ∙ sym (place_of-push bindings b name);
}
  where
    -- a name that has no place isn't this one
    stays : (name : List ℕ) (found : Option ℕ) → place_of bindings name ≡ found → (same : Bool) → is_key b.name name ≡ same
        → or_last (place_of bindings name) (is_key b.name name) (length bindings) ≡ place_of bindings name
    stays name (Some place) is same e = ap (λ f. or_last f (is_key b.name name) (length bindings)) is ∙ sym is
    stays name None is false e = ap (λ s. or_last (place_of bindings name) s (length bindings)) e ∙ ap (λ f. or_last f false (length bindings)) is ∙ sym is
    stays name None is true e =
        let equal : b.name ≡ name = same_text b.name name (sym e) in
        absurd (true≢false (sym there ∙ ap is_some (index.finds b.name) ∙ ap (λ n. is_some (place_of bindings n)) equal ∙ ap is_some is))

-- of a name that is there, whether or not its binding was added
pub index_kept : {E : Type 0} (places : List (List ℕ × ℕ)) (old new : List Binding) (b : Binding) (result : Result (Unit {0}) E) → IsIndex places old
    → is_some (value_at places b.name) ≡ true → OnOk result (new ≡ old ++ b ∷ []) → OnErr result (new ≡ old) → IsIndex places new
index_kept places old new b (Ok done) index there ok err = subst (IsIndex places) (sym ok) (indexed_again places old b index there)
index_kept places old new b (Err fault) index there ok err = subst (IsIndex places) (sym err) index

-- what holds of a success, of one that came
pub on_ok : {A E : Type 0} {P : Type 0} {result : Result A E} {value : A} → result ≡ Ok value → OnOk result P → P
on_ok {A} {E} {P} {result} {value} is holds = subst (λ r. OnOk r P) is holds

pub index_more : (places more : List (List ℕ × ℕ)) (old new : List Binding) (b : Binding) → IsIndex places old
    → is_some (value_at places b.name) ≡ false → more ≡ with_value places b.name (length old) → new ≡ old ++ b ∷ [] → IsIndex more new
index_more places more old new b index there put pushed =
    subst (IsIndex more) (sym pushed) (subst (λ m. IsIndex m (old ++ b ∷ [])) (sym put) (indexed_new places old b index there))

pub indexed : (places : List (List ℕ × ℕ)) (bindings : List Binding) (b : Binding) → IsIndex places bindings
    → IsIndex (with_first places b.name (length bindings)) (bindings ++ b ∷ [])
indexed places bindings b index = by (is_some (value_at places b.name)) refl
  where
    by : (there : Bool) → is_some (value_at places b.name) ≡ there → IsIndex (if there then places else with_value places b.name (length bindings)) (bindings ++ b ∷ [])
    by true e = indexed_again places bindings b index e
    by false e = indexed_new places bindings b index e

-- the next binding of a list
pub indexed_next : (places new : List (List ℕ × ℕ)) (bindings : List Binding) (i : ℕ) (b : Binding)
    → i < length bindings → b ≡ slice_index_or bindings i b → new ≡ with_first places b.name i
    → IsIndex places (take i bindings) → IsIndex new (take (i + 1) bindings)
indexed_next places new bindings i b within is noted index =
    let many : length (take i bindings) ≡ i = length-take-le i bindings (omega (arith, within)) in
    let more : take (i + 1) bindings ≡ take i bindings ++ b ∷ [] = take_more bindings i b within ∙ ap (λ one. take i bindings ++ one ∷ []) (sym is) in
    subst (IsIndex new) (sym more)
    (subst (λ m. IsIndex m (take i bindings ++ b ∷ [])) (sym (noted ∙ ap (with_first places b.name) (sym many)))
    (indexed places (take i bindings) b index))

-- ---- a value for a binding

position_from-bound : (name : List ℕ) (i : ℕ) (bindings : List Binding) (place : ℕ) (v : Value)
    → position_from (λ b. is_key b.name name) i (with_bound bindings place v) ≡ position_from (λ b. is_key b.name name) i bindings
position_from-bound name i [] place v = refl
position_from-bound name i (b ∷ bindings) zero v = refl
position_from-bound name i (b ∷ bindings) (suc place) v =
    ap (λ later. cond (is_key b.name name) (Some i) later) (position_from-bound name (i + 1) bindings place v)

-- it leaves each name where it was
pub indexed_bound : (places : List (List ℕ × ℕ)) (bindings : List Binding) (place : ℕ) (v : Value)
    → IsIndex places bindings → IsIndex places (with_bound bindings place v)
indexed_bound places bindings place v index = record {
  finds = λ name.
      index.finds name
      ∙ place_of-from bindings name
      ∙ sym (position_from-bound name 0 bindings place v)
      ∙ sym (place_of-from (with_bound bindings place v) name);
}

pub maybe_indexed_bound : {M : Type 0} (places_of : M → List (List ℕ × ℕ)) (index : Option M) (bindings new : List Binding) (place : ℕ) (v : Value)
    → new ≡ with_bound bindings place v → IfSome index (λ m. IsIndex (places_of m) bindings) → IfSome index (λ m. IsIndex (places_of m) new)
maybe_indexed_bound places_of None bindings new place v is index = tt
maybe_indexed_bound places_of (Some m) bindings new place v is index =
    subst (IsIndex (places_of m)) (sym is) (indexed_bound (places_of m) bindings place v index)
