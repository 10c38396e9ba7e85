-- One step of `push`, and `pop` of an array.
use Rattle.std.proofs.Common.{◌≡◌, ℕ, ◌+◌, ◌-◌, ◌<◌, List, [], ◌∷◌, ◌++◌, Option, Some, None, Ok, length, drop, take, get_or, refl, sym, ap, ◌∙◌, arith, add-one, length-append}
use Rattle.std.specs.Prelude.{slice_get, MatchOption}
use Rattle.std.specs.Option.{unwrap_or}
use Rattle.std.proofs.Math.Seq.{drop-cons, take-append_seam, get_or-append_seam}
use Rattle.std.proofs.lemmas.Option.{slice_get-get_or}
use Rattle.charged_heap.specs.Store.{Store, item_at, elements, with_item, with_elements}
use Rattle.charged_heap.specs.Closed.{IsClosed, IsSoundValue}
use Rattle.charged_heap.specs.Growth.{Grows}
use Rattle.charged_heap.specs.Room.{Fits}
use Rattle.charged_heap.specs.declared.price.TheConstants.{ELEMENT_CELLS}
use Rattle.charged_heap.specs.declared.values.Value.{Value}
use Rattle.charged_heap.specs.declared.values.Value.TheVariants.{Undefined}
use Rattle.charged_heap.proofs.ClosedLaws.{value_grows, elements_sound}
use Rattle.js_members.specs.Writes.{appended}
use Rattle.js_members.specs.Arrays.{pushed, popped, popped_as}
use Rattle.js_members.proofs.Sound.{all_at}

-- ---- push

pushed_one : (s : Store) (n : ℕ) (v : Value) (rest : List Value) → Fits s ELEMENT_CELLS → pushed n (v ∷ rest) s ≡ pushed n rest (appended s n v)
pushed_one s n v rest fits = grind arith

-- the values from a place on are the one there and the rest
drop_at : (values : List Value) (i : ℕ) (d : Value) → i < length values → drop i values ≡ get_or values i d ∷ drop (i + 1) values
drop_at values i d within = rw (add-one, drop-cons values i d within) refl

pub pushed_step : (s t : Store) (n i : ℕ) (values : List Value) (d : Value) → i < length values → Fits s ELEMENT_CELLS
    → t ≡ appended s n (get_or values i d) → pushed n (drop (i + 1) values) t ≡ pushed n (drop i values) s
pushed_step s t n i values d within fits after =
    ap (λ u. pushed n (drop (i + 1) values) u) after
    ∙ sym (pushed_one s n (get_or values i d) (drop (i + 1) values) fits)
    ∙ ap (λ all. pushed n all s) (sym (drop_at values i d within))

-- ---- pop

end_place : (front : List Value) (v : Value) → length (front ++ v ∷ []) - 1 ≡ length front
end_place front v = omega (arith, length-append front (v ∷ []))

end_value : (front : List Value) (v : Value) → slice_get (front ++ v ∷ []) (length front) ≡ Some v
end_value front v =
    slice_get-get_or (front ++ v ∷ []) (length front) v (omega (arith, length-append front (v ∷ [])))
    ∙ ap Some (get_or-append_seam front v [] v)

popped_end : (s : Store) (n : ℕ) (front : List Value) (v : Value)
    → popped n (front ++ v ∷ []) s ≡ (Ok v, with_item s n (with_elements (item_at s n) front))
popped_end s n front v =
    ap (λ last. popped_as n (front ++ v ∷ []) last s)
    (ap (slice_get (front ++ v ∷ [])) (end_place front v) ∙ end_value front v)
    ∙ ap (λ rest. (Ok v, with_item s n (with_elements (item_at s n) rest)))
    (ap (λ k. take k (front ++ v ∷ [])) (end_place front v) ∙ take-append_seam front (v ∷ []))

pub popped_is : (s t : Store) (n : ℕ) (last : Option Value)
    → MatchOption last ((elements (item_at s n) ≡ []) × (t ≡ s)) (λ v. elements (item_at s n) ≡ elements (item_at t n) ++ v ∷ [])
    → t ≡ with_item s n (with_elements (item_at s n) (elements (item_at t n)))
    → popped n (elements (item_at s n)) s ≡ (Ok (unwrap_or last Undefined), t)
popped_is s t n None was rest = ap (λ values. popped n values s) was.0 ∙ ap (λ after. (Ok Undefined, after)) (sym was.1)
popped_is s t n (Some v) was rest =
    ap (λ values. popped n values s) was ∙ popped_end s n (elements (item_at t n)) v ∙ ap (λ after. (Ok v, after)) (sym rest)

pub popped_sound : (s t : Store) (n : ℕ) (last : Option Value)
    → MatchOption last ((elements (item_at s n) ≡ []) × (t ≡ s)) (λ v. elements (item_at s n) ≡ elements (item_at t n) ++ v ∷ [])
    → n < length s.items → Grows s t → IsClosed s → IsSoundValue t (unwrap_or last Undefined)
popped_sound s t n None was within grows closed = tt
popped_sound s t n (Some v) was within grows closed =
    value_grows s t v grows
    (all_at (IsSoundValue s) (elements (item_at s n)) (length (elements (item_at t n))) v
    (elements_sound s n (item_at s n) (closed.sound n within))
    (ap (λ values. slice_get values (length (elements (item_at t n)))) was ∙ end_value (elements (item_at t n)) v))
