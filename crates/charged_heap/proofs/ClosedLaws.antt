-- Closed stores stay closed where what is put into them is sound.
use Rattle.std.proofs.Common.{◌≡◌, ◌⊎◌, ℕ, zero, suc, Bool, true, false, ◌+◌, ◌-◌, ◌<◌, ◌≤◌, ◌∙◌, List, [], ◌∷◌, ◌++◌, Option, Some, None, length, refl, ap, sym, subst, arith, inl, inr, length-append, if◌then◌else◌}
use Rattle.std.specs.Prelude.{slice_index_or, IfSome, MatchOption, is_some}
use Rattle.std.specs.List.{All}
use Rattle.std.proofs.lemmas.Bool.{cases_eq, cases_lt}
use Rattle.std.proofs.lemmas.List.Elements.{All-append, All-set}
use Rattle.std.proofs.lemmas.List.{get_or_append_left, get_or-append-add, get_or-set_same, get_or-set_other, length-set}
use Rattle.charged_heap.specs.declared.item.Item.{Item}
use Rattle.charged_heap.specs.declared.item.Item.TheVariants.{Text, Plain, Array, Error, Scope, Closure, Promise, Settler, Reference, Row, Script}
use Rattle.charged_heap.specs.declared.values.Value.{Value}
use Rattle.charged_heap.specs.declared.values.Value.TheVariants as value
use Rattle.charged_heap.specs.declared.values.Binding.{Binding}
use Rattle.charged_heap.specs.declared.values.PromiseState.{PromiseState}
use Rattle.charged_heap.specs.declared.values.PromiseState.TheVariants as state
use Rattle.charged_heap.specs.declared.values.Reaction.{Reaction}
use Rattle.ivm_text.specs.Keys.{is_key, with_value}
use Rattle.charged_heap.specs.Store.{Store, IsAt, IsPromise, item_at, kind_of, elements, with_all, with_more, with_item, with_property, with_elements, with_place, with_value_of, with_bound, with_binding, with_function, with_reaction, with_state, released}
use Rattle.charged_heap.specs.Growth.{Grows}
use Rattle.charged_heap.specs.Closed.{IsClosed, IsSound, IsSoundValue, IsSoundBinding, IsSoundState, IsSoundReaction, IsParentOf, AreSound}
use Rattle.charged_heap.proofs.GrowthLaws.{at_grows, grows_all, grows_item, kind-with_property, kind-with_elements, kind-with_place, kind-with_binding, kind-with_function, kind-with_reaction, kind-with_state, kind-released}

-- ---- what is sound stays so in a store that has grown

pub value_grows : (s t : Store) (v : Value) → Grows s t → IsSoundValue s v → IsSoundValue t v
value_grows s t (value.Item n) grows sound = at_grows s t n grows sound
value_grows s t _ grows sound = tt

binding_grows : (s t : Store) (v : Option Value) → Grows s t → IfSome v (IsSoundValue s) → IfSome v (IsSoundValue t)
binding_grows s t None grows sound = tt
binding_grows s t (Some v) grows sound = value_grows s t v grows sound

state_grows : (s t : Store) (promised : PromiseState) → Grows s t → IsSoundState s promised → IsSoundState t promised
state_grows s t (state.Fulfilled v) grows sound = value_grows s t v grows sound
state_grows s t (state.Rejected v) grows sound = value_grows s t v grows sound
state_grows s t _ grows sound = tt

next_grows : (s t : Store) (next : Option ℕ) → Grows s t → IfSome next (IsAt IsPromise s) → IfSome next (IsAt IsPromise t)
next_grows s t None grows sound = tt
next_grows s t (Some n) grows sound = at_grows s t n grows sound

reaction_grows : (s t : Store) (r : Reaction) → Grows s t → IsSoundReaction s r → IsSoundReaction t r
reaction_grows s t r grows sound = record {
  good = value_grows s t r.good grows sound.good;
  bad = value_grows s t r.bad grows sound.bad;
  next = next_grows s t r.next grows sound.next;
}

parent_grows : (s t : Store) (n : ℕ) (parent : Option ℕ) → Grows s t → IfSome parent (IsParentOf s n) → IfSome parent (IsParentOf t n)
parent_grows s t n None grows sound = tt
parent_grows s t n (Some p) grows sound = record { below = sound.below; scope = at_grows s t p grows sound.scope }

pub sound_grows : (s t : Store) (n : ℕ) (item : Item) → Grows s t → IsSound s n item → IsSound t n item
sound_grows s t n (Text units) grows sound = tt
sound_grows s t n (Plain props) grows sound = λ k d within. value_grows s t (slice_index_or props k d).1 grows (sound k d within)
sound_grows s t n (Array values) grows sound = λ k d within. value_grows s t (slice_index_or values k d) grows (sound k d within)
sound_grows s t n (Error sort message) grows sound = at_grows s t message grows sound
sound_grows s t n (Scope parent bindings functions) grows sound = (
  parent_grows s t n parent grows sound.0,
  λ k d within. binding_grows s t (slice_index_or bindings k d).value grows (sound.1 k d within),
)
sound_grows s t n (Closure script node scope global receiver) grows sound = record {
  in_scope = at_grows s t scope grows sound.in_scope;
  of_global = at_grows s t global grows sound.of_global;
  with_receiver = value_grows s t receiver grows sound.with_receiver;
}
sound_grows s t n (Promise promised reactions) grows sound = (
  state_grows s t promised grows sound.0,
  λ k d within. reaction_grows s t (slice_index_or reactions k d) grows (sound.1 k d within),
)
sound_grows s t n (Settler promise good) grows sound = at_grows s t promise grows sound
sound_grows s t n (Row v) grows sound = value_grows s t v grows sound
sound_grows s t n _ grows sound = tt

-- ---- changes of a store

pub closed_same : (s t : Store) → t ≡ s → IsClosed s → IsClosed t
closed_same s t e closed = subst IsClosed (sym e) closed

pub closed_all : (s t : Store) (more : List Item) → t ≡ with_all s more → IsClosed s → AreSound s more → IsClosed t
closed_all s t more e closed sound = subst IsClosed (sym e) (record { sound = λ n within. by n within (cases_lt n (length s.items)) })
  where
    by : (n : ℕ) → n < length (s.items ++ more) → (n < length s.items) ⊎ (length s.items ≤ n) → IsSound (with_all s more) n (item_at (with_all s more) n)
    by n within (inl below) =
        subst (λ item. IsSound (with_all s more) n item) (sym (get_or_append_left s.items more (Script 0) n below))
        (sound_grows s (with_all s more) n (item_at s n) (grows_all s (with_all s more) more refl) (closed.sound n below))
    by n within (inr above) =
        let k : ℕ = n - length s.items in
        let at : length s.items + k ≡ n = omega arith in
        let inside : k < length more = omega (arith, length-append s.items more, within) in
        subst (λ m. IsSound (with_all s more) m (item_at (with_all s more) m)) at
        (subst (λ item. IsSound (with_all s more) (length s.items + k) item) (sym (get_or-append-add s.items more k (Script 0))) (sound.sound k inside))

pub closed_more : (s t : Store) (item : Item) → t ≡ with_more s item → IsClosed s → IsSound s (length s.items) item → IsClosed t
closed_more s t item e closed sound = closed_all s t (item ∷ []) e closed (record { sound = λ k within. by k within })
  where
    by : (k : ℕ) → k < 1 → IsSound (with_all s (item ∷ [])) (length s.items + k) (slice_index_or (item ∷ []) k (Script 0))
    by zero within =
        let at : length s.items ≡ length s.items + 0 = omega arith in
        subst (λ m. IsSound (with_all s (item ∷ [])) m item) at
        (sound_grows s (with_all s (item ∷ [])) (length s.items) item (grows_all s (with_all s (item ∷ [])) (item ∷ []) refl) sound)
    by (suc k) within = absurd (omega (arith, within))

pub closed_item : (s t : Store) (n : ℕ) (item : Item) → t ≡ with_item s n item → kind_of item ≡ kind_of (item_at s n)
    → IsClosed s → IsSound s n item → IsClosed t
closed_item s t n item e same closed sound = subst IsClosed (sym e) (record { sound = λ k within. by k (omega (arith, length-set s.items n item, within)) (cases_eq k n) })
  where
    grows : Grows s (with_item s n item)
    grows = grows_item s (with_item s n item) n item refl same

    by : (k : ℕ) → k < length s.items → (k ≡ n) ⊎ (k ≡ n → ⊥) → IsSound (with_item s n item) k (item_at (with_item s n item) k)
    by k within (inl here) =
        subst (λ j. IsSound (with_item s n item) j (item_at (with_item s n item) j)) (sym here)
        (subst (λ i. IsSound (with_item s n item) n i) (sym (get_or-set_same s.items n item (Script 0) (subst (λ j. j < length s.items) here within)))
        (sound_grows s (with_item s n item) n item grows sound))
    by k within (inr there) =
        subst (λ i. IsSound (with_item s n item) k i) (sym (get_or-set_other s.items n k item (Script 0) there))
        (sound_grows s (with_item s n item) k (item_at s k) grows (closed.sound k within))

-- ---- changes of an item

all_cons : {X : Type 0} (P : X → Type 0) (x : X) (xs : List X) → P x → All P xs → All P (x ∷ xs)
all_cons {X} P x xs one rest = λ k d within. by k d within
  where
    by : (k : ℕ) (d : X) → k < length (x ∷ xs) → P (slice_index_or (x ∷ xs) k d)
    by zero d within = one
    by (suc k) d within = rest k d (omega (arith, within))

all_head : {X : Type 0} (P : X → Type 0) (x : X) (xs : List X) → All P (x ∷ xs) → P x
all_head P x xs all = all 0 x (omega arith)

all_tail : {X : Type 0} (P : X → Type 0) (x : X) (xs : List X) → All P (x ∷ xs) → All P xs
all_tail P x xs all = λ k d within. all (suc k) d (omega (arith, within))

sound_value : (s : Store) (props : List (List ℕ × Value)) (key : List ℕ) (v : Value)
    → All (λ p. IsSoundValue s p.1) props → IsSoundValue s v → All (λ p. IsSoundValue s p.1) (with_value props key v)
sound_value s [] key v sound one = all_cons (λ p. IsSoundValue s p.1) (key, v) [] one sound
sound_value s (p ∷ props) key v sound one =
    elim (is_key key p.0) as (λ b. All (λ q. IsSoundValue s q.1) (if b then (p.0, v) ∷ props else p ∷ with_value props key v)) [
      | true ↦ all_cons (λ q. IsSoundValue s q.1) (p.0, v) props one (all_tail (λ q. IsSoundValue s q.1) p props sound)
      | false ↦
          all_cons (λ q. IsSoundValue s q.1) p (with_value props key v) (all_head (λ q. IsSoundValue s q.1) p props sound)
          (sound_value s props key v (all_tail (λ q. IsSoundValue s q.1) p props sound) one)
    ]

sound_bound : (s : Store) (bindings : List Binding) (place : ℕ) (v : Value)
    → All (IsSoundBinding s) bindings → IsSoundValue s v → All (IsSoundBinding s) (with_bound bindings place v)
sound_bound s [] place v sound one = sound
sound_bound s (b ∷ bindings) zero v sound one =
    all_cons (IsSoundBinding s) (with_value_of b v) bindings one (all_tail (IsSoundBinding s) b bindings sound)
sound_bound s (b ∷ bindings) (suc place) v sound one =
    all_cons (IsSoundBinding s) b (with_bound bindings place v) (all_head (IsSoundBinding s) b bindings sound)
    (sound_bound s bindings place v (all_tail (IsSoundBinding s) b bindings sound) one)

pub sound_property : (s : Store) (n : ℕ) (item : Item) (key : List ℕ) (v : Value)
    → IsSound s n item → IsSoundValue s v → IsSound s n (with_property item key v)
sound_property s n (Plain props) key v sound one = sound_value s props key v sound one
sound_property s n _ key v sound one = sound

pub sound_elements : (s : Store) (n : ℕ) (item : Item) (values : List Value)
    → IsSound s n item → All (IsSoundValue s) values → IsSound s n (with_elements item values)
sound_elements s n (Array was) values sound all = all
sound_elements s n _ values sound all = sound

pub elements_sound : (s : Store) (n : ℕ) (item : Item) → IsSound s n item → All (IsSoundValue s) (elements item)
elements_sound s n (Array values) sound = sound
elements_sound s n _ sound = λ k d within. absurd (omega (arith, within))

pub sound_pushed : (s : Store) (n : ℕ) (item : Item) (v : Value)
    → IsSound s n item → IsSoundValue s v → IsSound s n (with_elements item (elements item ++ v ∷ []))
sound_pushed s n item v sound one =
    sound_elements s n item (elements item ++ v ∷ []) sound
    (All-append (IsSoundValue s) (elements item) (v ∷ []) (elements_sound s n item sound)
    (all_cons (IsSoundValue s) v [] one (λ k d within. absurd (omega (arith, within)))))

pub sound_place : (s : Store) (n : ℕ) (item : Item) (place : ℕ) (v : Value)
    → IsSound s n item → IsSoundValue s v → IsSound s n (with_place item place v)
sound_place s n (Array values) place v sound one = All-set (IsSoundValue s) values place v one sound
sound_place s n (Scope parent bindings functions) place v sound one = (sound.0, sound_bound s bindings place v sound.1 one)
sound_place s n _ place v sound one = sound

pub sound_declared : (s : Store) (n : ℕ) (item : Item) (name : List ℕ) (constant : Bool)
    → IsSound s n item → IsSound s n (with_binding item (record { name = name; constant = constant; value = None }))
sound_declared s n (Scope parent bindings functions) name constant sound = (
  sound.0,
  All-append (IsSoundBinding s) bindings (record { name = name; constant = constant; value = None } ∷ []) sound.1
      (all_cons (IsSoundBinding s) (record { name = name; constant = constant; value = None }) [] tt (λ k d within. absurd (omega (arith, within)))),
)
sound_declared s n _ name constant sound = sound

pub sound_function : (s : Store) (n : ℕ) (item : Item) (name : List ℕ) → IsSound s n item → IsSound s n (with_function item name)
sound_function s n (Scope parent bindings functions) name sound = sound
sound_function s n _ name sound = sound

pub sound_reaction : (s : Store) (n : ℕ) (item : Item) (r : Reaction)
    → IsSound s n item → IsSoundReaction s r → IsSound s n (with_reaction item r)
sound_reaction s n (Promise promised reactions) r sound one = (
  sound.0,
  All-append (IsSoundReaction s) reactions (r ∷ []) sound.1
      (all_cons (IsSoundReaction s) r [] one (λ k d within. absurd (omega (arith, within)))),
)
sound_reaction s n _ r sound one = sound

pub sound_state : (s : Store) (n : ℕ) (item : Item) (promised : PromiseState)
    → IsSound s n item → IsSoundState s promised → IsSound s n (with_state item promised)
sound_state s n (Promise was reactions) promised sound one = (one, sound.1)
sound_state s n _ promised sound one = sound

pub sound_released : (s : Store) (n : ℕ) (item : Item) → IsSound s n item → IsSound s n (released item)
sound_released s n (Reference to was) sound = tt
sound_released s n _ sound = sound

-- ---- each change of a heap

pub closed_property : (s t : Store) (n : ℕ) (key : List ℕ) (v : Value) → t ≡ with_item s n (with_property (item_at s n) key v)
    → n < length s.items → IsClosed s → IsSoundValue s v → IsClosed t
closed_property s t n key v e within closed one =
    closed_item s t n _ e (kind-with_property (item_at s n) key v) closed (sound_property s n (item_at s n) key v (closed.sound n within) one)

pub closed_pushed : (s t : Store) (n : ℕ) (v : Value) → t ≡ with_item s n (with_elements (item_at s n) (elements (item_at s n) ++ v ∷ []))
    → n < length s.items → IsClosed s → IsSoundValue s v → IsClosed t
closed_pushed s t n v e within closed one =
    closed_item s t n _ e (kind-with_elements (item_at s n) _) closed (sound_pushed s n (item_at s n) v (closed.sound n within) one)

pub closed_place : (s t : Store) (n place : ℕ) (v : Value) → t ≡ with_item s n (with_place (item_at s n) place v)
    → n < length s.items → IsClosed s → IsSoundValue s v → IsClosed t
closed_place s t n place v e within closed one =
    closed_item s t n _ e (kind-with_place (item_at s n) place v) closed (sound_place s n (item_at s n) place v (closed.sound n within) one)

pub closed_declared : (s t : Store) (n : ℕ) (name : List ℕ) (constant : Bool)
    → t ≡ with_item s n (with_binding (item_at s n) (record { name = name; constant = constant; value = None }))
    → n < length s.items → IsClosed s → IsClosed t
closed_declared s t n name constant e within closed =
    closed_item s t n _ e (kind-with_binding (item_at s n) _) closed (sound_declared s n (item_at s n) name constant (closed.sound n within))

pub closed_function : (s t : Store) (n : ℕ) (name : List ℕ) → t ≡ with_item s n (with_function (item_at s n) name)
    → n < length s.items → IsClosed s → IsClosed t
closed_function s t n name e within closed =
    closed_item s t n _ e (kind-with_function (item_at s n) name) closed (sound_function s n (item_at s n) name (closed.sound n within))

pub closed_reaction : (s t : Store) (n : ℕ) (r : Reaction) → t ≡ with_item s n (with_reaction (item_at s n) r)
    → n < length s.items → IsClosed s → IsSoundReaction s r → IsClosed t
closed_reaction s t n r e within closed one =
    closed_item s t n _ e (kind-with_reaction (item_at s n) r) closed (sound_reaction s n (item_at s n) r (closed.sound n within) one)

pub closed_state : (s t : Store) (n : ℕ) (promised : PromiseState) → t ≡ with_item s n (with_state (item_at s n) promised)
    → n < length s.items → IsClosed s → IsSoundState s promised → IsClosed t
closed_state s t n promised e within closed one =
    closed_item s t n _ e (kind-with_state (item_at s n) promised) closed (sound_state s n (item_at s n) promised (closed.sound n within) one)

pub closed_released : (s t : Store) (n : ℕ) → t ≡ with_item s n (released (item_at s n)) → n < length s.items → IsClosed s → IsClosed t
closed_released s t n e within closed =
    closed_item s t n _ e (kind-released (item_at s n)) closed (sound_released s n (item_at s n) (closed.sound n within))

-- an array without its last element
pub closed_popped : (s t : Store) (n : ℕ) (values : List Value) (last : Value) → t ≡ with_item s n (with_elements (item_at s n) values)
    → elements (item_at s n) ≡ values ++ last ∷ [] → n < length s.items → IsClosed s → IsClosed t
closed_popped s t n values last e was within closed =
    closed_item s t n _ e (kind-with_elements (item_at s n) values) closed
    (sound_elements s n (item_at s n) values (closed.sound n within) (λ k d inside.
    let whole = elements_sound s n (item_at s n) (closed.sound n within) k d in
    let more : k < length (elements (item_at s n)) = omega (arith, ap length was, length-append values (last ∷ []), inside) in
    subst (IsSoundValue s) (ap (λ all. slice_index_or all k d) was ∙ get_or_append_left values (last ∷ []) d k inside) (whole more)))

pub closed_popped_some : (s t : Store) (n : ℕ) (values : List Value) (last : Option Value) → t ≡ with_item s n (with_elements (item_at s n) values)
    → MatchOption last (elements (item_at s n) ≡ []) (λ l. elements (item_at s n) ≡ values ++ l ∷ [])
    → is_some last ≡ true → n < length s.items → IsClosed s → IsClosed t
closed_popped_some s t n values None e was some within closed = absurd cc
closed_popped_some s t n values (Some l) e was some within closed = closed_popped s t n values l e was within closed

-- a store without items
pub closed_empty : (s : Store) → s.items ≡ [] → IsClosed s
closed_empty s none = record { sound = λ n within. absurd (omega (arith, ap length none, within)) }
