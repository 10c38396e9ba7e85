-- The count of scopes ends no walk outwards in a closed store.
use Rattle.std.proofs.Common.{◌≡◌, ℕ, zero, suc, ◌<◌, ◌∙◌, List, Option, Some, None, refl, sym, ap, subst, arith}
use Rattle.std.specs.Prelude.{IfSome}
use Rattle.charged_heap.specs.Store.{Store, IsAt, IsScope, item_at}
use Rattle.charged_heap.specs.Closed.{IsClosed, IsSound, IsParentOf}
use Rattle.charged_heap.specs.declared.item.Item.{Item}
use Rattle.charged_heap.specs.declared.item.Item.TheVariants as item
use Rattle.charged_heap.specs.Bindings.{place_of}
use Rattle.js_scopes.specs.Bindings.{bindings_of, parent_of}
use Rattle.js_scopes.specs.Lookup.{here_or_outwards, binding_within, binding_of, WalksOutwards}
use Rattle.js_scopes.specs.declared.lookup.BindingPlace.{BindingPlace}

parent_sound : (s : Store) (n : ℕ) (one : Item) → IsSound s n one → IfSome (parent_of one) (IsParentOf s n)
parent_sound s n (item.Scope parent bindings functions) sound = sound.0
parent_sound s n _ sound = tt

-- a scope's parent has a lower number and is a scope
pub parent_is : (s : Store) (n p : ℕ) → IsClosed s → IsAt IsScope s n → parent_of (item_at s n) ≡ Some p → IsParentOf s n p
parent_is s n p closed at is =
    subst (λ parent. IfSome parent (IsParentOf s n)) is (parent_sound s n (item_at s n) (closed.sound n at.there))

-- two walks that go on alike from the parent find the same
same_outwards : (n : ℕ) (here parent : Option ℕ) (f g : ℕ → Option BindingPlace)
    → ((p : ℕ) → parent ≡ Some p → f p ≡ g p) → here_or_outwards n here parent f ≡ here_or_outwards n here parent g
same_outwards n (Some place) parent f g same = refl
same_outwards n None (Some p) f g same = same p refl
same_outwards n None None f g same = refl

-- two counts above the scope's number find the same
enough : (s : Store) (name : List ℕ) → IsClosed s → (a b n : ℕ) → n < a → n < b → IsAt IsScope s n
    → binding_within a s name n ≡ binding_within b s name n
enough s name closed zero b n in_a in_b at = absurd (omega (arith, in_a))
enough s name closed (suc a) zero n in_a in_b at = absurd (omega (arith, in_b))
enough s name closed (suc a) (suc b) n in_a in_b at =
    same_outwards n (place_of (bindings_of (item_at s n)) name) (parent_of (item_at s n)) (binding_within a s name) (binding_within b s name)
    (λ p is. let parent : IsParentOf s n p = parent_is s n p closed at is in
    enough s name closed a b p (omega (arith, parent.below, in_a)) (omega (arith, parent.below, in_b)) parent.scope)

pub walks_outwards : (s : Store) (name : List ℕ) → IsClosed s → WalksOutwards s name
unfolding binding_of
walks_outwards s name closed = record { from_each = λ n at. each n at }
  where
    each : (n : ℕ) → IsAt IsScope s n → binding_of s name n
        ≡ here_or_outwards n (place_of (bindings_of (item_at s n)) name) (parent_of (item_at s n)) (binding_of s name)
    each n at =
        same_outwards n (place_of (bindings_of (item_at s n)) name) (parent_of (item_at s n)) (binding_within n s name) (binding_of s name)
        (λ p is. let parent : IsParentOf s n p = parent_is s n p closed at is in
        enough s name closed n (suc p) p parent.below (omega arith) parent.scope)

-- ---- the code's walk

-- what is found from there outwards, if there is a scope
abbrev pub outwards_from : Store → List ℕ → Option ℕ → Option BindingPlace
outwards_from s name (Some n) = binding_of s name n
outwards_from s name None = None

-- how many numbers are left to go down
abbrev pub numbers_left : Option ℕ → ℕ
numbers_left (Some n) = suc n
numbers_left None = zero

goes_out : (s : Store) (name : List ℕ) (n : ℕ) (parent : Option ℕ)
    → here_or_outwards n None parent (binding_of s name) ≡ outwards_from s name parent
goes_out s name n (Some p) = refl
goes_out s name n None = refl

-- the name isn't bound there: the walk goes on from the parent
pub step_out : (s : Store) (name : List ℕ) (n : ℕ) → IsClosed s → IsAt IsScope s n → place_of (bindings_of (item_at s n)) name ≡ None
    → outwards_from s name (parent_of (item_at s n)) ≡ binding_of s name n
step_out s name n closed at none =
    sym ((walks_outwards s name closed).from_each n at
    ∙ ap (λ here. here_or_outwards n here (parent_of (item_at s n)) (binding_of s name)) none
    ∙ goes_out s name n (parent_of (item_at s n)))

scope_of : (s : Store) (n : ℕ) (parent : Option ℕ) → IfSome parent (IsParentOf s n) → IfSome parent (IsAt IsScope s)
scope_of s n (Some p) sound = sound.scope
scope_of s n None sound = tt

pub parent_there : (s : Store) (n : ℕ) → IsClosed s → IsAt IsScope s n → IfSome (parent_of (item_at s n)) (IsAt IsScope s)
parent_there s n closed at =
    scope_of s n (parent_of (item_at s n)) (parent_sound s n (item_at s n) (closed.sound n at.there))
