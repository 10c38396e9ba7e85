-- The fault that is told of many is that of two, again and again.
use Rattle.std.proofs.Common.{◌≡◌, ℕ, Bool, true, false, ◌&&◌, ◌||◌, ltb, eqb, List, [], ◌∷◌, ◌++◌, Option, None, Some, slice_get, zero, suc, ◌<◌, ◌⊎◌, inl, inr, subst, if◌then◌else◌, refl, ap, sym, ◌∙◌, arith}
use Rattle.std.proofs.lemmas.Bool.Decides.{nat_tests}
use Rattle.js_syntax.specs.declared.fault.Fault.{Fault}
use Rattle.js_syntax.specs.Order.{number_of, IsBefore, IsLeast}
use Rattle.js_syntax.specs.Noted.{is_before, earlier_of, least}

abbrev lower_test : ℕ → ℕ → ℕ → ℕ → Bool
lower_test p m q n = ltb p q || (eqb p q && ltb m n)

lower_trans : (p m q n r k : ℕ) → lower_test p m q n ≡ true → lower_test q n r k ≡ true
    → lower_test p m r k ≡ true
lower_trans p m q n r k first second = grind (arith, nat_tests)

lower_not : (p m q n r k : ℕ) → lower_test p m q n ≡ false → lower_test q n r k ≡ false
    → lower_test p m r k ≡ false
lower_not p m q n r k first second = grind (arith, nat_tests)

pub earlier_assoc : (a b c : Option Fault)
    → earlier_of (earlier_of a b) c ≡ earlier_of a (earlier_of b c)
earlier_assoc None b c = refl
earlier_assoc (Some a) None c = refl
earlier_assoc (Some a) (Some b) None = by (is_before b a) refl
  where
    by : (p : Bool) → is_before b a ≡ p
        → earlier_of (if p then Some b else Some a) None ≡ (if p then Some b else Some a)
    by true e = refl
    by false e = refl
earlier_assoc (Some a) (Some b) (Some c) =
    by (is_before b a) (is_before c b) (is_before c a) refl refl refl
  where
    by : (p q r : Bool) → is_before b a ≡ p → is_before c b ≡ q → is_before c a ≡ r
        → earlier_of (if p then Some b else Some a) (Some c) ≡ earlier_of (Some a) (if q then Some c else Some b)
    by true true true e f g = rw (f, g) refl
    by true true false e f g =
        absurd (let h = lower_trans (c.place) (number_of (c.kind)) (b.place) (number_of (b.kind)) (a.place) (number_of (a.kind)) f e in let z : true ≡ false = sym h ∙ g in let none : ⊥ = cc in none)
    by true false r e f g = rw (f, e) refl
    by false true r e f g = refl
    by false false true e f g =
        absurd (let h = lower_not (c.place) (number_of (c.kind)) (b.place) (number_of (b.kind)) (a.place) (number_of (a.kind)) f e in let z : true ≡ false = sym g ∙ h in let none : ⊥ = cc in none)
    by false false false e f g = rw (g, e) refl

pub earlier_none : (a : Option Fault) → earlier_of a None ≡ a
earlier_none None = refl
earlier_none (Some a) = refl

pub least_append : (xs ys : List Fault) → least (xs ++ ys) ≡ earlier_of (least xs) (least ys)
least_append [] ys = refl
least_append (x ∷ xs) ys =
    ap (λ rest. earlier_of (Some x) rest) (least_append xs ys)
    ∙ sym (earlier_assoc (Some x) (least xs) (least ys))

-- ---- the least of a list

test_holds : (p m q n : ℕ) → lower_test p m q n ≡ true → (p < q) ⊎ ((p ≡ q) × (m < n))
test_holds p m q n holds = grind (arith, nat_tests)

test_true : (p m q n : ℕ) → (p < q) ⊎ ((p ≡ q) × (m < n)) → lower_test p m q n ≡ true
test_true p m q n (inl below) = grind (arith, nat_tests)
test_true p m q n (inr same) = let e = same.0 in let f = same.1 in grind (arith, nat_tests)

before_holds : (a b : Fault) → is_before a b ≡ true → IsBefore a b
before_holds a b e = test_holds (a.place) (number_of (a.kind)) (b.place) (number_of (b.kind)) e

before_true : (a b : Fault) → IsBefore a b → is_before a b ≡ true
before_true a b before =
    test_true (a.place) (number_of (a.kind)) (b.place) (number_of (b.kind)) before

not_before_itself : (a : Fault) → IsBefore a a → ⊥
not_before_itself a (inl below) = omega arith
not_before_itself a (inr same) = omega (arith, same.1)

not_both : (a b : Fault) → IsBefore a b → IsBefore b a → ⊥
not_both a b (inl below) (inl above) = omega arith
not_both a b (inl below) (inr same) = omega (arith, same.0)
not_both a b (inr same) (inl above) = omega (arith, same.0)
not_both a b (inr same) (inr other) = omega (arith, same.1, other.1)

-- what is not before a second one, which is not before a third, is not before that
not_before : (a b c : Fault) → (IsBefore a b → ⊥) → is_before b c ≡ false → IsBefore a c → ⊥
not_before a b c first second before = by (is_before a b) refl
  where
    by : (p : Bool) → is_before a b ≡ p → ⊥
    by true e = first (before_holds a b e)
    by false e =
        let last : is_before a c ≡ false =
        lower_not (a.place) (number_of (a.kind)) (b.place) (number_of (b.kind)) (c.place) (number_of (c.kind)) e second in
        let not_last : is_before a c ≡ true = before_true a c before in
        let both : true ≡ false = sym not_last ∙ last in
        let none : ⊥ = cc in none

some_stays : (x : Fault) (o : Option Fault) → earlier_of (Some x) o ≡ None → ⊥
some_stays x None e = let none : ⊥ = cc in none
some_stays x (Some y) e = by (is_before y x) e
  where
    by : (p : Bool) → (if p then Some y else Some x) ≡ None → ⊥
    by true e = let none : ⊥ = cc in none
    by false e = let none : ⊥ = cc in none

pub least_none : (faults : List Fault) → least faults ≡ None → faults ≡ []
least_none [] e = refl
least_none (x ∷ xs) e = absurd (some_stays x (least xs) e)

least_alone : (x : Fault) → IsLeast (x ∷ []) x
least_alone x = record {
  among = (0, refl);
  first = λ other one before. alone (one.0) other (one.1) before;
}
  where
    alone : (k : ℕ) (other : Fault) → slice_get (x ∷ []) k ≡ Some other → IsBefore other x → ⊥
    alone zero other at before =
        let same : other ≡ x = cc in not_before_itself x (subst (λ (f : Fault). IsBefore f x) same before)
    alone (suc zero) other at before = let none : ⊥ = cc in none
    alone (suc (suc k)) other at before = let none : ⊥ = cc in none

least_behind : (x y : Fault) (xs : List Fault) → is_before y x ≡ true → IsLeast xs y
    → IsLeast (x ∷ xs) y
least_behind x y xs e rest = record {
  among = (suc (rest.among.0), rest.among.1);
  first = λ other one before. later (one.0) other (one.1) before;
}
  where
    later : (k : ℕ) (other : Fault) → slice_get (x ∷ xs) k ≡ Some other → IsBefore other y → ⊥
    later zero other at before =
        let same : other ≡ x = cc in
        not_both x y (subst (λ (f : Fault). IsBefore f y) same before) (before_holds y x e)
    later (suc k) other at before = rest.first other (k, at) before

least_first : (x y : Fault) (xs : List Fault) → is_before y x ≡ false → IsLeast xs y
    → IsLeast (x ∷ xs) x
least_first x y xs e rest = record {
  among = (0, refl);
  first = λ other one before. later (one.0) other (one.1) before;
}
  where
    later : (k : ℕ) (other : Fault) → slice_get (x ∷ xs) k ≡ Some other → IsBefore other x → ⊥
    later zero other at before =
        let same : other ≡ x = cc in not_before_itself x (subst (λ (f : Fault). IsBefore f x) same before)
    later (suc k) other at before = not_before other y x (rest.first other (k, at)) e before

pub least_is : (faults : List Fault) (fault : Fault) → least faults ≡ Some fault
    → IsLeast faults fault
least_is [] fault e = absurd (let none : ⊥ = cc in none)
least_is (x ∷ xs) fault e = by (least xs) refl (λ y f. least_is xs y f) e
  where
    choose : (y : Fault) (p : Bool) → is_before y x ≡ p → IsLeast xs y
        → (if p then Some y else Some x) ≡ Some fault → IsLeast (x ∷ xs) fault
    choose y true g rest e =
        let same : y ≡ fault = cc in subst (λ (f : Fault). IsLeast (x ∷ xs) f) same (least_behind x y xs g rest)
    choose y false g rest e =
        let same : x ≡ fault = cc in subst (λ (f : Fault). IsLeast (x ∷ xs) f) same (least_first x y xs g rest)

    by : (o : Option Fault) → least xs ≡ o → ((y : Fault) → least xs ≡ Some y → IsLeast xs y)
        → earlier_of (Some x) o ≡ Some fault → IsLeast (x ∷ xs) fault
    by None f rest e =
        let same : x ≡ fault = cc in
        subst (λ (ys : List Fault). IsLeast (x ∷ ys) fault) (sym (least_none xs f)) (subst (λ (g : Fault). IsLeast (x ∷ []) g) same (least_alone x))
    by (Some y) f rest e = choose y (is_before y x) refl (rest y f) e
