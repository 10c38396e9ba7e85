-- In a table from the longest on, the first that stands is the longest.
use Rattle.std.proofs.Common.{◌≡◌, ℕ, ◌<◌, ◌≤◌, List, [], ◌∷◌, ◌++◌, length, Bool, true, ◌&&◌, Option, Some, None, refl, sym, ap, subst, ◌∙◌, inl, inr, arith, length-append}
use Rattle.std.specs.Prelude.{nat_eq, nat_le, nat_lt}
use Rattle.std.proofs.lemmas.Bool.{cases_Bool, and_parts, eqb-true, eq-eqb, leb-true, ltb-true}
use Rattle.js_lexer.specs.Letters.{Text}
use Rattle.js_lexer.specs.Punctuators.{punctuators, past_all, where_allowed, behind, or_else, first_of, may_stand, Among, Stands, IsLongest, NoneStands}

past_split : (p t u : Text) → past_all p t ≡ Some u → t ≡ p ++ u
past_split [] t u e = cc
past_split (p ∷ ps) [] u e = absurd cc
past_split (p ∷ ps) (c ∷ t) u e = elim (cases_Bool (nat_eq c p)) [
  | inl h ↦
      let k : past_all ps t ≡ Some u = rw h at e in
      let same : c ≡ p = eqb-true c p h in
      let more : t ≡ ps ++ u = past_split ps t u k in
      cc
  | inr h ↦ let k : None ≡ Some u = rw h at e in absurd cc
]

past_join : (p t u : Text) → t ≡ p ++ u → past_all p t ≡ Some u
past_join [] t u e = cc
past_join (p ∷ ps) [] u e = absurd cc
past_join (p ∷ ps) (c ∷ t) u e =
    let h : c ≡ p = cc in
    let k : t ≡ ps ++ u = cc in
    rw (eq-eqb c p h) (past_join ps t u k)

-- where it stands, and where not
pub behind_stands : (p t u : Text) → behind p t ≡ Some u → (t ≡ p ++ u) × (may_stand p u ≡ true)
behind_stands p t u e = on (past_all p t) refl e
  where
    on : (o : Option Text) → past_all p t ≡ o → where_allowed p o ≡ Some u → (t ≡ p ++ u) × (may_stand p u ≡ true)
    on None h g = absurd cc
    on (Some v) h g = elim (cases_Bool (may_stand p v)) [
      | inl m ↦
          let k : Some v ≡ Some u = rw m at g in
          let same : v ≡ u = cc in
          (past_split p t u (h ∙ k), subst (λ (w : Text). may_stand p w ≡ true) same m)
      | inr m ↦ let k : None ≡ Some u = rw m at g in absurd cc
    ]

pub stands_behind : (p t u : Text) → t ≡ p ++ u → may_stand p u ≡ true → behind p t ≡ Some u
stands_behind p t u e m = rw (past_join p t u e, m) refl

-- none of the table is longer than n, and none is empty
abbrev pub falling : ℕ → List Text → Bool
falling n [] = true
falling n (p ∷ ps) = nat_le (length p) n && (nat_lt 0 (length p) && falling (length p) ps)

pub no_longer : (n : ℕ) (table : List Text) (p : Text) → falling n table ≡ true → Among table p → (length p ≤ n) × (0 < length p)
no_longer n [] p f a = absurd a
no_longer n (q ∷ qs) p f (inl e) =
    let (low, more) = and_parts (nat_le (length q) n) (nat_lt 0 (length q) && falling (length q) qs) f in
    let (some, rest) = and_parts (nat_lt 0 (length q)) (falling (length q) qs) more in
    let same : length p ≡ length q = ap length e in
    let first : length q ≤ n = leb-true _ _ low in
    let second : 0 < length q = ltb-true _ _ some in
    (omega arith, omega arith)
no_longer n (q ∷ qs) p f (inr a) =
    let (low, more) = and_parts (nat_le (length q) n) (nat_lt 0 (length q) && falling (length q) qs) f in
    let (some, rest) = and_parts (nat_lt 0 (length q)) (falling (length q) qs) more in
    let first : length q ≤ n = leb-true _ _ low in
    let on : (length p ≤ length q) × (0 < length p) = no_longer (length q) qs p rest a in
    (omega (arith, on.0), on.1)

pub longest : (n : ℕ) (table : List Text) (t p u : Text) → falling n table ≡ true → first_of table t ≡ Some (p, u) → IsLongest table t p u
unfolding first_of
longest n [] t p u f e = absurd cc
longest n (q ∷ qs) t p u f e = on (λ g. longest (length q) qs t p u parts g) (behind q t) refl e
  where
    parts : falling (length q) qs ≡ true
    parts =
        let (low, more) = and_parts (nat_le (length q) n) (nat_lt 0 (length q) && falling (length q) qs) f in
        (and_parts (nat_lt 0 (length q)) (falling (length q) qs) more).1

    here : (v : Text) → behind q t ≡ Some v → (other more : Text) → Stands (q ∷ qs) t other more → length other ≤ length q
    here v h other more s = reach other s.among
      where
        reach : (o : Text) → Among (q ∷ qs) o → length o ≤ length q
        reach o (inl e) = omega (arith, ap length e)
        reach o (inr a) = (no_longer (length q) qs o parts a).0

    further : behind q t ≡ None → IsLongest qs t p u → (other more : Text) → Stands (q ∷ qs) t other more → length other ≤ length p
    further h l other more s = reach s.among
      where
        reach : Among (q ∷ qs) other → length other ≤ length p
        reach (inl e) =
            let k : behind q t ≡ Some more = subst (λ (o : Text). behind o t ≡ Some more) e (stands_behind other t more s.whole s.allowed) in
            absurd cc
        reach (inr a) = l.longest other more (record { among = a; whole = s.whole; allowed = s.allowed })

    on : (first_of qs t ≡ Some (p, u) → IsLongest qs t p u) → (b : Option Text) → behind q t ≡ b
        → or_else q b (first_of qs t) ≡ Some (p, u) → IsLongest (q ∷ qs) t p u
    on deeper None h g =
        let l : IsLongest qs t p u = deeper g in
        record { here = record { among = inr l.here.among; whole = l.here.whole; allowed = l.here.allowed }; longest = further h l }
    on deeper (Some v) h g =
        let pair : ◌≡◌ {A = Text × Text} (q, v) (p, u) = cc in
        let same : q ≡ p = ap (λ (o : Text × Text). o.0) pair in
        let rest : v ≡ u = ap (λ (o : Text × Text). o.1) pair in
        let s = behind_stands q t v h in
        record {
          here = record {
            among = inl (sym same);
            whole = s.0 ∙ ap (λ (w : Text). q ++ w) rest ∙ ap (λ (w : Text). w ++ u) same;
            allowed = subst (λ (w : Text). may_stand w u ≡ true) same (subst (λ (w : Text). may_stand q w ≡ true) rest s.1);
          };
          longest = λ other more st. subst (λ (w : Text). length other ≤ length w) same (here v h other more st);
        }

pub none_stands : (table : List Text) (t : Text) → first_of table t ≡ None → NoneStands table t
unfolding first_of
none_stands [] t e p u s = absurd s.among
none_stands (q ∷ qs) t e p u s = on (λ g a. none_stands qs t g p u (record { among = a; whole = s.whole; allowed = s.allowed })) (behind q t) refl e
  where
    reach : (first_of qs t ≡ None → Among qs p → ⊥) → behind q t ≡ None → first_of qs t ≡ None → Among (q ∷ qs) p → ⊥
    reach deeper h g (inl same) =
        let k : behind q t ≡ Some u = subst (λ (o : Text). behind o t ≡ Some u) same (stands_behind p t u s.whole s.allowed) in
        absurd cc
    reach deeper h g (inr a) = deeper g a

    on : (first_of qs t ≡ None → Among qs p → ⊥) → (b : Option Text) → behind q t ≡ b → or_else q b (first_of qs t) ≡ None → ⊥
    on deeper None h g = reach deeper h g s.among
    on deeper (Some v) h g = absurd cc

pub table_falls : falling 4 punctuators ≡ true
table_falls = refl

-- what stands behind a punctuator is shorter
pub behind_shorter : (t p u : Text) → IsLongest punctuators t p u → length u < length t
behind_shorter t p u l =
    let some = (no_longer 4 punctuators p table_falls l.here.among).1 in
    omega (arith, some, ap length l.here.whole, length-append p u)
