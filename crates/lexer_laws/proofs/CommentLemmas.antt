-- A block comment ends at the first `*/`.
use Rattle.std.proofs.Common.{◌≡◌, ◌≢◌, ℕ, ◌≤◌, [], ◌∷◌, ◌++◌, length, take, drop, get_or, cond, Bool, true, false, ◌||◌, refl, sym, ap, subst, ◌∙◌, arith}
use Rattle.std.specs.Prelude.{Option, None, Some, nat_eq}
use Rattle.std.specs.List.{list_any}
use Rattle.std.proofs.lemmas.List.{take_at, drop_at, length-append}
use Rattle.std.proofs.lemmas.Bool.{eqb-true, eqb-false}
use Rattle.js_lexer.specs.Letters.{Text, is_line}
use Rattle.js_lexer.specs.Gaps.{past, past_star}
use Rattle.lexer_laws.specs.Comments.{ClosesAt, EndsAt, CommentEnds}

-- what `past_star` found in t, where l says whether a line terminator came before
abbrev Found : Bool → Text → Option (Bool × Text) → Type 0
Found l t None = (body rest : Text) → ClosesAt t body rest → ⊥
Found l t (Some (m, u)) = (body : Text) × EndsAt t body u × ((l || list_any is_line body) ≡ m)

-- ---- one character

past_some : (d : ℕ) (t u : Text) → past d t ≡ Some u → t ≡ d ∷ u
past_some d [] u e = absurd (is_none e)
  where
    is_none : past d [] ≡ Some u → ⊥
    is_none e = cc
past_some d (x ∷ t) u e = by_test (nat_eq x d) refl
  where
    by_test : (b : Bool) → nat_eq x d ≡ b → (x ∷ t) ≡ (d ∷ u)
    by_test true f = let same : Some t ≡ Some u = subst (λ b. (cond b (Some t) None) ≡ Some u) f e in
        let tails : t ≡ u = cc in
        λ i. eqb-true x d f i ∷ tails i
    by_test false f = let same : None ≡ Some u = subst (λ b. (cond b (Some t) None) ≡ Some u) f e in absurd cc

closes_here : (l : Bool) (c : ℕ) (t u : Text) → nat_eq c 42 ≡ true → past 47 t ≡ Some u → past_star l (c ∷ t) ≡ Some (l, u)
closes_here l c t u e f = rw (e, f) refl

goes_on : (l : Bool) (c : ℕ) (t : Text) → nat_eq c 42 ≡ false → past_star l (c ∷ t) ≡ past_star (l || is_line c) t
goes_on l c t e = rw e refl

star_goes_on : (l : Bool) (c : ℕ) (t : Text) → nat_eq c 42 ≡ true → past 47 t ≡ None → past_star l (c ∷ t) ≡ past_star (l || is_line c) t
star_goes_on l c t e f = rw (e, f) refl

-- a character that doesn't begin a `*/` stands before what the rest of the text has
longer : (l : Bool) (c : ℕ) (t : Text) → ((rest : Text) → (c ∷ t) ≢ (42 ∷ 47 ∷ rest))
    → (o : Option (Bool × Text)) → Found (l || is_line c) t o → Found l (c ∷ t) o
longer l c t elsewhere None none = no_end
  where
    no_end : (body rest : Text) → ClosesAt (c ∷ t) body rest → ⊥
    no_end [] rest e = elsewhere rest e
    no_end (b ∷ body) rest e = none body rest (ap (drop 1) e)
longer l c t elsewhere (Some (m, u)) (body, ends, line) = (
  c ∷ body,
  record {
    closes = ap (λ s. c ∷ s) ends.closes;
    first = before_any;
  },
  or_assoc l (is_line c) (list_any is_line body) ∙ line,
)
  where
    before_any : (other more : Text) → ClosesAt (c ∷ t) other more → length (c ∷ body) ≤ length other
    before_any [] more e = absurd (elsewhere more e)
    before_any (x ∷ other) more e = let shorter = ends.first other more (ap (drop 1) e) in omega arith

    or_assoc : (x y z : Bool) → (x || (y || z)) ≡ ((x || y) || z)
    or_assoc true y z = refl
    or_assoc false y z = refl

found : (l : Bool) (t : Text) → Found l t (past_star l t)
found l [] = λ body rest e. absurd (omega (arith, ap length e, length-append body (42 ∷ 47 ∷ rest)))
found l (c ∷ t) = by_tests (found (l || is_line c) t) (nat_eq c 42) refl (past 47 t) refl
  where
    or_false : (x : Bool) → (x || false) ≡ x
    or_false true = refl
    or_false false = refl

    by_tests : Found (l || is_line c) t (past_star (l || is_line c) t) → (b : Bool) → nat_eq c 42 ≡ b
        → (o : Option Text) → past 47 t ≡ o → Found l (c ∷ t) (past_star l (c ∷ t))
    by_tests further true e (Some u) f = subst (Found l (c ∷ t)) (sym (closes_here l c t u e f)) (
      [],
      record {
        closes = λ i. eqb-true c 42 e i ∷ past_some 47 t u f i;
        first = λ other more k. omega arith;
      },
      or_false l,
    )
    by_tests further true e None f = subst (Found l (c ∷ t)) (sym (star_goes_on l c t e f))
        (longer l c t (λ rest k. let slash : t ≡ 47 ∷ rest = ap (drop 1) k in
        let same : Some rest ≡ None = ap (past 47) (sym slash) ∙ f in absurd cc)
        (past_star (l || is_line c) t) further)
    by_tests further false e o f = subst (Found l (c ∷ t)) (sym (goes_on l c t e))
        (longer l c t (λ rest k. eqb-false c 42 e (ap (λ s. get_or s 0 0) k)) (past_star (l || is_line c) t) further)

-- ---- the whole text

-- there is one first end
same_end : (text body rest : Text) → EndsAt text body rest → (o : Option (Bool × Text)) → Found false text o
    → o ≡ Some (list_any is_line body, rest)
same_end text body rest ends None none = absurd (none body rest ends.closes)
same_end text body rest ends (Some (m, u)) (other, others, line) =
    let long : length other ≡ length body =
    let p = ends.first other u others.closes in let q = others.first body rest ends.closes in omega arith in
    let same : other ++ (42 ∷ 47 ∷ u) ≡ body ++ (42 ∷ 47 ∷ rest) = sym others.closes ∙ ends.closes in
    let bodies : other ≡ body = sym (take_at other (42 ∷ 47 ∷ u) (length body) long)
    ∙ ap (take (length body)) same ∙ take_at body (42 ∷ 47 ∷ rest) (length body) refl in
    let tails : (42 ∷ 47 ∷ u) ≡ (42 ∷ 47 ∷ rest) = sym (drop_at other (42 ∷ 47 ∷ u) (length body) long)
    ∙ ap (drop (length body)) same ∙ drop_at body (42 ∷ 47 ∷ rest) (length body) refl in
    let lines : m ≡ list_any is_line body = sym line ∙ ap (list_any is_line) bodies in
    λ i. Some (lines i, ap (drop 2) tails i)

no_end : (text : Text) → ((body rest : Text) → ¬ (ClosesAt text body rest)) → (o : Option (Bool × Text)) → Found false text o → o ≡ None
no_end text none None found_none = refl
no_end text none (Some (m, u)) (body, ends, line) = absurd (none body u ends.closes)

pub comment_ends : (text : Text) → CommentEnds text
comment_ends text = record {
  ended = λ line rest. (
    λ e. subst (Found false text) e (found false text),
    λ (body, ends, lines). same_end text body rest ends (past_star false text) (found false text) ∙ (λ i. Some (lines i, rest)),
  );
  unended = (
    λ e. subst (Found false text) e (found false text),
    λ none. no_end text none (past_star false text) (found false text),
  );
}
