-- A `new` that begins no construction may stand where a rule takes it: some text goes on with one.
use Rattle.std.proofs.Common.{◌≡◌, ◌≢◌, ℕ, suc, ◌<◌, ◌≤◌, Bool, true, false, if◌then◌else◌, List, [], ◌∷◌, ◌++◌, length, codes, inl, inr, refl, sym, ap, ◌∙◌, subst, append_assoc, append-nil, arith, length-append}
use Rattle.std.specs.Prelude.{◌⊎◌}
use Rattle.std.proofs.lemmas.Bool.{cases_Bool}
use Rattle.std.proofs.lemmas.Slice.Eq.{bytes_eq-Decides}
use Rattle.js_lexer.specs.declared.token.Token.{Token}
use Rattle.js_lexer.specs.declared.token.TokenKind.{TokenKind}
use Rattle.js_lexer.specs.declared.token.TokenKind.TheVariants as tokens
use Rattle.parser_rules.specs.declared.class.Class.TheVariants as classes
use Rattle.parser_rules.specs.declared.form.Why.{Why}
use Rattle.parser_rules.specs.Classes.{class_of, begins_construction, is_word_token, constructors}
use Rattle.parser_rules.specs.Work.{State, going, stuck}
use Rattle.parser_rules.specs.Rules.{Rule}
use Rattle.parser_rules.specs.Grammar.{within, reading, at_start}
use Rattle.first_bad.specs.Viable.{Reads}
use Rattle.first_bad.specs.FirstBad.{IsOtherNew, GoesOnWithNew}
use Rattle.first_bad.proofs.Front.{rest_of, run_front, within_front, same_tail}
use Rattle.first_bad.proofs.Words.{is_new, class_of_new, new_or_foreign}
use Rattle.first_bad.proofs.Marks.{Mark, edge, tokens_of}
use Rattle.first_bad.proofs.Sunk.{class_turned}
use Rattle.first_bad.proofs.Completed.{Whole, before_completed}
use Rattle.first_bad.proofs.FirmRules.{firm}
use Rattle.first_bad.proofs.Refusals.{same_stop, is_other}

-- ---- which token is one

is_word : (kind : TokenKind) → kind ≡ tokens.Word → is_word_token kind ≡ true
is_word kind e = ap (λ (k : TokenKind). is_word_token k) e

pub other_is_new : (t : Token) (v : List Token) → IsOtherNew t v → is_new t ≡ true
other_is_new t v o = rw (is_word t.kind o.0, (bytes_eq-Decides (codes "new") t.text).1 (sym o.1)) refl

no_new_is_foreign : classes.New ≢ classes.Foreign
no_new_is_foreign e = absurd (let none : ⊥ = cc in none)

-- a token is one, or it isn't
pub is_other_new : (t : Token) (v : List Token) → (IsOtherNew t v) ⊎ (¬ (IsOtherNew t v))
is_other_new t v = elim (cases_Bool (is_new t)) [
  | inr n ↦ inr (λ o. let never : true ≡ false = sym (other_is_new t v o) ∙ n in absurd (let none : ⊥ = cc in none))
  | inl n ↦ elim (new_or_foreign t v n) [
    | inl c ↦ inr (λ o. no_new_is_foreign (sym c ∙ o.2))
    | inr c ↦ inl (is_other t v c n)
  ]
]

-- ---- in front of the end, and of marks

no_marks_begin : (ms : List Mark) → begins_construction (tokens_of ms []) ≡ false
unfolding constructors
no_marks_begin [] = refl
no_marks_begin (m ∷ []) = refl
no_marks_begin (m ∷ n ∷ ms) = of m
  where
    of : (m : Mark) → begins_construction (tokens_of (m ∷ n ∷ ms) []) ≡ false
    of edge = refl
    of _ = refl

-- behind a `new`, tokens of marks begin no construction
pub other_at_marks : (t : Token) (v : List Token) (ms : List Mark) → IsOtherNew t v → IsOtherNew t (tokens_of ms [])
other_at_marks t v ms o = (o.0, o.1, class_of_new t (tokens_of ms []) (other_is_new t v o) ∙ ap (λ (b : Bool). if b then classes.New else classes.Foreign) (no_marks_begin ms))

-- ---- where reading stands in front of other tokens

-- a token of x followed by t is the last one, which is t, or one before it
pub data Place (a : List Token) (t : Token) (p v : List Token) (q : Token) : Type 0 where
  at_it : p ≡ a → q ≡ t → v ≡ [] → Place a t p v q
  before_it : (c : List Token) → v ≡ c ++ t ∷ [] → a ≡ p ++ q ∷ c → Place a t p v q

no_more : (p v : List Token) (q r : Token) → [] ≡ p ++ q ∷ v → ⊥
no_more [] v q r e = cc
no_more (x ∷ p) v q r e = cc

same_head : (q r : Token) (x y : List Token) → q ∷ x ≡ r ∷ y → q ≡ r
same_head q r x y e = cc

place_of : (a : List Token) (t : Token) (p v : List Token) (q : Token) → a ++ t ∷ [] ≡ p ++ q ∷ v → Place a t p v q
place_of [] t [] v q e = at_it refl (sym (same_head t q [] v e)) (sym (same_tail t q [] v e))
place_of [] t (x ∷ p) v q e = absurd (no_more p v q t (same_tail t x [] (p ++ q ∷ v) e))
place_of (r ∷ a) t [] v q e =
    let h : r ≡ q = same_head r q (a ++ t ∷ []) v e in
    before_it a (sym (same_tail r q (a ++ t ∷ []) v e)) (ap (λ (x : Token). x ∷ a) h)
place_of (r ∷ a) t (x ∷ p) v q e =
    let h : r ≡ x = same_head r x (a ++ t ∷ []) (p ++ q ∷ v) e in
    deeper h (place_of a t p v q (same_tail r x (a ++ t ∷ []) (p ++ q ∷ v) e))
  where
    deeper : r ≡ x → Place a t p v q → Place (r ∷ a) t (x ∷ p) v q
    deeper h (at_it i j k) = at_it (cc_front h i) j k
      where
        cc_front : r ≡ x → p ≡ a → x ∷ p ≡ r ∷ a
        cc_front h i = cc
    deeper h (before_it c i j) = before_it c i (front h j)
      where
        front : r ≡ x → a ≡ p ++ q ∷ c → r ∷ a ≡ x ∷ (p ++ q ∷ c)
        front h j = cc

module _ (whole : Rule) (steady : firm whole ≡ true) (ends : Whole whole) (levels : ℕ) (a : List Token) (t : Token) (v us : List Token) (why : Why) (o : IsOtherNew t v)
    (e : reading levels whole (a ++ t ∷ v) ≡ stuck why us) (less : length us < suc (length v)) where
  -- it can't have stood before
  never_before : (p x y : List Token) (q : Token) (other : Why) → a ++ t ∷ v ≡ p ++ q ∷ y → length v ≤ length y → reading levels whole (p ++ q ∷ x) ≡ stuck other (q ∷ x) → class_of (q ∷ x) ≡ class_of (q ∷ y) → ⊥
  never_before p x y q other same long s c =
      let there : reading levels whole (p ++ q ∷ y) ≡ stuck other (q ∷ y) = same_stop whole steady levels p q x other s y c in
      let both : stuck why us ≡ stuck other (q ∷ y) = sym e ∙ ap (λ (ts : List Token). reading levels whole ts) same ∙ there in
      omega (arith, less, long, ap (λ (s : State). length (rest_of s)) both)

  stood_before : (p x : List Token) (q : Token) (other : Why) → Place a t p x q → reading levels whole (p ++ q ∷ x) ≡ stuck other (q ∷ x) → ⊥
  stood_before p x q other (at_it i j k) s =
      never_before p x v q other (same_there i j) (omega arith) s (ap (λ (ts : List Token). class_of (q ∷ ts)) k ∙ ap (λ (u : Token). class_of (u ∷ [])) j ∙ (other_at_marks t v [] o).2 ∙ sym o.2 ∙ ap (λ (u : Token). class_of (u ∷ v)) (sym j))
    where
      same_there : p ≡ a → q ≡ t → a ++ t ∷ v ≡ p ++ q ∷ v
      same_there i j = cc
  stood_before p x q other (before_it c i j) s =
      never_before p x (c ++ t ∷ v) q other (ap (λ (ts : List Token). ts ++ t ∷ v) j ∙ append_assoc p (q ∷ c) (t ∷ v)) (omega (arith, length-append c (t ∷ v))) s
      (ap (λ (ts : List Token). class_of (q ∷ ts)) i ∙ class_turned q c t [] v (other_is_new t v o))

  by : (s : State) → reading levels whole (a ++ t ∷ []) ≡ s → GoesOnWithNew whole a t
  by (going w) k = ([], other_at_marks t v [] o, (levels, w, k))
  by (stuck other []) k =
      let c = before_completed whole ends levels (a ++ t ∷ []) [] other (ap (λ (ts : List Token). reading levels whole ts) (append-nil (a ++ t ∷ [])) ∙ k) in
      (tokens_of c.marks [], other_at_marks t v c.marks o, moved c.marks c.reads)
    where
      moved : (ms : List Mark) → Reads whole ((a ++ t ∷ []) ++ tokens_of ms []) → Reads whole (a ++ t ∷ tokens_of ms [])
      moved ms r = subst (λ (ts : List Token). Reads whole ts) (append_assoc a (t ∷ []) (tokens_of ms [])) r
  by (stuck other (q ∷ x)) k =
      let (p, split') = (run_front (within levels) (within_front levels) whole).ends (at_start (a ++ t ∷ [])) in
      let split : a ++ t ∷ [] ≡ p ++ q ∷ x = split' ∙ ap (λ (s : State). p ++ rest_of s) k in
      absurd (stood_before p x q other (place_of a t p x q split) (ap (λ (ts : List Token). reading levels whole ts) (sym split) ∙ k))

  -- reading went past the token: some text goes on with it
  pub past_new : GoesOnWithNew whole a t
  past_new = by (reading levels whole (a ++ t ∷ [])) refl
