-- At every number of levels the forms are read by cases, and so are whole texts.
use Rattle.std.proofs.Common.{◌≡◌, ◌↔◌, ℕ, zero, suc, ◌+◌, ◌≤◌, ◌++◌, List, [], ◌∷◌, inl, inr, refl, sym, ap, ◌∙◌, subst, arith}
use Rattle.std.specs.Prelude.{◌⊎◌}
use Rattle.ivm_text.specs.declared.refusal.Refusal.{Refusal}
use Rattle.js_syntax.specs.declared.kind.Kind.TheVariants as kinds
use Rattle.js_syntax.specs.Tree.{Trees}
use Rattle.js_lexer.specs.declared.token.Token.{Token}
use Rattle.parser_rules.specs.declared.form.Form.{Form}
use Rattle.parser_rules.specs.Work.{Part, Work, State, going, stuck, fresh}
use Rattle.parser_rules.specs.Rules.{Rule, run, act, ◌▸◌, after, close}
use Rattle.parser_rules.specs.Grammar.{within, at_start, rule_of, answer_of, Answer, accepted, rejected, refusal_at, reading, tree_of_parts}
use Rattle.parser_rules.proofs.Laws.{Inside, Still}
use Rattle.parser_rules.proofs.Takes.{within_takes, within_still}
use Rattle.js_grammar.specs.Spots.{Spot, spot, Reading}
use Rattle.js_grammar.specs.Derives.{FormOf, Reads, whole_tree}
use Rattle.js_grammar.specs.Exactly.{Derivation, answer_at, Begins, IsSameGrammar}
use Rattle.first_bad.specs.Viable.{Viable}
use Rattle.js_grammar.proofs.Same.{gives, a_part, each, Read, read, stands, Same}
use Rattle.js_grammar.proofs.Deeper.{still_accepted}
use Rattle.js_grammar.proofs.Covers.{Unclosed}
use Rattle.js_grammar.proofs.WholeExpressions.{reads_unclosed}
use Rattle.js_grammar.proofs.Nodes.{parts_given, kids_given}

-- every form is read by cases, where what stands one level further inside is
abbrev pub AllForms : Type 1
AllForms = (at : Form → State → State) → Inside at → ((form : Form) → Still (at form)) → (R : Form → Reading Part) → ((form : Form) → Same a_part (at form) (R form)) → Unclosed R →
    (form : Form) → Same a_part (run at (rule_of form)) (FormOf R form)

-- ---- levels

pub levels_same : AllForms → (n : ℕ) (form : Form) → Same a_part (within n form) (Reads n form)
unfolding within Reads
levels_same all zero form = record { complete = λ w x q none. absurd none; sound = λ w. stands }
levels_same all (suc n) form = all (within n) (within_takes n) (within_still n) (Reads n) (levels_same all n) (reads_unclosed n) form

-- ---- whole texts

same_tree : {t u : Trees} → accepted t ≡ accepted u → t ≡ u
same_tree e = cc

refused_is_not : {r : Refusal} {t : Trees} → rejected r ≡ accepted t → ⊥
refused_is_not e = cc

-- a rule for what stands in a text, where the text is one node; what it reads, and what is derived so
module _ (first : Rule) (T : ℕ → Reading (List Part)) (same : (n : ℕ) → Same (each a_part) (run (within n) first) (T n)) (Derived : Derivation)
    (derive : (n : ℕ) (ts : List Token) (xs : List Part) (end : Spot) → T n (spot ts 0) xs end → Derived n ts (whole_tree xs end))
    (derived : (n : ℕ) (ts : List Token) (t : Trees) → Derived n ts t → (xs : List Part) × (end : Spot) × T n (spot ts 0) xs end × (whole_tree xs end ≡ t)) where
  abbrev whole : Rule
  whole = first ▸ act close

  abbrev start : List Token → Work
  start ts = record { rest = ts; made = 0; top = fresh kinds.Script 0; below = fresh kinds.Absent 0 ∷ [] }

  closed_text : (n m : ℕ) (ts : List Token) (xs : List Part) (end : Spot) → answer_of m (run (within n) (act close) (going (gives (each a_part) (start ts) xs end))) ≡ accepted (whole_tree xs end)
  unfolding after
  closed_text n m ts xs end = rw (parts_given (start ts).top xs, kids_given xs) refl

  text_goes : (n m : ℕ) (ts : List Token) (xs : List Part) (end : Spot) → T n (spot ts 0) xs end → answer_at whole n m ts ≡ accepted (whole_tree xs end)
  text_goes n m ts xs end r = ap (λ (s : State). answer_of m (run (within n) (act close) s)) ((same n).complete (start ts) xs end r) ∙ closed_text n m ts xs end

  -- the answer is that of a derivation, or there is none
  abbrev Answered : ℕ → ℕ → List Token → Answer → Type 0
  Answered n m ts answer = ((xs : List Part) × (end : Spot) × T n (spot ts 0) xs end × (answer ≡ accepted (whole_tree xs end))) ⊎ ((r : Refusal) × (answer ≡ rejected r))

  text_is : (n m : ℕ) (ts : List Token) → Answered n m ts (answer_at whole n m ts)
  unfolding after
  text_is n m ts = of (run (within n) first (at_start ts)) ((same n).sound (start ts))
    where
      of : (s : State) → Read (gives (each a_part) (start ts)) (T n (spot ts 0)) s → Answered n m ts (answer_of m (run (within n) (act close) s))
      of s (read {x = xs} {q = end} r) = inl (xs, end, r, closed_text n m ts xs end)
      of s (stands {why = why} {ts = us}) = inr (refusal_at m why us, refl)

  accepted_then : (n m : ℕ) (ts : List Token) (t : Trees) (a : Answer) → Answered n m ts a → a ≡ accepted t → Derived n ts t
  accepted_then n m ts t a (inl (xs, end, r, e)) g = subst (λ (u : Trees). Derived n ts u) (same_tree (sym e ∙ g)) (derive n ts xs end r)
  accepted_then n m ts t a (inr (r, e)) g = absurd (refused_is_not (sym e ∙ g))

  derived_then : (n m : ℕ) (ts : List Token) (t : Trees) → Derived n ts t → answer_at whole n m ts ≡ accepted t
  derived_then n m ts t d = let (xs, end, r, e) = derived n ts t d in text_goes n m ts xs end r ∙ ap accepted e

  accepts : (n m : ℕ) (ts : List Token) (t : Trees) → (answer_at whole n m ts ≡ accepted t) ↔ Derived n ts t
  accepts n m ts t = (accepted_then n m ts t (answer_at whole n m ts) (text_is n m ts), derived_then n m ts t)

  none_then : (n m : ℕ) (ts : List Token) (a : Answer) → Answered n m ts a → ((t : Trees) → ¬ (Derived n ts t)) → (r : Refusal) × (a ≡ rejected r)
  none_then n m ts a (inl (xs, end, r, e)) none = absurd (none (whole_tree xs end) (derive n ts xs end r))
  none_then n m ts a (inr refused) none = refused

  refused_then : (n m : ℕ) (ts : List Token) → (r : Refusal) × (answer_at whole n m ts ≡ rejected r) → (t : Trees) → ¬ (Derived n ts t)
  refused_then n m ts refused t d = let (r, e) = refused in refused_is_not (sym e ∙ derived_then n m ts t d)

  keeps : (n o : ℕ) (ts : List Token) (t : Trees) → n ≤ o → Derived n ts t → Derived o ts t
  keeps n o ts t l d = let (forth, back) = accepts o 0 ts t in forth (still_accepted n o l whole 0 ts t (derived_then n 0 ts t d))

  at_same : (n : ℕ) (ts : List Token) (t u : Trees) → Derived n ts t → Derived n ts u → t ≡ u
  at_same n ts t u d e = same_tree (sym (derived_then n 0 ts t d) ∙ derived_then n 0 ts u e)

  read_then : (before : List Token) → Viable whole before → Begins Derived before
  read_then before b = let (more, v) = b in let (n, w, e) = v in
      let (forth, back) = accepts n 0 (before ++ more) (tree_of_parts w.top.parts) in
      (n, more, tree_of_parts w.top.parts, forth (ap (λ (s : State). answer_of 0 s) e))

  tree_then : (before : List Token) → Begins Derived before → Viable whole before
  tree_then before b = let (n, more, t, d) = b in let (w, e) = went (reading n whole (before ++ more)) t (derived_then n 0 (before ++ more) t d) in (more, (n, w, e))
    where
      went : (s : State) (t : Trees) → answer_of 0 s ≡ accepted t → (w : Work) × (s ≡ going w)
      went (going w) t e = (w, refl)
      went (stuck why us) t e = absurd (refused_is_not e)

  pub text_same : IsSameGrammar whole Derived
  text_same = record {
    accepts = accepts;
    refuses = λ n m ts. (refused_then n m ts, none_then n m ts (answer_at whole n m ts) (text_is n m ts));
    keeps = keeps;
    once = λ n o ts t u d e. at_same (n + o) ts t u (keeps n (n + o) ts t (omega arith) d) (keeps o (n + o) ts u (omega arith) e);
    begins = λ before. (read_then before, tree_then before);
  }
