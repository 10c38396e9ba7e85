-- Where only the levels of the first tokens count, the grammar by cases and the table are one grammar too.
use Rattle.std.proofs.Common.{◌≡◌, ◌↔◌, ℕ, zero, suc, ◌≤◌, nat_le, List, [], ◌∷◌, ◌++◌, length, inl, inr, refl, ap}
use Rattle.std.proofs.lemmas.Bool.{cases_Bool, leb-true, le-leb}
use Rattle.js_syntax.specs.Tree.{Trees}
use Rattle.js_syntax.specs.declared.kind.Kind.TheVariants as kinds
use Rattle.js_lexer.specs.declared.token.Token.{Token}
use Rattle.parser_rules.specs.declared.class.Class.TheVariants as classes
use Rattle.parser_rules.specs.declared.form.Form.{Form}
use Rattle.parser_rules.specs.declared.form.Form.TheVariants as forms
use Rattle.parser_rules.specs.Work.{Part, Work, State, going, fresh}
use Rattle.parser_rules.specs.Rules.{Rule, run, act, inside, ◌▸◌, many, sees_other, after, close}
use Rattle.parser_rules.specs.Statements.{script}
use Rattle.parser_rules.specs.Literals.{literal_text, arguments_text, argument, text_end}
use Rattle.parser_rules.specs.Grammar.{within, at_start}
use Rattle.first_bad.specs.Viable as bare
use Rattle.first_bad.specs.Viable.{up_to, beyond_up_to, reading_up_to}
use Rattle.first_bad.proofs.UpTo.{up_to_still, up_to_takes}
use Rattle.js_grammar.specs.Spots.{Spot, spot, Reading, other_than, Many}
use Rattle.js_grammar.specs.Literals.{LiteralText, ArgumentsText}
use Rattle.js_grammar.specs.Derives.{Reads, Text, whole_tree, ScriptBy, derives_script, LiteralBy, derives_literal, ArgumentsBy, derives_arguments}
use Rattle.js_grammar.specs.FirstBad.{ReadsUpTo, BeginsWithin}
use Rattle.js_grammar.proofs.Same.{spot_of, gives, a_part, each, Read, read, stands, Same}
use Rattle.js_grammar.proofs.Loops.{many_same}
use Rattle.js_grammar.proofs.Tests.{asks_other}
use Rattle.js_grammar.proofs.Covers.{Unclosed}
use Rattle.js_grammar.proofs.WholeExpressions.{expression_unclosed, reads_unclosed}
use Rattle.js_grammar.proofs.Texts.{levels_same}
use Rattle.js_grammar.proofs.Forms.{Parts, forms_same}
use Rattle.js_grammar.proofs.Grammar.{parts}

-- ---- forms

unclosed : (n more last : ℕ) → Unclosed (ReadsUpTo n more last)
unfolding ReadsUpTo
unclosed zero more last p x q r = reads_unclosed more p x q r.1
unclosed (suc n) more last p x q r = expression_unclosed (ReadsUpTo n more last) p x q r

module _ (more last : ℕ) where
  all_levels : (form : Form) → Same a_part (within more form) (Reads more form)
  all_levels form = levels_same (forms_same parts) more form

  -- a form where no level is left
  beyond_same : (form : Form) → Same a_part (beyond_up_to more last form) (ReadsUpTo zero more last form)
  unfolding ReadsUpTo
  beyond_same form = record { complete = goes; sound = is }
    where
      goes : (w : Work) (x : Part) (q : Spot) → (length w.rest ≤ last) × Reads more form (spot_of w) x q → beyond_up_to more last form (going w) ≡ going (gives a_part w x q)
      goes w x q (l, r) = rw (le-leb (length w.rest) last l) ((all_levels form).complete w x q r)

      also : (w : Work) (s : State) → length w.rest ≤ last → Read (gives a_part w) (Reads more form (spot_of w)) s → Read (gives a_part w) (ReadsUpTo zero more last form (spot_of w)) s
      also w s l (read {x = x} {q = q} r) = read {x = x} {q = q} (l, r)
      also w s l stands = stands

      is : (w : Work) → Read (gives a_part w) (ReadsUpTo zero more last form (spot_of w)) (beyond_up_to more last form (going w))
      is w = elim (cases_Bool (nat_le (length w.rest) last)) [
        | inl k ↦ rw k (also w (within more form (going w)) (leb-true (length w.rest) last k) ((all_levels form).sound w))
        | inr k ↦ rw k stands
      ]

  up_to_same : (n : ℕ) (form : Form) → Same a_part (up_to n more last form) (ReadsUpTo n more last form)
  unfolding up_to ReadsUpTo
  up_to_same zero form = beyond_same form
  up_to_same (suc n) form = forms_same parts (up_to n more last) (up_to_takes more last n) (up_to_still more last n) (ReadsUpTo n more last) (up_to_same n) (unclosed n more last) form

  parts_at : (n : ℕ) → Parts (up_to n more last) (ReadsUpTo n more last)
  parts_at n = parts (up_to n more last) (up_to_takes more last n) (up_to_still more last n) (ReadsUpTo n more last) (up_to_same n) (unclosed n more last)

-- ---- whole texts

-- a rule for what stands in a text, where the text is one node; what it reads, and what is derived so
module _ (first : Rule) (T : (Form → Reading Part) → Reading (List Part)) (TextBy : Text)
    (same : (more last n : ℕ) → Same (each a_part) (run (up_to n more last) first) (T (ReadsUpTo n more last)))
    (derive : (R : Form → Reading Part) (ts : List Token) (xs : List Part) (end : Spot) → T R (spot ts 0) xs end → TextBy R ts (whole_tree xs end))
    (derived : (R : Form → Reading Part) (ts : List Token) (t : Trees) → TextBy R ts t → (xs : List Part) × (end : Spot) × T R (spot ts 0) xs end) where
  abbrev whole : Rule
  whole = first ▸ act close

  abbrev start : List Token → Work
  start ts = record { rest = ts; made = 0; top = fresh kinds.Script 0; below = fresh kinds.Absent 0 ∷ [] }

  read_then : (levels : ℕ) (before : List Token) → bare.BeginsWithin whole levels before → BeginsWithin TextBy levels before
  unfolding after
  read_then levels before (more, behind, w, e) =
      of (run (up_to levels more (length behind)) first (at_start (before ++ behind))) e ((same more (length behind) levels).sound (start (before ++ behind)))
    where
      of : (s : State) → after close s ≡ going w → Read (gives (each a_part) (start (before ++ behind))) (T (ReadsUpTo levels more (length behind)) (spot (before ++ behind) 0)) s → BeginsWithin TextBy levels before
      of s k (read {x = xs} {q = end} r) = (more, behind, whole_tree xs end, derive (ReadsUpTo levels more (length behind)) (before ++ behind) xs end r)
      of s k stands = absurd (let none : ⊥ = cc in none)

  tree_then : (levels : ℕ) (before : List Token) → BeginsWithin TextBy levels before → bare.BeginsWithin whole levels before
  unfolding after
  tree_then levels before (more, behind, t, d) =
      let (xs, end, r) = derived (ReadsUpTo levels more (length behind)) (before ++ behind) t d in
      (more, behind, _, ap (λ (s : State). after close s) ((same more (length behind) levels).complete (start (before ++ behind)) xs end r))

  pub same_within : (levels : ℕ) (before : List Token) → bare.BeginsWithin whole levels before ↔ BeginsWithin TextBy levels before
  same_within levels before = (read_then levels before, tree_then levels before)

-- ---- scripts, literals, arguments

-- what is said of a rule and the texts that it reads
abbrev pub SameWithin : Rule → Text → Type 0
SameWithin whole TextBy = (levels : ℕ) (before : List Token) → bare.BeginsWithin whole levels before ↔ BeginsWithin TextBy levels before

abbrev items : Rule
items = many (sees_other (classes.End ∷ [])) (inside forms.Item)

abbrev arguments : Rule
arguments = many (sees_other (classes.End ∷ [])) argument

items_same : (more last n : ℕ) → Same (each a_part) (run (up_to n more last) items) (Many (other_than (classes.End ∷ [])) (ReadsUpTo n more last forms.Item))
items_same more last n =
    many_same (up_to n more last) (up_to_takes more last n) (up_to_still more last n) (sees_other (classes.End ∷ [])) (other_than (classes.End ∷ [])) (asks_other (classes.End ∷ [])) (inside forms.Item) refl a_part (ReadsUpTo n more last forms.Item)
    (up_to_same more last n forms.Item)

script_derived : (R : Form → Reading Part) (ts : List Token) (t : Trees) → ScriptBy R ts t → (xs : List Part) × (end : Spot) × Many (other_than (classes.End ∷ [])) (R forms.Item) (spot ts 0) xs end
script_derived R ts _ (derives_script {xs = xs} {end = end} m) = (xs, end, m)

pub scripts_within : SameWithin script ScriptBy
unfolding script
scripts_within = same_within items (λ R. Many (other_than (classes.End ∷ [])) (R forms.Item)) ScriptBy items_same (λ R ts xs end m. derives_script m) script_derived

literal_derived : (R : Form → Reading Part) (ts : List Token) (t : Trees) → LiteralBy R ts t → (xs : List Part) × (end : Spot) × LiteralText R (spot ts 0) xs end
literal_derived R ts _ (derives_literal {xs = xs} {end = end} m) = (xs, end, m)

pub literals_within : SameWithin literal_text LiteralBy
unfolding literal_text
literals_within = same_within (inside forms.Literal ▸ text_end) LiteralText LiteralBy (λ more last n. (parts_at more last n).literal_text_same) (λ R ts xs end m. derives_literal m) literal_derived

arguments_derived : (R : Form → Reading Part) (ts : List Token) (t : Trees) → ArgumentsBy R ts t → (xs : List Part) × (end : Spot) × ArgumentsText R (spot ts 0) xs end
arguments_derived R ts _ (derives_arguments {xs = xs} {end = end} m) = (xs, end, m)

pub arguments_within : SameWithin arguments_text ArgumentsBy
unfolding arguments_text
arguments_within = same_within arguments ArgumentsText ArgumentsBy (λ more last n. (parts_at more last n).arguments_text_same) (λ R ts xs end m. derives_arguments m) arguments_derived
