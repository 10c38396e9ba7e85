-- What the grammar of literals and of arguments says of their trees: no value is negative, a text of
-- a literal has one part, and a call passes something.
use Rattle.std.proofs.Common.{◌≡◌, ℕ, zero, suc, true, false, ◌||◌, Bool, List, [], ◌∷◌, map, Some, None, Ok, Err, pos, refl}
use Rattle.std.specs.Prelude.{◌&&◌, codes, if◌then◌else◌}
use Rattle.std.specs.Str.{bytes_eq}
use Rattle.js_syntax.specs.Tree.{Trees}
use Rattle.js_lexer.specs.declared.token.Token.{Token}
use Rattle.js_lexer.specs.Letters.{Text}
use Rattle.js_lexer.specs.Front as fronts
use Rattle.js_lexer.specs.Front.{Front, Seen}
use Rattle.js_lexer.specs.Tokens.{AreTokens, Reading, after, at_end, past_gap, past_token, at_fault}
use Rattle.js_lexer.specs.Tokens as lexer
use Rattle.parser_rules.specs.declared.form.Form.{Form}
use Rattle.parser_rules.specs.declared.form.Form.TheVariants as forms
use Rattle.parser_rules.specs.Classes.{is_among}
use Rattle.parser_rules.specs.Rules.{is_passing, is_word_kind, passing_words}
use Rattle.parser_rules.specs.Work.{Part}
use Rattle.js_grammar.specs.Spots.{Spot, spot, Takes, takes, Named, trees_of, number_of, Many, no_more, then_more, Followed, by_comma, by_closing}
use Rattle.js_grammar.specs.Spots as spots
use Rattle.js_grammar.specs.Literals as literals
use Rattle.js_grammar.specs.Literals.{LiteralProperty, LiteralForm, Argument}
use Rattle.js_grammar.specs.Derives.{Reads, DerivesLiteral, derives_literal, DerivesArguments, derives_arguments}
use Rattle.js_parser.specs.Parsed.{HasTree}
use Rattle.js_literals.specs.Copies.{Tree, side_by_side}
use Rattle.js_literals.specs.Told.{parts_of_text, is_call, form_named}
use Rattle.js_literals.specs.View.{IsNatural, HaveNaturals, IsFit, AreFit}
use Rattle.js_literals.specs.declared.argument.FormKind.{FormKind}
use Rattle.js_literals.specs.declared.argument.FormKind.TheVariants as kinds

-- ---- tokens

abbrev Naturals : List Token → Type 0
Naturals [] = Unit {0}
Naturals (t ∷ ts) = IsNatural t.number × Naturals ts

abbrev SeenNatural : Seen → Type 0
SeenNatural fronts.ended = Unit {0}
SeenNatural (fronts.gap l u) = Unit {0}
SeenNatural (fronts.token kind units n u) = IsNatural n
SeenNatural (fronts.fault kind at) = Unit {0}

front_natural : (t : Text) (s : Seen) → Front t s → SeenNatural s
front_natural _ _ fronts.text_end = tt
front_natural _ _ (fronts.white_space b) = tt
front_natural _ _ (fronts.line_terminator b) = tt
front_natural _ _ fronts.line_comment = tt
front_natural _ _ (fronts.block_comment p) = tt
front_natural _ _ (fronts.open_comment p) = tt
front_natural _ _ (fronts.word b) = (0, refl)
front_natural _ _ (fronts.numeral {n = n} b e) = (n, refl)
front_natural _ _ (fronts.other_numeral b e) = tt
front_natural _ _ (fronts.fraction b l f) = tt
front_natural _ _ (fronts.whole_string b i) = (0, refl)
front_natural _ _ (fronts.open_string b i) = tt
front_natural _ _ (fronts.bad_escape b i) = tt
front_natural _ _ (fronts.punctuator b l f) = (0, refl)
front_natural _ _ (fronts.bad_character b n) = tt

abbrev ReadNaturals : Reading → Type 0
ReadNaturals (Ok ts) = Naturals ts
ReadNaturals (Err f) = Unit {0}

one_more : (t : Token) (r : Reading) → IsNatural t.number → ReadNaturals r → ReadNaturals (after (t ∷ []) r)
one_more t (Ok ts) n h = (n, h)
one_more t (Err f) n h = tt

reads_naturals : (whole : Text) (l : Bool) (t : Text) (r : Reading) → lexer.Reads whole l t r → ReadNaturals r
reads_naturals whole l t _ (at_end f) = tt
reads_naturals whole l t r (past_gap {m = m} {u = u} f s) = reads_naturals whole (l || m) u r s
reads_naturals whole l t _ (past_token {u = u} {r = r} f s) = one_more _ r (front_natural _ _ f) (reads_naturals whole false u r s)
reads_naturals whole l t _ (at_fault f) = tt

token_naturals : (bytes : List ℕ) (ts : List Token) → AreTokens bytes ts → Naturals ts
token_naturals bytes ts a = reads_naturals _ false _ (Ok ts) a.1

-- ---- literals

-- no value in the part is negative, and none of the tokens behind it has a negative number
abbrev Fine : Part → Spot → Type 0
Fine x q = IsNatural x.head.value × HaveNaturals x.kids × Naturals q.rest

passed : {test : List Token → Bool} {p q : Spot} → Takes test p q → Naturals p.rest → Naturals q.rest
passed (takes h) n = n.1

number_natural : (ts : List Token) → Naturals ts → IsNatural (number_of ts)
number_natural [] n = (0, refl)
number_natural (t ∷ ts) n = n.0

nothing_natural : IsNatural (pos 0)
nothing_natural = (0, refl)

followed : {A : Type 0} {P : A → Spot → Type 0} {comma closing : List Token → Bool} {One : spots.Reading A} → ((p : Spot) (x : A) (q : Spot) → One p x q → Naturals p.rest → P x q)
    → ((x : A) (a q : Spot) → Takes comma a q → P x a → P x q)
    → (p : Spot) (x : A) (q : Spot) → Followed comma closing One p x q → Naturals p.rest → P x q
followed f g p x q (by_comma {a = a} r t) n = g x a q t (f p x a r n)
followed f g p x q (by_closing r s t) n = f p x q r n

part_passed : {comma : List Token → Bool} (x : Part) (a q : Spot) → Takes comma a q → Fine x a → Fine x q
part_passed x a q t h = (h.0, h.1, passed t h.2)

many_parts : {goes_on : List Token → Bool} {One : spots.Reading Part} → ((p : Spot) (x : Part) (q : Spot) → One p x q → Naturals p.rest → Fine x q)
    → (p : Spot) (xs : List Part) (q : Spot) → Many goes_on One p xs q → Naturals p.rest → HaveNaturals (trees_of xs) × Naturals q.rest
many_parts f p _ _ (no_more s) n = (tt, n)
many_parts f p _ q (then_more {a = a} {x = x} {xs = xs} s r m) n =
    let g = f p x a r n in
    let rest = many_parts f a xs q m g.2 in
    ((g.0, g.1, rest.0), rest.1)

many_entries : {goes_on : List Token → Bool} {One : spots.Reading (Named × Part)} → ((p : Spot) (e : Named × Part) (q : Spot) → One p e q → Naturals p.rest → Fine e.1 q)
    → (p : Spot) (es : List (Named × Part)) (q : Spot) → Many goes_on One p es q → Naturals p.rest → HaveNaturals (trees_of (map (λ (e : Named × Part). e.1) es)) × Naturals q.rest
many_entries f p _ _ (no_more s) n = (tt, n)
many_entries f p _ q (then_more {a = a} {x = e} {xs = es} s r m) n =
    let g = f p e a r n in
    let rest = many_entries f a es q m g.2 in
    ((g.0, g.1, rest.0), rest.1)

module _ (R : Form → spots.Reading Part) (fine : (p : Spot) (x : Part) (q : Spot) → R forms.Literal p x q → Naturals p.rest → Fine x q) where
  property : (p : Spot) (e : Named × Part) (q : Spot) → LiteralProperty R p e q → Naturals p.rest → Fine e.1 q
  property p _ q (literals.literal_property {b = b} {x = x} t u r) n = fine b x q r (passed u (passed t n))

  literal : (p : Spot) (x : Part) (q : Spot) → LiteralForm R p x q → Naturals p.rest → Fine x q
  literal p _ _ (literals.number t) n = (number_natural p.rest n, tt, passed t n)
  literal p _ _ (literals.text t) n = (nothing_natural, tt, passed t n)
  literal p _ _ (literals.undefined t) n = (nothing_natural, tt, passed t n)
  literal p _ _ (literals.null t) n = (nothing_natural, tt, passed t n)
  literal p _ _ (literals.true_word t) n = (nothing_natural, tt, passed t n)
  literal p _ _ (literals.false_word t) n = (nothing_natural, tt, passed t n)
  literal p _ _ (literals.negative {a = a} t u) n = (nothing_natural, (number_natural a.rest (passed t n), tt, tt), passed u (passed t n))
  literal p _ _ (literals.array {a = a} {b = b} {xs = xs} t m u) n =
      let g = many_parts (followed {P = Fine} fine part_passed) a xs b m (passed t n) in
      (nothing_natural, g.0, passed u g.1)
  literal p _ _ (literals.object {a = a} {b = b} {ps = ps} t m u) n =
      let g = many_entries (followed {P = λ (e : Named × Part). Fine e.1} property (λ e. part_passed e.1)) a ps b m (passed t n) in
      (nothing_natural, g.0, passed u g.1)

  argument : (p : Spot) (x : Part) (q : Spot) → Argument R p x q → Naturals p.rest → Fine x q
  argument p x q (literals.literal s r) n = fine p x q r n
  argument p _ _ (literals.passing t u v w) n =
      (nothing_natural, (nothing_natural, tt, (nothing_natural, tt, tt)), passed w (passed v (passed u (passed t n))))

reads_fine : (n : ℕ) (p : Spot) (x : Part) (q : Spot) → Reads n forms.Literal p x q → Naturals p.rest → Fine x q
unfolding Reads
reads_fine zero p x q r = absurd r
reads_fine (suc n) p x q r = literal (Reads n) (reads_fine n) p x q r

-- ---- texts

-- a text of a literal has one part
abbrev HasOnePart : Trees → Type 0
HasOnePart t = (x : Tree) × (parts_of_text t ≡ x ∷ [])

one_literal : (levels : ℕ) (ts : List Token) (t : Trees) → DerivesLiteral levels ts t → Naturals ts → HaveNaturals t × HasOnePart t
one_literal levels ts _ (derives_literal (literals.literal_text {p = p} {q = q} {x = x} r s)) n =
    let g = reads_fine levels p x q r n in
    ((nothing_natural, (g.0, g.1, tt), tt), (record { head = x.head; kids = x.kids }, refl))

pub literal_naturals : (bytes : List ℕ) (t : Trees) → HasTree DerivesLiteral bytes t → HaveNaturals t
literal_naturals bytes t h = (one_literal _ h.tokens t h.derives (token_naturals bytes h.tokens h.are_its_tokens)).0

pub one_part : (bytes : List ℕ) (t : Trees) → HasTree DerivesLiteral bytes t → HasOnePart t
one_part bytes t h = (one_literal _ h.tokens t h.derives (token_naturals bytes h.tokens h.are_its_tokens)).1

arguments_fine : (levels : ℕ) (ts : List Token) (t : Trees) → DerivesArguments levels ts t → Naturals ts → HaveNaturals t
arguments_fine levels ts _ (derives_arguments {xs = xs} {end = end} m) n =
    let g = many_parts (followed {P = Fine} (argument (Reads levels) (reads_fine levels)) part_passed) (spot ts 0) xs end m n in
    (nothing_natural, g.0, tt)

pub arguments_naturals : (bytes : List ℕ) (t : Trees) → HasTree DerivesArguments bytes t → HaveNaturals t
arguments_naturals bytes t h = arguments_fine _ h.tokens t h.derives (token_naturals bytes h.tokens h.are_its_tokens)

-- ---- what a call passes

one_form : (a b c d e : Bool) → a || (b || (c || (d || (e || false)))) ≡ true
    → (form : FormKind) × ((if a then Some kinds.Ref else if b then Some kinds.Deref else if c then Some kinds.Copy else if d then Some kinds.Into else if e then Some kinds.Callback else None) ≡ Some form)
one_form true b c d e h = (kinds.Ref, refl)
one_form false true c d e h = (kinds.Deref, refl)
one_form false false true d e h = (kinds.Copy, refl)
one_form false false false true e h = (kinds.Into, refl)
one_form false false false false true h = (kinds.Callback, refl)
one_form false false false false false h = absurd (let none : ⊥ = cc in none)

word_passes : (word : List ℕ) → is_among passing_words word ≡ true → (form : FormKind) × (form_named word ≡ Some form)
unfolding passing_words
word_passes word h = one_form (bytes_eq (codes "ref") word) (bytes_eq (codes "deref") word) (bytes_eq (codes "copy") word) (bytes_eq (codes "into") word) (bytes_eq (codes "callback") word) h

right_true : (a b : Bool) → (a && b) ≡ true → b ≡ true
right_true true b h = h
right_true false b h = absurd (let none : ⊥ = cc in none)

token_passes : {p a : Spot} → Takes is_passing p a → (form : FormKind) × (form_named (spots.text_of p.rest) ≡ Some form)
token_passes (takes {t = t} h) = word_passes t.text (right_true (is_word_kind t.kind) (is_among passing_words t.text) h)

no_call : (R : Form → spots.Reading Part) (p : Spot) (x : Part) (q : Spot) → LiteralForm R p x q → is_call x.head.kind ≡ false
no_call R p _ _ (literals.number t) = refl
no_call R p _ _ (literals.text t) = refl
no_call R p _ _ (literals.undefined t) = refl
no_call R p _ _ (literals.null t) = refl
no_call R p _ _ (literals.true_word t) = refl
no_call R p _ _ (literals.false_word t) = refl
no_call R p _ _ (literals.negative t u) = refl
no_call R p _ _ (literals.array t m u) = refl
no_call R p _ _ (literals.object t m u) = refl

literal_no_call : (n : ℕ) (p : Spot) (x : Part) (q : Spot) → Reads n forms.Literal p x q → is_call x.head.kind ≡ false
unfolding Reads
literal_no_call zero p x q r = absurd r
literal_no_call (suc n) p x q r = no_call (Reads n) p x q r

abbrev as_tree : Part → Tree
as_tree x = record { head = x.head; kids = x.kids }

not_both : {b : Bool} → b ≡ false → b ≡ true → ⊥
not_both e f = cc

argument_fit : (n : ℕ) (p : Spot) (x : Part) (q : Spot) → Argument (Reads n) p x q → IsFit (as_tree x)
argument_fit n p x q (literals.literal s r) = λ call. absurd (not_both (literal_no_call n p x q r) call)
argument_fit n p _ _ (literals.passing {a = a} {b = b} {c = c} t u v w) = λ call.
    let (form, e) = token_passes t in (
      form,
      spots.text_of b.rest,
      record {
        callee = as_tree (spots.name_node p a);
        passed = as_tree (spots.name_node b c);
        are_parts = refl;
        is_form = e;
        is_name = refl;
      },
    )

followed_fit : (n : ℕ) {comma closing : List Token → Bool} (p : Spot) (x : Part) (q : Spot) → Followed comma closing (Argument (Reads n)) p x q → IsFit (as_tree x)
followed_fit n p x _ (by_comma {a = a} r t) = argument_fit n p x a r
followed_fit n p x q (by_closing r s t) = argument_fit n p x q r

many_fit : (n : ℕ) {goes_on comma closing : List Token → Bool} (p : Spot) (xs : List Part) (q : Spot) → Many goes_on (Followed comma closing (Argument (Reads n))) p xs q → AreFit (side_by_side (trees_of xs))
many_fit n p _ _ (no_more s) = tt
many_fit n p _ q (then_more {a = a} {x = x} {xs = xs} s r m) = (followed_fit n p x a r, many_fit n a xs q m)

arguments_derive_fit : (levels : ℕ) (ts : List Token) (t : Trees) → DerivesArguments levels ts t → AreFit (parts_of_text t)
arguments_derive_fit levels ts _ (derives_arguments {xs = xs} {end = end} m) = many_fit levels (spot ts 0) xs end m

pub arguments_fit : (bytes : List ℕ) (t : Trees) → HasTree DerivesArguments bytes t → AreFit (parts_of_text t)
arguments_fit bytes t h = arguments_derive_fit _ h.tokens t h.derives
