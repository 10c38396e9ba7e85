-- The class of a token is its own, but for the word `new`.
use Rattle.std.proofs.Common.{◌≡◌, ℕ, Bool, true, false, ◌&&◌, not, if◌then◌else◌, List, [], ◌∷◌, codes, bytes_eq, inl, inr, refl, sym, ap, ◌∙◌, subst}
use Rattle.std.specs.Prelude.{nat_eq, ◌⊎◌}
use Rattle.std.specs.List.{list_all}
use Rattle.std.proofs.lemmas.Bool.{cases_Bool}
use Rattle.std.proofs.lemmas.Slice.Eq.{bytes_eq-Decides}
use Rattle.js_lexer.specs.declared.token.Token.{Token}
use Rattle.js_lexer.specs.declared.token.TokenKind.{TokenKind}
use Rattle.js_lexer.specs.declared.token.TokenKind.TheVariants as tokens
use Rattle.parser_rules.specs.declared.class.Class.{Class}
use Rattle.parser_rules.specs.declared.class.Class.TheVariants as classes
use Rattle.parser_rules.specs.Classes.{class_of, token_class, word_class, begins_construction, is_word_token, is_punct_token, is_among, constructors, foreign_words, words, punctuators, class_in, Entry, code, is_one_of}
use Rattle.parser_rules.specs.Rules.{is_word_kind}
use Rattle.first_bad.proofs.Begins.{both}

-- the word whose class depends on what stands behind it
abbrev pub is_new : Token → Bool
is_new t = is_word_token t.kind && bytes_eq (codes "new") t.text

pub same_text : (x y : List ℕ) → bytes_eq x y ≡ true → x ≡ y
same_text x y h = (bytes_eq-Decides x y).0 h

-- ---- the class of a word

fixed_by : (kind : TokenKind) (text : List ℕ) (x y : List Token) → (is_word_token kind && bytes_eq (codes "new") text) ≡ false → token_class kind text x ≡ token_class kind text y
fixed_by tokens.Word text x y h = rw h refl
fixed_by tokens.Punct text x y h = refl
fixed_by tokens.Num text x y h = refl
fixed_by tokens.Text text x y h = refl

-- any other token has one class, whatever stands behind it
pub class_fixed : (q : Token) (x y : List Token) → is_new q ≡ false → class_of (q ∷ x) ≡ class_of (q ∷ y)
unfolding class_of
class_fixed q x y h = fixed_by q.kind q.text x y h

new_by : (kind : TokenKind) (text : List ℕ) (x : List Token) → (is_word_token kind && bytes_eq (codes "new") text) ≡ true → token_class kind text x ≡ (if begins_construction x then classes.New else classes.Foreign)
unfolding foreign_words
new_by tokens.Word text x h = subst (λ (u : List ℕ). word_class u x ≡ (if begins_construction x then classes.New else classes.Foreign)) (same_text (codes "new") text h) refl
new_by tokens.Punct text x h = absurd (let none : ⊥ = cc in none)
new_by tokens.Num text x h = absurd (let none : ⊥ = cc in none)
new_by tokens.Text text x h = absurd (let none : ⊥ = cc in none)

pub class_of_new : (q : Token) (x : List Token) → is_new q ≡ true → class_of (q ∷ x) ≡ (if begins_construction x then classes.New else classes.Foreign)
unfolding class_of
class_of_new q x h = new_by q.kind q.text x h

pub new_or_foreign : (q : Token) (x : List Token) → is_new q ≡ true → (class_of (q ∷ x) ≡ classes.New) ⊎ (class_of (q ∷ x) ≡ classes.Foreign)
new_or_foreign q x h = elim (cases_Bool (begins_construction x)) [
  | inl k ↦ inl (class_of_new q x h ∙ ap (λ (b : Bool). if b then classes.New else classes.Foreign) k)
  | inr k ↦ inr (class_of_new q x h ∙ ap (λ (b : Bool). if b then classes.New else classes.Foreign) k)
]

-- ---- a construction

-- `new`, a constructor's name and `(`
pub record Opens (q c o : Token) : Type 0 where
  pub new_word : is_new q ≡ true
  pub new_class : (u : List Token) → class_of (q ∷ c ∷ o ∷ u) ≡ classes.New
  pub name_word : is_word_kind c.kind ≡ true
  pub name_fixed : is_new c ≡ false
  pub paren_class : (u : List Token) → class_of (o ∷ u) ≡ classes.ParenOpen
  pub paren_fixed : is_new o ≡ false

pub record Opening (ts : List Token) : Type 0 where
  pub word : Token
  pub name : Token
  pub paren : Token
  pub rest : List Token
  pub is : ts ≡ word ∷ name ∷ paren ∷ rest
  pub opens : Opens word name paren

word_kind : (kind : TokenKind) → is_word_token kind ≡ true → is_word_kind kind ≡ true
word_kind tokens.Word h = refl
word_kind tokens.Punct h = absurd (let none : ⊥ = cc in none)
word_kind tokens.Num h = absurd (let none : ⊥ = cc in none)
word_kind tokens.Text h = absurd (let none : ⊥ = cc in none)

punct_no_word : (kind : TokenKind) (text : List ℕ) → is_punct_token kind ≡ true → (is_word_token kind && bytes_eq (codes "new") text) ≡ false
punct_no_word tokens.Word text h = absurd (let none : ⊥ = cc in none)
punct_no_word tokens.Punct text h = refl
punct_no_word tokens.Num text h = absurd (let none : ⊥ = cc in none)
punct_no_word tokens.Text text h = absurd (let none : ⊥ = cc in none)

paren_by : (kind : TokenKind) (text : List ℕ) (u : List Token) → is_punct_token kind ≡ true → bytes_eq (codes "(") text ≡ true → token_class kind text u ≡ classes.ParenOpen
unfolding punctuators class_in
paren_by tokens.Word text u h k = absurd (let none : ⊥ = cc in none)
paren_by tokens.Punct text u h k = subst (λ (x : List ℕ). class_in punctuators x classes.Foreign ≡ classes.ParenOpen) (same_text (codes "(") text k) refl
paren_by tokens.Num text u h k = absurd (let none : ⊥ = cc in none)
paren_by tokens.Text text u h k = absurd (let none : ⊥ = cc in none)

paren_is : (o : Token) (u : List Token) → is_punct_token o.kind ≡ true → bytes_eq (codes "(") o.text ≡ true → class_of (o ∷ u) ≡ classes.ParenOpen
unfolding class_of
paren_is o u h k = paren_by o.kind o.text u h k

no_constructor : is_among constructors (codes "new") ≡ false
unfolding constructors
no_constructor = refl

pub name_not_new : (c : Token) → is_among constructors c.text ≡ true → is_new c ≡ false
name_not_new c h = elim (cases_Bool (is_new c)) [
  | inr k ↦ k
  | inl k ↦
      let (_, e) = both (is_word_token c.kind) (bytes_eq (codes "new") c.text) k in
      let never : true ≡ false = sym h ∙ ap (λ (x : List ℕ). is_among constructors x) (sym (same_text (codes "new") c.text e)) ∙ no_constructor in
      absurd (let none : ⊥ = cc in none)
]

pub opens_from : (q : Token) (x : List Token) → is_new q ≡ true → begins_construction x ≡ true → Opening (q ∷ x)
opens_from q [] n h = absurd (let none : ⊥ = cc in none)
opens_from q (c ∷ []) n h = absurd (let none : ⊥ = cc in none)
opens_from q (c ∷ o ∷ u) n h =
    let isword = is_word_token c.kind in
    let listed = is_among constructors c.text in
    let ispunct = is_punct_token o.kind in
    let (r, k) = both (isword && listed && ispunct) (bytes_eq (codes "(") o.text) h in
    let (r', p) = both (isword && listed) ispunct r in
    let (a, b) = both isword listed r' in
    record {
      word = q;
      name = c;
      paren = o;
      rest = u;
      is = refl;
      opens = record {
        new_word = n;
        new_class = λ v. class_of_new q (c ∷ o ∷ v) n ∙ ap (λ (t : Bool). if t then classes.New else classes.Foreign) h;
        name_word = word_kind c.kind a;
        name_fixed = name_not_new c b;
        paren_class = λ v. paren_is o v p k;
        paren_fixed = punct_no_word o.kind o.text p;
      };
    }

-- ---- nothing else is of the class of `new`

abbrev is_new_class : Class → Bool
is_new_class c = nat_eq (code c) 25

no_entry : (es : List Entry) (spelling : List ℕ) (other : Class) → list_all (λ (x : Entry). not (is_new_class x.class)) es ≡ true → is_new_class other ≡ false → is_new_class (class_in es spelling other) ≡ false
unfolding class_in
no_entry [] spelling other h o = o
no_entry (x ∷ es) spelling other h o =
    let (p, q) = both (not (is_new_class x.class)) (list_all (λ (y : Entry). not (is_new_class y.class)) es) h in
    chosen (bytes_eq x.spelling spelling) x (class_in es spelling other) (negated (is_new_class x.class) p) (no_entry es spelling other q o)
  where
    negated : (b : Bool) → not b ≡ true → b ≡ false
    negated true h = absurd (let none : ⊥ = cc in none)
    negated false h = refl

    chosen : (b : Bool) (x : Entry) (c : Class) → is_new_class x.class ≡ false → is_new_class c ≡ false → is_new_class (if b then x.class else c) ≡ false
    chosen true x c p q = p
    chosen false x c p q = q

no_word : (text : List ℕ) → is_new_class (class_in words text classes.Name) ≡ false
unfolding words
no_word text = no_entry words text classes.Name refl refl

no_punct : (text : List ℕ) → is_new_class (class_in punctuators text classes.Foreign) ≡ false
unfolding punctuators
no_punct text = no_entry punctuators text classes.Foreign refl refl

other_by : (kind : TokenKind) (text : List ℕ) (x : List Token) → (is_word_token kind && bytes_eq (codes "new") text) ≡ false → is_new_class (token_class kind text x) ≡ false
other_by tokens.Word text x h = elim (cases_Bool (is_among foreign_words text)) [
  | inl k ↦ rw (k, h) refl
  | inr k ↦ rw k (no_word text)
]
other_by tokens.Punct text x h = no_punct text
other_by tokens.Num text x h = refl
other_by tokens.Text text x h = refl

other_class : (q : Token) (x : List Token) → is_new q ≡ false → is_new_class (class_of (q ∷ x)) ≡ false
unfolding class_of
other_class q x h = other_by q.kind q.text x h

end_class : is_new_class (class_of []) ≡ false
unfolding class_of
end_class = refl

never_new : (ts : List Token) → class_of ts ≡ classes.New → is_new_class (class_of ts) ≡ false → ⊥
never_new ts e h = let never : true ≡ false = sym (ap (λ (c : Class). is_new_class c) e) ∙ h in cc

-- where the class of `new` is in view, a construction begins
pub new_opens : (ts : List Token) → class_of ts ≡ classes.New → Opening ts
new_opens [] e = absurd (never_new [] e end_class)
new_opens (q ∷ x) e = elim (cases_Bool (is_new q)) [
  | inr k ↦ absurd (never_new (q ∷ x) e (other_class q x k))
  | inl k ↦ elim (cases_Bool (begins_construction x)) [
    | inl h ↦ opens_from q x k h
    | inr h ↦
        let f : class_of (q ∷ x) ≡ classes.Foreign = class_of_new q x k ∙ ap (λ (b : Bool). if b then classes.New else classes.Foreign) h in
        absurd (never_new (q ∷ x) e (ap (λ (c : Class). is_new_class c) f))
  ]
]

pub new_or_not : (ts : List Token) → (class_of ts ≡ classes.New) ⊎ (is_one_of (class_of ts) (classes.New ∷ []) ≡ false)
new_or_not [] = inr (rw end_class refl)
new_or_not (q ∷ x) = elim (cases_Bool (is_new q)) [
  | inr k ↦ inr (rw (other_class q x k) refl)
  | inl k ↦ elim (new_or_foreign q x k) [ inl h ↦ inl h | inr h ↦ inr (rw h refl) ]
]

-- neither `new` nor a foreign word is of these classes
abbrev pub out : List Class → Bool
out cs = not (is_one_of classes.New cs) && not (is_one_of classes.Foreign cs)

pub not_true : (b : Bool) → not b ≡ true → b ≡ false
not_true true h = absurd (let none : ⊥ = cc in none)
not_true false h = refl

pub new_out : (q : Token) (x : List Token) (cs : List Class) → is_new q ≡ true → out cs ≡ true → is_one_of (class_of (q ∷ x)) cs ≡ false
new_out q x cs n h =
    let (p, r) = both (not (is_one_of classes.New cs)) (not (is_one_of classes.Foreign cs)) h in
    elim (new_or_foreign q x n) [
      | inl k ↦ ap (λ (c : Class). is_one_of c cs) k ∙ not_true (is_one_of classes.New cs) p
      | inr k ↦ ap (λ (c : Class). is_one_of c cs) k ∙ not_true (is_one_of classes.Foreign cs) r
    ]

-- two classes of one word
pub data Two (c d : Class) : Type 0 where
  alike : c ≡ d → Two c d
  lost : c ≡ classes.New → d ≡ classes.Foreign → Two c d
  won : c ≡ classes.Foreign → d ≡ classes.New → Two c d

pub two_classes : (q : Token) (x y : List Token) → is_new q ≡ true → Two (class_of (q ∷ x)) (class_of (q ∷ y))
two_classes q x y n = elim (new_or_foreign q x n) [
  | inl h ↦ elim (new_or_foreign q y n) [ inl k ↦ alike (h ∙ sym k) | inr k ↦ lost h k ]
  | inr h ↦ elim (new_or_foreign q y n) [ inl k ↦ won h k | inr k ↦ alike (h ∙ sym k) ]
]
