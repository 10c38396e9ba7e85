-- Tokens that end what was begun, and what tests make of them.
use Rattle.std.proofs.Common.{◌≡◌, ℕ, zero, suc, ℤ, pos, Bool, true, false, ◌&&◌, ◌||◌, not, if◌then◌else◌, List, [], ◌∷◌, codes, Option, None, Some, refl, ap, ◌∙◌}
use Rattle.first_bad.proofs.Begins.{both}
use Rattle.js_lexer.specs.declared.token.Token.{Token}
use Rattle.js_lexer.specs.declared.token.TokenKind.{TokenKind}
use Rattle.js_lexer.specs.declared.token.TokenKind.TheVariants as tokens
use Rattle.parser_rules.specs.declared.class.Class.{Class}
use Rattle.parser_rules.specs.declared.class.Class.TheVariants as classes
use Rattle.parser_rules.specs.declared.form.Cover.{Cover}
use Rattle.parser_rules.specs.Classes.{class_of, is_one_of, class_in, words, foreign_words, punctuators}
use Rattle.parser_rules.specs.Rules.{Test, sees, sees_other, sees_on_line, sees_word, sees_key, sees_nonzero, sees_passing, after_line, may_end, may_be_parameters, must_be_parameters, passes_on, is_line, is_names, is_parameters, kind_passes, is_word_kind, is_key_kind, is_nonzero, is_passing, passing_words}

-- the end, or a token of one's own
pub data Mark : Type 0 where
  edge : Mark
  name : Mark
  number : Mark
  semicolon : Mark
  paren_open : Mark
  paren_close : Mark
  bracket_close : Mark
  brace_open : Mark
  brace_close : Mark
  colon : Mark
  equals : Mark
  arrow : Mark
  finally : Mark

abbrev pub mark_class : Mark → Class
mark_class edge = classes.End
mark_class name = classes.Name
mark_class number = classes.Num
mark_class semicolon = classes.Semicolon
mark_class paren_open = classes.ParenOpen
mark_class paren_close = classes.ParenClose
mark_class bracket_close = classes.BracketClose
mark_class brace_open = classes.BraceOpen
mark_class brace_close = classes.BraceClose
mark_class colon = classes.Colon
mark_class equals = classes.Equals
mark_class arrow = classes.Arrow
mark_class finally = classes.Finally

abbrev made : TokenKind → List ℕ → ℤ → Token
made kind text n = record { kind = kind; text = text; number = n; place = 0; after_line = false }

abbrev word : List ℕ → Token
word text = made tokens.Word text (pos 0)

abbrev punct : List ℕ → Token
punct text = made tokens.Punct text (pos 0)

-- the name is one that an argument may pass, too
abbrev pub token_of : Mark → Token
token_of edge = word []
token_of name = word (codes "ref")
token_of number = made tokens.Num [] (pos 1)
token_of semicolon = punct (codes ";")
token_of paren_open = punct (codes "(")
token_of paren_close = punct (codes ")")
token_of bracket_close = punct (codes "]")
token_of brace_open = punct (codes "{")
token_of brace_close = punct (codes "}")
token_of colon = punct (codes ":")
token_of equals = punct (codes "=")
token_of arrow = punct (codes "=>")
token_of finally = word (codes "finally")

abbrev pub is_edge : Mark → Bool
is_edge edge = true
is_edge _ = false

-- the mark, and these tokens behind it
abbrev pub ahead : Mark → List Token → List Token
ahead m ts = if is_edge m then [] else token_of m ∷ ts

-- these marks, and then these tokens
abbrev pub tokens_of : List Mark → List Token → List Token
tokens_of [] us = us
tokens_of (m ∷ ms) us = token_of m ∷ tokens_of ms us

-- the mark is in view
abbrev pub Shows : Mark → List Token → Type 0
Shows m us = (v : List Token) × (us ≡ ahead m v)

pub class_ahead : (m : Mark) (v : List Token) → class_of (ahead m v) ≡ mark_class m
unfolding class_of class_in words foreign_words punctuators
class_ahead edge v = refl
class_ahead _ v = refl

-- ---- tests

abbrev pub is_word_mark : Mark → Bool
is_word_mark name = true
is_word_mark finally = true
is_word_mark _ = false

abbrev pub is_key_mark : Mark → Bool
is_key_mark name = true
is_key_mark finally = true
is_key_mark number = true
is_key_mark _ = false

abbrev pub is_number_mark : Mark → Bool
is_number_mark number = true
is_number_mark _ = false

abbrev pub is_name_mark : Mark → Bool
is_name_mark name = true
is_name_mark _ = false

word_ahead : (m : Mark) (v : List Token) → kind_passes is_word_kind (ahead m v) ≡ is_word_mark m
word_ahead edge v = refl
word_ahead _ v = refl

key_ahead : (m : Mark) (v : List Token) → kind_passes is_key_kind (ahead m v) ≡ is_key_mark m
key_ahead edge v = refl
key_ahead _ v = refl

nonzero_ahead : (m : Mark) (v : List Token) → is_nonzero (ahead m v) ≡ is_number_mark m
nonzero_ahead edge v = refl
nonzero_ahead _ v = refl

passing_ahead : (m : Mark) (v : List Token) → is_passing (ahead m v) ≡ is_name_mark m
unfolding passing_words
passing_ahead edge v = refl
passing_ahead _ v = refl

line_ahead : (m : Mark) (v : List Token) → is_line (ahead m v) ≡ false
line_ahead edge v = refl
line_ahead _ v = refl

-- what is known of what was read behind a `(`
abbrev pub Knows : Option Cover → Cover → Type 0
Knows None cover = Unit {0}
Knows (Some c) cover = cover ≡ c

abbrev pub known : Option Cover → (Cover → Bool) → Option Bool
known None f = None
known (Some c) f = Some (f c)

-- what the test says of a mark in view, where it is known
abbrev pub seen : Option Cover → Test → Mark → Option Bool
seen k (sees cs) m = Some (is_one_of (mark_class m) cs)
seen k (sees_other cs) m = Some (not (is_one_of (mark_class m) cs))
seen k (sees_on_line cs) m = Some (is_one_of (mark_class m) cs)
seen k sees_word m = Some (is_word_mark m)
seen k sees_key m = Some (is_key_mark m)
seen k sees_nonzero m = Some (is_number_mark m)
seen k sees_passing m = Some (is_name_mark m)
seen k after_line m = Some false
seen k may_end m = Some (is_one_of (mark_class m) (classes.BraceClose ∷ classes.End ∷ []))
seen k may_be_parameters m = known k is_names
seen k must_be_parameters m = known k is_parameters

bool_or : Option Bool → Bool → Bool
bool_or None d = d
bool_or (Some b) d = b

same_bool : (a b : Bool) → Some a ≡ Some b → a ≡ b
unfolding bool_or
same_bool a b e = ap (λ (o : Option Bool). bool_or o a) e

none_bool : (b : Bool) → None ≡ Some b → ⊥
none_bool b e = cc

cover_seen : (k : Option Cover) (cover : Cover) (f : Cover → Bool) (b : Bool) → Knows k cover → known k f ≡ Some b → f cover ≡ b
cover_seen None cover f b h e = absurd (none_bool b e)
cover_seen (Some c) cover f b h e = ap f h ∙ same_bool (f c) b e

and_true : (b : Bool) → (b && true) ≡ b
and_true true = refl
and_true false = refl

or_false : (b : Bool) → (b || false) ≡ b
or_false true = refl
or_false false = refl

pub seen_right : (k : Option Cover) (test : Test) (m : Mark) (v : List Token) (cover : Cover) (b : Bool) → Knows k cover → seen k test m ≡ Some b → passes_on test (ahead m v) cover ≡ b
seen_right k (sees cs) m v cover b h e = ap (λ (c : Class). is_one_of c cs) (class_ahead m v) ∙ same_bool _ b e
seen_right k (sees_other cs) m v cover b h e = ap (λ (c : Class). not (is_one_of c cs)) (class_ahead m v) ∙ same_bool _ b e
seen_right k (sees_on_line cs) m v cover b h e =
    ap (λ (c : Class). is_one_of c cs && not (is_line (ahead m v))) (class_ahead m v)
    ∙ ap (λ (l : Bool). is_one_of (mark_class m) cs && not l) (line_ahead m v)
    ∙ and_true (is_one_of (mark_class m) cs)
    ∙ same_bool _ b e
seen_right k sees_word m v cover b h e = word_ahead m v ∙ same_bool _ b e
seen_right k sees_key m v cover b h e = key_ahead m v ∙ same_bool _ b e
seen_right k sees_nonzero m v cover b h e = nonzero_ahead m v ∙ same_bool _ b e
seen_right k sees_passing m v cover b h e = passing_ahead m v ∙ same_bool _ b e
seen_right k after_line m v cover b h e = line_ahead m v ∙ same_bool false b e
seen_right k may_end m v cover b h e =
    ap (λ (c : Class). is_one_of c (classes.BraceClose ∷ classes.End ∷ []) || is_line (ahead m v)) (class_ahead m v)
    ∙ ap (λ (l : Bool). is_one_of (mark_class m) (classes.BraceClose ∷ classes.End ∷ []) || l) (line_ahead m v)
    ∙ or_false (is_one_of (mark_class m) (classes.BraceClose ∷ classes.End ∷ []))
    ∙ same_bool _ b e
seen_right k may_be_parameters m v cover b h e = cover_seen k cover is_names b h e
seen_right k must_be_parameters m v cover b h e = cover_seen k cover is_parameters b h e

-- ---- sets of marks

abbrev pub Marks : Type 0
Marks = List Bool

-- those marks of which this holds
abbrev pub marks : (Mark → Bool) → Marks
marks f = f edge ∷ f name ∷ f number ∷ f semicolon ∷ f paren_open ∷ f paren_close ∷ f bracket_close ∷ f brace_open ∷ f brace_close ∷ f colon ∷ f equals ∷ f arrow ∷ f finally ∷ []

abbrev nth : Marks → ℕ → Bool
nth [] n = false
nth (b ∷ bs) zero = b
nth (b ∷ bs) (suc n) = nth bs n

abbrev place : Mark → ℕ
place edge = 0
place name = 1
place number = 2
place semicolon = 3
place paren_open = 4
place paren_close = 5
place bracket_close = 6
place brace_open = 7
place brace_close = 8
place colon = 9
place equals = 10
place arrow = 11
place finally = 12

abbrev pub has : Marks → Mark → Bool
has bs m = nth bs (place m)

pub has_marks : (f : Mark → Bool) (m : Mark) → has (marks f) m ≡ f m
has_marks f edge = refl
has_marks f _ = refl

abbrev pub every : Marks
every = marks (λ m. true)

abbrev pub none : Marks
none = []

abbrev pub meet : Marks → Marks → Marks
meet [] cs = []
meet (b ∷ bs) [] = []
meet (b ∷ bs) (c ∷ cs) = (b && c) ∷ meet bs cs

nth_meet : (bs cs : Marks) (n : ℕ) → nth (meet bs cs) n ≡ true → (nth bs n ≡ true) × (nth cs n ≡ true)
nth_meet [] cs n h = absurd (let no : ⊥ = cc in no)
nth_meet (b ∷ bs) [] n h = absurd (let no : ⊥ = cc in no)
nth_meet (b ∷ bs) (c ∷ cs) zero h = both b c h
nth_meet (b ∷ bs) (c ∷ cs) (suc n) h = nth_meet bs cs n h

pub has_meet : (bs cs : Marks) (m : Mark) → has (meet bs cs) m ≡ true → (has bs m ≡ true) × (has cs m ≡ true)
has_meet bs cs m h = nth_meet bs cs (place m) h
