-- What stands in a string, or at the front of a text, read backwards: one case for each class of character.
use Rattle.std.proofs.Common.{◌≡◌, ℕ, List, [], ◌∷◌, ◌++◌, length, Bool, true, false, not, ◌||◌, Option, Some, None, pos, refl, sym, ap, subst, ◌∙◌, arith}
use Rattle.std.specs.Prelude.{nat_eq}
use Rattle.std.specs.Char.Escape.{encode_utf16}
use Rattle.ivm_text.specs.Text.{encode_utf16_all}
use Rattle.ivm_text.specs.declared.refusal.RefusalKind.TheVariants.{BadCharacter, OpenComment, OpenString, BadEscape, NumberOutOfProfile}
use Rattle.js_lexer.specs.declared.token.TokenKind.TheVariants as kinds
use Rattle.js_lexer.specs.declared.letters.Begin.{Begin}
use Rattle.js_lexer.specs.declared.letters.Begin.TheVariants as begins
use Rattle.js_lexer.specs.Letters.{Text, begin_of}
use Rattle.js_lexer.specs.Gaps.{to_line, past_star}
use Rattle.js_lexer.specs.Escapes.{escape}
use Rattle.js_lexer.specs.Words.{word_of, behind_word}
use Rattle.js_lexer.specs.Numbers.{number}
use Rattle.js_lexer.specs.Strings.{Ending, closed, unclosed, bad, before, Part, quote, line_end, backslash, plain, part_of, units_for, Inside, closes, text_ends, line_ends, lone_backslash, bad_escape, good_escape, character}
use Rattle.js_lexer.specs.Punctuators.{punctuators, IsLongest, NoneStands, is_fraction}
use Rattle.js_lexer.specs.Front as front
use Rattle.js_lexer.specs.Front.{Front, Seen, ended, gap, token, fault, may_mark, no_comment}

-- ---- strings

abbrev pub Escaped : ℕ → ℕ → ℕ → Text → Ending → Option (Option ℕ × Text) → Type 0
Escaped q c d t e None = e ≡ bad (c ∷ d ∷ t)
Escaped q c d t e (Some p) = (f : Ending) × (e ≡ before (units_for p.0) f) × Inside q p.1 f

abbrev pub Behind : ℕ → ℕ → Text → Ending → Part → Type 0
Behind q c t e quote = e ≡ closed [] t
Behind q c t e line_end = e ≡ unclosed
Behind q c [] e backslash = e ≡ bad (c ∷ [])
Behind q c (d ∷ t) e backslash = Escaped q c d t e (escape d t)
Behind q c t e plain = (f : Ending) × (e ≡ before (encode_utf16 c) f) × Inside q t f

abbrev pub Within : ℕ → Text → Ending → Type 0
Within q [] e = e ≡ unclosed
Within q (c ∷ t) e = Behind q c t e (part_of q c)

pub within : {q : ℕ} {t : Text} {e : Ending} → Inside q t e → Within q t e
within (closes {q = q} {c = c} {t = t} h) = subst (λ (p : Part). Behind q c t (closed [] t) p) (sym h) refl
within text_ends = refl
within (line_ends {q = q} {c = c} {t = t} h) = subst (λ (p : Part). Behind q c t unclosed p) (sym h) (at_line t)
  where
    at_line : (t : Text) → Behind q c t unclosed line_end
    at_line t = refl
within (lone_backslash {q = q} {c = c} h) = subst (λ (p : Part). Behind q c [] (bad (c ∷ [])) p) (sym h) refl
within (bad_escape {q = q} {c = c} {d = d} {t = t} h k) =
    subst (λ (p : Part). Behind q c (d ∷ t) (bad (c ∷ d ∷ t)) p) (sym h)
    (subst (λ (o : Option (Option ℕ × Text)). Escaped q c d t (bad (c ∷ d ∷ t)) o) (sym k) refl)
within (good_escape {q = q} {c = c} {d = d} {t = t} {u = u} {code = code} {e = e} h k i) =
    subst (λ (p : Part). Behind q c (d ∷ t) (before (units_for code) e) p) (sym h)
    (subst (λ (o : Option (Option ℕ × Text)). Escaped q c d t (before (units_for code) e) o) (sym k) (e, refl, i))
within (character {q = q} {c = c} {t = t} {e = e} h i) =
    subst (λ (p : Part). Behind q c t (before (encode_utf16 c) e) p) (sym h) (e, refl, i)

pub one_ending : {q : ℕ} {t : Text} {e f : Ending} → Inside q t e → Inside q t f → e ≡ f
one_ending {f = f} (closes {q = q} {c = c} {t = t} h) j =
    let v : f ≡ closed [] t = subst (Behind q c t f) h (within j) in sym v
one_ending text_ends j = sym (within j)
one_ending {f = f} (line_ends {q = q} {c = c} {t = t} h) j =
    let v : f ≡ unclosed = subst (Behind q c t f) h (within j) in sym v
one_ending {f = f} (lone_backslash {q = q} {c = c} h) j =
    let v : f ≡ bad (c ∷ []) = subst (Behind q c [] f) h (within j) in sym v
one_ending {f = f} (bad_escape {q = q} {c = c} {d = d} {t = t} h k) j =
    let v : f ≡ bad (c ∷ d ∷ t) = subst (Escaped q c d t f) k (subst (Behind q c (d ∷ t) f) h (within j)) in sym v
one_ending {f = f} (good_escape {q = q} {c = c} {d = d} {t = t} {u = u} {code = code} {e = e} h k i) j =
    let v : Escaped q c d t f (Some (code, u)) = subst (Escaped q c d t f) k (subst (Behind q c (d ∷ t) f) h (within j)) in
    ap (before (units_for code)) (one_ending i v.2) ∙ sym v.1
one_ending {f = f} (character {q = q} {c = c} {t = t} {e = e} h i) j =
    let v : Behind q c t f plain = subst (Behind q c t f) h (within j) in
    ap (before (encode_utf16 c)) (one_ending i v.2) ∙ sym v.1

-- ---- punctuators

same_parts : (p r u v : Text) → p ++ u ≡ r ++ v → length p ≡ length r → ◌≡◌ {A = Text × Text} (p, u) (r, v)
same_parts [] [] u v e l = cc
same_parts [] (d ∷ r) u v e l = absurd (omega arith)
same_parts (c ∷ p) [] u v e l = absurd (omega arith)
same_parts (c ∷ p) (d ∷ r) u v e l =
    let rest : p ++ u ≡ r ++ v = cc in
    let first : c ≡ d = cc in
    let deeper = same_parts p r u v rest (omega arith) in
    let ps : p ≡ r = ap (λ (o : Text × Text). o.0) deeper in
    let us : u ≡ v = ap (λ (o : Text × Text). o.1) deeper in
    cc

pub one_longest : (table : List Text) (t p u r v : Text) → IsLongest table t p u → IsLongest table t r v → ◌≡◌ {A = Text × Text} (p, u) (r, v)
one_longest table t p u r v a b =
    same_parts p r u v (sym a.here.whole ∙ b.here.whole) (omega (arith, a.longest r v b.here, b.longest p u a.here))

-- ---- the front

abbrev pub marked : ℕ → Text → Text → Text → Bool → Seen
marked c t p u true = fault NumberOutOfProfile (c ∷ t)
marked c t p u false = token kinds.Punct p (pos 0) u

pub data Marked : ℕ → Text → Seen → Type 0 where
  stands : {c : ℕ} {t p u : Text} → IsLongest punctuators (c ∷ t) p u → Marked c t (marked c t p u (is_fraction p u))
  none : {c : ℕ} {t : Text} → NoneStands punctuators (c ∷ t) → Marked c t (fault BadCharacter (c ∷ t))

abbrev pub Commented : ℕ → ℕ → Text → Seen → Option (Bool × Text) → Type 0
Commented c d t s None = s ≡ fault OpenComment (c ∷ d ∷ t)
Commented c d t s (Some p) = s ≡ gap p.0 p.1

abbrev pub Slashed : ℕ → ℕ → Text → Seen → Bool → Bool → Type 0
Slashed c d t s true b = s ≡ gap false (to_line t)
Slashed c d t s false true = Commented c d t s (past_star false t)
Slashed c d t s false false = Marked c (d ∷ t) s

abbrev pub Numbered : ℕ → Text → Seen → Option (ℕ × Text) → Type 0
Numbered c t s None = s ≡ fault NumberOutOfProfile (c ∷ t)
Numbered c t s (Some p) = s ≡ token kinds.Num [] (pos p.0) p.1

abbrev pub seen_string : ℕ → Text → Ending → Seen
seen_string q t (closed units u) = token kinds.Text units (pos 0) u
seen_string q t unclosed = fault OpenString (q ∷ t)
seen_string q t (bad at) = fault BadEscape at

abbrev pub Begun : ℕ → Text → Seen → Begin → Type 0
Begun c t s begins.Line = s ≡ gap true t
Begun c t s begins.White = s ≡ gap false t
Begun c [] s begins.Slash = Marked c [] s
Begun c (d ∷ t) s begins.Slash = Slashed c d t s (nat_eq d 47) (nat_eq d 42)
Begun c t s begins.Word = s ≡ token kinds.Word (encode_utf16_all (c ∷ word_of t)) (pos 0) (behind_word t)
Begun c t s begins.Digit = Numbered c t s (number c t)
Begun c t s begins.Quote = (e : Ending) × Inside c t e × (s ≡ seen_string c t e)
Begun c t s begins.Mark = Marked c t s

abbrev pub Fronted : Text → Seen → Type 0
Fronted [] s = s ≡ ended
Fronted (c ∷ t) s = Begun c t s (begin_of c)

no_other : (c d : ℕ) (t : Text) (s : Seen) (a b : Bool) → not (a || b) ≡ true → Marked c (d ∷ t) s → Slashed c d t s a b
no_other c d t s true b h m = absurd cc
no_other c d t s false true h m = absurd cc
no_other c d t s false false h m = m

other : (c d : ℕ) (t : Text) (s : Seen) (a b : Bool) → not (a || b) ≡ true → Slashed c d t s a b → Marked c (d ∷ t) s
other c d t s true b h m = absurd cc
other c d t s false true h m = absurd cc
other c d t s false false h m = m

by_mark : (c : ℕ) (t : Text) (s : Seen) (b : Begin) → may_mark b t ≡ true → Marked c t s → Begun c t s b
by_mark c t s begins.Line h m = absurd cc
by_mark c t s begins.White h m = absurd cc
by_mark c [] s begins.Slash h m = m
by_mark c (d ∷ t) s begins.Slash h m = no_other c d t s (nat_eq d 47) (nat_eq d 42) h m
by_mark c t s begins.Word h m = absurd cc
by_mark c t s begins.Digit h m = absurd cc
by_mark c t s begins.Quote h m = absurd cc
by_mark c t s begins.Mark h m = m

pub marks : (c : ℕ) (t : Text) (s : Seen) (b : Begin) → may_mark b t ≡ true → Begun c t s b → Marked c t s
marks c t s begins.Line h m = absurd cc
marks c t s begins.White h m = absurd cc
marks c [] s begins.Slash h m = m
marks c (d ∷ t) s begins.Slash h m = other c d t s (nat_eq d 47) (nat_eq d 42) h m
marks c t s begins.Word h m = absurd cc
marks c t s begins.Digit h m = absurd cc
marks c t s begins.Quote h m = absurd cc
marks c t s begins.Mark h m = m

pub fronted : {t : Text} {s : Seen} → Front t s → Fronted t s
fronted front.text_end = refl
fronted (front.white_space {c = c} {t = t} h) = subst (Begun c t (gap false t)) (sym h) refl
fronted (front.line_terminator {c = c} {t = t} h) = subst (Begun c t (gap true t)) (sym h) refl
fronted front.line_comment = refl
fronted (front.block_comment {t = t} {u = u} {l = l} h) = subst (Commented 47 42 t (gap l u)) (sym h) refl
fronted (front.open_comment {t = t} h) = subst (Commented 47 42 t (fault OpenComment (47 ∷ 42 ∷ t))) (sym h) refl
fronted (front.word {c = c} {t = t} h) =
    subst (Begun c t (token kinds.Word (encode_utf16_all (c ∷ word_of t)) (pos 0) (behind_word t))) (sym h) refl
fronted (front.numeral {c = c} {n = n} {t = t} {u = u} h k) =
    subst (Begun c t (token kinds.Num [] (pos n) u)) (sym h) (subst (Numbered c t (token kinds.Num [] (pos n) u)) (sym k) refl)
fronted (front.other_numeral {c = c} {t = t} h k) =
    subst (Begun c t (fault NumberOutOfProfile (c ∷ t))) (sym h) (subst (Numbered c t (fault NumberOutOfProfile (c ∷ t))) (sym k) refl)
fronted (front.fraction {c = c} {t = t} {p = p} {u = u} h l k) =
    by_mark c t (fault NumberOutOfProfile (c ∷ t)) (begin_of c) h (subst (λ (b : Bool). Marked c t (marked c t p u b)) k (stands l))
fronted (front.whole_string {q = q} {t = t} {u = u} {units = units} h i) =
    subst (Begun q t (token kinds.Text units (pos 0) u)) (sym h) (closed units u, i, refl)
fronted (front.open_string {q = q} {t = t} h i) = subst (Begun q t (fault OpenString (q ∷ t))) (sym h) (unclosed, i, refl)
fronted (front.bad_escape {q = q} {t = t} {at = at} h i) = subst (Begun q t (fault BadEscape at)) (sym h) (bad at, i, refl)
fronted (front.punctuator {c = c} {t = t} {p = p} {u = u} h l k) =
    by_mark c t (token kinds.Punct p (pos 0) u) (begin_of c) h (subst (λ (b : Bool). Marked c t (marked c t p u b)) k (stands l))
fronted (front.bad_character {c = c} {t = t} h n) = by_mark c t (fault BadCharacter (c ∷ t)) (begin_of c) h (none n)

one_mark : {c : ℕ} {t : Text} {r s : Seen} → Marked c t r → Marked c t s → r ≡ s
one_mark (stands {c = c} {t = t} {p = p} {u = u} l) (stands {p = r} {u = v} m) =
    ap (λ (o : Text × Text). marked c t o.0 o.1 (is_fraction o.0 o.1)) (one_longest punctuators (c ∷ t) p u r v l m)
one_mark (stands {p = p} {u = u} l) (none n) = absurd (n p u l.here)
one_mark (none n) (stands {p = p} {u = u} l) = absurd (n p u l.here)
one_mark (none n) (none m) = refl

-- what stands at the front is one thing
pub one_front : {t : Text} {r s : Seen} → Front t r → Front t s → r ≡ s
one_front front.text_end g = sym (fronted g)
one_front {s = s} (front.white_space {c = c} {t = t} h) g =
    let v : s ≡ gap false t = subst (Begun c t s) h (fronted g) in sym v
one_front {s = s} (front.line_terminator {c = c} {t = t} h) g =
    let v : s ≡ gap true t = subst (Begun c t s) h (fronted g) in sym v
one_front front.line_comment g = sym (fronted g)
one_front {s = s} (front.block_comment {t = t} {u = u} {l = l} h) g =
    let v : s ≡ gap l u = subst (Commented 47 42 t s) h (fronted g) in sym v
one_front {s = s} (front.open_comment {t = t} h) g =
    let v : s ≡ fault OpenComment (47 ∷ 42 ∷ t) = subst (Commented 47 42 t s) h (fronted g) in sym v
one_front {s = s} (front.word {c = c} {t = t} h) g =
    let v : s ≡ token kinds.Word (encode_utf16_all (c ∷ word_of t)) (pos 0) (behind_word t) = subst (Begun c t s) h (fronted g) in sym v
one_front {s = s} (front.numeral {c = c} {n = n} {t = t} {u = u} h k) g =
    let v : s ≡ token kinds.Num [] (pos n) u = subst (Numbered c t s) k (subst (Begun c t s) h (fronted g)) in sym v
one_front {s = s} (front.other_numeral {c = c} {t = t} h k) g =
    let v : s ≡ fault NumberOutOfProfile (c ∷ t) = subst (Numbered c t s) k (subst (Begun c t s) h (fronted g)) in sym v
one_front {s = s} (front.fraction {c = c} {t = t} {p = p} {u = u} h l k) g =
    one_mark (subst (λ (b : Bool). Marked c t (marked c t p u b)) k (stands l)) (marks c t s (begin_of c) h (fronted g))
one_front {s = s} (front.whole_string {q = q} {t = t} {u = u} {units = units} h i) g =
    let v : Begun q t s begins.Quote = subst (Begun q t s) h (fronted g) in
    ap (seen_string q t) (one_ending i v.1) ∙ sym v.2
one_front {s = s} (front.open_string {q = q} {t = t} h i) g =
    let v : Begun q t s begins.Quote = subst (Begun q t s) h (fronted g) in
    ap (seen_string q t) (one_ending i v.1) ∙ sym v.2
one_front {s = s} (front.bad_escape {q = q} {t = t} {at = at} h i) g =
    let v : Begun q t s begins.Quote = subst (Begun q t s) h (fronted g) in
    ap (seen_string q t) (one_ending i v.1) ∙ sym v.2
one_front {s = s} (front.punctuator {c = c} {t = t} {p = p} {u = u} h l k) g =
    one_mark (subst (λ (b : Bool). Marked c t (marked c t p u b)) k (stands l)) (marks c t s (begin_of c) h (fronted g))
one_front {s = s} (front.bad_character {c = c} {t = t} h n) g = one_mark (none n) (marks c t s (begin_of c) h (fronted g))
