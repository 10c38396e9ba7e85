-- What stands at the front, from the parts that the code reads.
use Rattle.std.proofs.Common.{◌≡◌, ℕ, ◌<◌, List, [], ◌∷◌, length, Bool, true, false, Some, None, ℤ, pos, sym, subst, arith}
use Rattle.std.proofs.lemmas.List.{nil_from_length}
use Rattle.ivm_text.specs.Text.{encode_utf16_all}
use Rattle.ivm_text.specs.declared.refusal.RefusalKind.TheVariants.{BadCharacter, OpenComment, OpenString, BadEscape, NumberOutOfProfile}
use Rattle.js_lexer.specs.declared.token.TokenKind.TheVariants as kinds
use Rattle.js_lexer.specs.declared.letters.Begin.TheVariants as begins
use Rattle.js_lexer.specs.Letters.{Text, begin_of}
use Rattle.js_lexer.specs.Gaps.{to_line, past_star}
use Rattle.js_lexer.specs.Words.{word_of, behind_word}
use Rattle.js_lexer.specs.Numbers.{number}
use Rattle.js_lexer.specs.Strings.{Inside, closed, unclosed, bad}
use Rattle.js_lexer.specs.Punctuators.{punctuators, first_of, IsLongest, NoneStands, is_fraction}
use Rattle.js_lexer.specs.Front.{Front, ended, gap, token, fault, may_mark, text_end, white_space, line_terminator, line_comment, block_comment, open_comment, word, numeral, other_numeral, fraction, whole_string, open_string, bad_escape, punctuator, bad_character}
use Rattle.js_lexer.proofs.Longest.{longest, none_stands, table_falls}

pub end_at : (text : Text) → length text < 1 → Front text ended
end_at text short = subst (λ (s : Text). Front s ended) (sym (nil_from_length text (omega arith))) text_end

pub white_at : (c : ℕ) (text t : Text) → text ≡ c ∷ t → begin_of c ≡ begins.White → Front text (gap false t)
white_at c text t e b = subst (λ (s : Text). Front s (gap false t)) (sym e) (white_space b)

pub line_at : (c : ℕ) (text t : Text) → text ≡ c ∷ t → begin_of c ≡ begins.Line → Front text (gap true t)
line_at c text t e b = subst (λ (s : Text). Front s (gap true t)) (sym e) (line_terminator b)

pub line_comment_at : (text t u : Text) → text ≡ 47 ∷ 47 ∷ t → u ≡ to_line t → Front text (gap false u)
line_comment_at text t u e r =
    subst (λ (v : Text). Front text (gap false v)) (sym r) (subst (λ (s : Text). Front s (gap false (to_line t))) (sym e) line_comment)

pub block_at : (l : Bool) (text t u : Text) → text ≡ 47 ∷ 42 ∷ t → past_star false t ≡ Some (l, u) → Front text (gap l u)
block_at l text t u e r = subst (λ (s : Text). Front s (gap l u)) (sym e) (block_comment r)

pub open_at : (text t : Text) → text ≡ 47 ∷ 42 ∷ t → past_star false t ≡ None → Front text (fault OpenComment text)
open_at text t e r = subst (λ (s : Text). Front s (fault OpenComment s)) (sym e) (open_comment r)

pub word_at : (c : ℕ) (text t u : Text) (units : List ℕ) → text ≡ c ∷ t → begin_of c ≡ begins.Word
    → units ≡ encode_utf16_all (c ∷ word_of t) → u ≡ behind_word t → Front text (token kinds.Word units (pos 0) u)
word_at c text t u units e b w r =
    subst (λ (s : Text). Front s (token kinds.Word units (pos 0) u)) (sym e)
    (subst (λ (us : List ℕ). Front (c ∷ t) (token kinds.Word us (pos 0) u)) (sym w)
    (subst (λ (v : Text). Front (c ∷ t) (token kinds.Word (encode_utf16_all (c ∷ word_of t)) (pos 0) v)) (sym r) (word b)))

pub numeral_at : (c n : ℕ) (z : ℤ) (text t u : Text) (units : List ℕ) → text ≡ c ∷ t → begin_of c ≡ begins.Digit → units ≡ []
    → z ≡ pos n → number c t ≡ Some (n, u) → Front text (token kinds.Num units z u)
numeral_at c n z text t u units e b none same is =
    subst (λ (us : List ℕ). Front text (token kinds.Num us z u)) (sym none)
    (subst (λ (y : ℤ). Front text (token kinds.Num [] y u)) (sym same)
    (subst (λ (s : Text). Front s (token kinds.Num [] (pos n) u)) (sym e) (numeral b is)))

pub other_numeral_at : (c : ℕ) (text t : Text) → text ≡ c ∷ t → begin_of c ≡ begins.Digit → number c t ≡ None
    → Front text (fault NumberOutOfProfile text)
other_numeral_at c text t e b none = subst (λ (s : Text). Front s (fault NumberOutOfProfile s)) (sym e) (other_numeral b none)

pub string_at : (q : ℕ) (text t u : Text) (units : List ℕ) → text ≡ q ∷ t → begin_of q ≡ begins.Quote
    → Inside q t (closed units u) → Front text (token kinds.Text units (pos 0) u)
string_at q text t u units e b i = subst (λ (s : Text). Front s (token kinds.Text units (pos 0) u)) (sym e) (whole_string b i)

pub open_string_at : (q : ℕ) (text t : Text) → text ≡ q ∷ t → begin_of q ≡ begins.Quote → Inside q t unclosed
    → Front text (fault OpenString text)
open_string_at q text t e b i = subst (λ (s : Text). Front s (fault OpenString s)) (sym e) (open_string b i)

pub bad_escape_at : (q : ℕ) (text t at : Text) → text ≡ q ∷ t → begin_of q ≡ begins.Quote → Inside q t (bad at)
    → Front text (fault BadEscape at)
bad_escape_at q text t at e b i = subst (λ (s : Text). Front s (fault BadEscape at)) (sym e) (bad_escape b i)

pub longest_at : (text p u : Text) → first_of punctuators text ≡ Some (p, u) → IsLongest punctuators text p u
longest_at text p u e = longest 4 punctuators text p u table_falls e

pub fraction_at : (c : ℕ) (text t p u : Text) → text ≡ c ∷ t → may_mark (begin_of c) t ≡ true
    → first_of punctuators text ≡ Some (p, u) → is_fraction p u ≡ true → Front text (fault NumberOutOfProfile text)
fraction_at c text t p u e m f is =
    let l : IsLongest punctuators (c ∷ t) p u = subst (λ (s : Text). IsLongest punctuators s p u) e (longest_at text p u f) in
    subst (λ (s : Text). Front s (fault NumberOutOfProfile s)) (sym e) (fraction m l is)

pub punctuator_at : (c : ℕ) (text t p u : Text) (units : List ℕ) → text ≡ c ∷ t → may_mark (begin_of c) t ≡ true
    → first_of punctuators text ≡ Some (p, u) → is_fraction p u ≡ false → units ≡ p → Front text (token kinds.Punct units (pos 0) u)
punctuator_at c text t p u units e m f is same =
    let l : IsLongest punctuators (c ∷ t) p u = subst (λ (s : Text). IsLongest punctuators s p u) e (longest_at text p u f) in
    subst (λ (us : List ℕ). Front text (token kinds.Punct us (pos 0) u)) (sym same)
    (subst (λ (s : Text). Front s (token kinds.Punct p (pos 0) u)) (sym e) (punctuator m l is))

pub no_token_at : (c : ℕ) (text t : Text) → text ≡ c ∷ t → may_mark (begin_of c) t ≡ true
    → first_of punctuators text ≡ None → Front text (fault BadCharacter text)
no_token_at c text t e m f =
    let none : NoneStands punctuators (c ∷ t) = subst (NoneStands punctuators) e (none_stands punctuators text f) in
    subst (λ (s : Text). Front s (fault BadCharacter s)) (sym e) (bad_character m none)
