-- The units of a string grow from its front.
use Rattle.std.proofs.Common.{◌≡◌, ℕ, List, [], ◌∷◌, ◌++◌, Option, Some, None, ap, sym, ◌∙◌, refl, subst, append_assoc, rules, ◌⊎◌, inl, inr, length, ◌<◌, arith}
use Rattle.std.proofs.lemmas.List.{append-nil, nil_from_length}
use Rattle.std.specs.Char.Escape.{encode_utf16}
use Rattle.js_lexer.specs.Letters.{Text}
use Rattle.js_lexer.specs.Escapes.{escape}
use Rattle.js_lexer.specs.Strings.{Ending, closed, unclosed, bad, before, quote, line_end, backslash, plain, part_of, units_for, Inside, closes, text_ends, line_ends, lone_backslash, bad_escape, good_escape, character}

pub before_nothing : (e : Ending) → before [] e ≡ e
before_nothing (closed us u) = refl
before_nothing unclosed = refl
before_nothing (bad at) = refl

pub before_twice : (us vs : List ℕ) (e : Ending) → before us (before vs e) ≡ before (us ++ vs) e
before_twice us vs (closed ws u) = ap (λ xs. closed xs u) (sym (append_assoc us vs ws))
before_twice us vs unclosed = refl
before_twice us vs (bad at) = refl

pub start : (q : ℕ) (text : Text) (us : List ℕ) → us ≡ [] → (e : Ending) → Inside q text e → Inside q text (before us e)
start q text us none e i = subst (λ (vs : List ℕ). Inside q text (before vs e)) (sym none) (subst (Inside q text) (sym (before_nothing e)) i)

pub further : (q : ℕ) (text rest after : Text) (us vs all : List ℕ) → ((e : Ending) → Inside q rest e → Inside q text (before us e))
    → ((e : Ending) → Inside q after e → Inside q rest (before vs e)) → all ≡ us ++ vs
    → (e : Ending) → Inside q after e → Inside q text (before all e)
further q text rest after us vs all reached step joined e i =
    subst (λ (ws : List ℕ). Inside q text (before ws e)) (sym joined)
    (subst (Inside q text) (before_twice us vs e) (reached (before vs e) (step e i)))

pub at_end : (q : ℕ) (text rest after : Text) (us : List ℕ) → ((e : Ending) → Inside q rest e → Inside q text (before us e))
    → Inside q rest (closed [] after) → Inside q text (closed us after)
at_end q text rest after us reached i =
    subst (λ (vs : List ℕ). Inside q text (closed vs after)) (append-nil us) (reached (closed [] after) i)

-- ---- one character

pub part-quote : (q c : ℕ) → c ≡ q → part_of q c ≡ quote
part-quote q c e = search rules

pub part-line : (q c : ℕ) → (c ≡ q → ⊥) → (c ≡ 10) ⊎ (c ≡ 13) → part_of q c ≡ line_end
part-line q c other (inl e) = search rules
part-line q c other (inr e) = search rules

pub part-backslash : (q c : ℕ) → (c ≡ q → ⊥) → c ≡ 92 → part_of q c ≡ backslash
part-backslash q c other e = search rules

pub part-plain : (q c : ℕ) → (c ≡ q → ⊥) → (c ≡ 10 → ⊥) → (c ≡ 13 → ⊥) → (c ≡ 92 → ⊥) → part_of q c ≡ plain
part-plain q c a b d e = search rules

pub closes_at : (q c : ℕ) (text t : Text) → text ≡ c ∷ t → c ≡ q → Inside q text (closed [] t)
closes_at q c text t e same = subst (λ (s : Text). Inside q s (closed [] t)) (sym e) (closes (part-quote q c same))

pub line_ends_at : (q c : ℕ) (text t : Text) → text ≡ c ∷ t → (c ≡ q → ⊥) → (c ≡ 10) ⊎ (c ≡ 13) → Inside q text unclosed
line_ends_at q c text t e other line = subst (λ (s : Text). Inside q s unclosed) (sym e) (line_ends (part-line q c other line))

pub lone_at : (q c : ℕ) (text t : Text) → text ≡ c ∷ t → t ≡ [] → (c ≡ q → ⊥) → c ≡ 92 → Inside q text (bad text)
lone_at q c text t e none other is =
    subst (λ (s : Text). Inside q s (bad s)) (sym (e ∙ ap (λ (s : Text). c ∷ s) none)) (lone_backslash (part-backslash q c other is))

pub bad_at : (q c d : ℕ) (text t : Text) → text ≡ c ∷ d ∷ t → part_of q c ≡ backslash → escape d t ≡ None → Inside q text (bad text)
bad_at q c d text t e part none = subst (λ (s : Text). Inside q s (bad s)) (sym e) (bad_escape part none)

pub good_at : (q c d : ℕ) (text t u : Text) (code : Option ℕ) → text ≡ c ∷ d ∷ t → part_of q c ≡ backslash → escape d t ≡ Some (code, u)
    → (e : Ending) → Inside q u e → Inside q text (before (units_for code) e)
good_at q c d text t u code e part is f i =
    subst (λ (s : Text). Inside q s (before (units_for code) f)) (sym e) (good_escape part is i)

pub character_at : (q c : ℕ) (text t : Text) → text ≡ c ∷ t → part_of q c ≡ plain
    → (e : Ending) → Inside q t e → Inside q text (before (encode_utf16 c) e)
character_at q c text t e part f i = subst (λ (s : Text). Inside q s (before (encode_utf16 c) f)) (sym e) (character part i)

pub ends_at : (q : ℕ) (t : Text) → length t < 1 → Inside q t unclosed
ends_at q t short = subst (λ (s : Text). Inside q s unclosed) (sym (nil_from_length t (omega arith))) text_ends
