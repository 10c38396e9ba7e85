-- A name is a word, so what it says as a key is its text; and the last of several names.
use Rattle.std.proofs.Common.{◌≡◌, ℕ, suc, ◌-◌, Bool, true, false, ◌||◌, List, [], ◌∷◌, ◌++◌, length, Some, if◌then◌else◌, refl, ap, arith}
use Rattle.std.specs.Prelude.{slice_get}
use Rattle.std.specs.List.{list_any}
use Rattle.std.specs.Str.{bytes_eq}
use Rattle.js_lexer.specs.declared.token.Token.{Token}
use Rattle.js_lexer.specs.declared.token.TokenKind.{TokenKind}
use Rattle.js_lexer.specs.declared.token.TokenKind.TheVariants as tokens
use Rattle.parser_rules.specs.declared.class.Class.{Class}
use Rattle.parser_rules.specs.declared.class.Class.TheVariants as classes
use Rattle.parser_rules.specs.Classes.{Entry, class_in, class_of, token_class, punctuators, is_one_of}
use Rattle.parser_rules.specs.Work.{last_name}
use Rattle.parser_rules.specs.Rules.{kind_passes, is_key_kind}
use Rattle.js_grammar.specs.Spots.{Named, is, text_of, key_at}
use Rattle.js_grammar.proofs.Nodes.{names_of, places_of}

-- ---- no punctuator is a name

neither : (x y : Bool) → x || y ≡ false → (x ≡ false) × (y ≡ false)
neither true y h = absurd (let none : ⊥ = cc in none)
neither false y h = (refl, h)

no_name : (es : List Entry) (s : List ℕ) → list_any (λ (e : Entry). is_one_of e.class (classes.Name ∷ [])) es ≡ false → is_one_of (class_in es s classes.Foreign) (classes.Name ∷ []) ≡ false
unfolding class_in
no_name [] s h = refl
no_name (e ∷ es) s h = chosen e.class (class_in es s classes.Foreign) (bytes_eq e.spelling s) (neither (is_one_of e.class (classes.Name ∷ [])) (list_any (λ (e : Entry). is_one_of e.class (classes.Name ∷ [])) es) h).0 (no_name es s (neither (is_one_of e.class (classes.Name ∷ [])) (list_any (λ (e : Entry). is_one_of e.class (classes.Name ∷ [])) es) h).1)
  where
    chosen : (c d : Class) (b : Bool) → is_one_of c (classes.Name ∷ []) ≡ false → is_one_of d (classes.Name ∷ []) ≡ false → is_one_of (if b then c else d) (classes.Name ∷ []) ≡ false
    chosen c d true x y = x
    chosen c d false x y = y

none_among : list_any (λ (e : Entry). is_one_of e.class (classes.Name ∷ [])) punctuators ≡ false
unfolding punctuators
none_among = refl

is_word : (k : TokenKind) (text : List ℕ) (ts : List Token) → is_one_of (token_class k text ts) (classes.Name ∷ []) ≡ true → k ≡ tokens.Word
is_word tokens.Word text ts h = refl
is_word tokens.Punct text ts h = absurd (let never = no_name punctuators text none_among in let none : ⊥ = cc in none)
is_word tokens.Num text ts h = absurd (let none : ⊥ = cc in none)
is_word tokens.Text text ts h = absurd (let none : ⊥ = cc in none)

pub name_key : (ts : List Token) → is classes.Name ts ≡ true → key_at ts ≡ text_of ts
unfolding class_of
name_key [] h = refl
name_key (t ∷ ts) h = let e = is_word t.kind t.text ts h in rw e refl

pub name_is_key : (ts : List Token) → is classes.Name ts ≡ true → kind_passes is_key_kind ts ≡ true
unfolding class_of
name_is_key [] h = absurd (let none : ⊥ = cc in none)
name_is_key (t ∷ ts) h = let e = is_word t.kind t.text ts h in rw e refl

-- ---- the last of several names

all_of : (ns : List Named) (n : Named) → length (names_of ns ++ n.0 ∷ []) ≡ suc (length ns)
all_of [] n = refl
all_of (m ∷ ns) n = ap suc (all_of ns n)

name_behind : (ns : List Named) (n : Named) → slice_get (names_of ns ++ n.0 ∷ []) (length ns) ≡ Some n.0
name_behind [] n = refl
name_behind (m ∷ ns) n = name_behind ns n

place_behind : (ns : List Named) (n : Named) → slice_get (places_of ns ++ n.1 ∷ []) (length ns) ≡ Some n.1
place_behind [] n = refl
place_behind (m ∷ ns) n = place_behind ns n

pub last_of : (ns : List Named) (n : Named) → last_name (names_of ns ++ n.0 ∷ []) (places_of ns ++ n.1 ∷ []) ≡ Some n
last_of ns n = let e : suc (length ns) - 1 ≡ length ns = omega arith in rw (all_of ns n, e, name_behind ns n, place_behind ns n) refl
