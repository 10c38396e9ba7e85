-- A token that is of one of some classes is of no other.
use Rattle.std.proofs.Common.{◌≡◌, Bool, true, false, ◌||◌, List, [], ◌∷◌, ◌++◌, inl, inr, refl, sym, ◌∙◌}
use Rattle.std.specs.Prelude.{nat_eq}
use Rattle.std.proofs.lemmas.Bool.{cases_Bool}
use Rattle.js_lexer.specs.declared.token.Token.{Token}
use Rattle.parser_rules.specs.declared.class.Class.{Class}
use Rattle.parser_rules.specs.Classes.{class_of, code, is_one_of}
use Rattle.js_grammar.specs.Spots.{is, among}
use Rattle.js_grammar.proofs.Tests.{among_of}

true_is_not : {a : Bool} → a ≡ true → a ≡ false → ⊥
true_is_not h g = let e : true ≡ false = sym h ∙ g in cc

-- a token that is among some classes is of no class that is not one of them
pub other_of : (d : Class) (cs : List Class) (ts : List Token) → is_one_of d cs ≡ false → among cs ts ≡ true → is d ts ≡ false
other_of d cs ts e h = elim (cases_Bool (is d ts)) [
  | inl g ↦ absurd (true_is_not h (among_of d cs ts g ∙ e))
  | inr g ↦ g
]

either_false : (a b : Bool) → a || false ≡ false → b ≡ false → a || b ≡ false
either_false true b h g = h
either_false false b h g = g

left_false : (a b : Bool) → a || b ≡ false → a || false ≡ false
left_false true b h = h
left_false false b h = refl

right_false : (a b : Bool) → a || b ≡ false → b ≡ false
right_false true b h = absurd (true_is_not refl h)
right_false false b h = h

-- of none of several classes: not of the first, and of none of the others
pub none_of : (c : Class) (cs : List Class) (ts : List Token) → is c ts ≡ false → among cs ts ≡ false → among (c ∷ cs) ts ≡ false
none_of c cs ts h g = either_false (nat_eq (code (class_of ts)) (code c)) (is_one_of (class_of ts) cs) h g

pub not_first : (c : Class) (cs : List Class) (ts : List Token) → among (c ∷ cs) ts ≡ false → is c ts ≡ false
not_first c cs ts h = left_false (nat_eq (code (class_of ts)) (code c)) (is_one_of (class_of ts) cs) h

pub not_others : (c : Class) (cs : List Class) (ts : List Token) → among (c ∷ cs) ts ≡ false → among cs ts ≡ false
not_others c cs ts h = right_false (nat_eq (code (class_of ts)) (code c)) (is_one_of (class_of ts) cs) h

-- a token that is among some classes is among more
pub among_more : (ds cs : List Class) (ts : List Token) → among cs ts ≡ true → among (ds ++ cs) ts ≡ true
among_more [] cs ts h = h
among_more (d ∷ ds) cs ts h = either_true (nat_eq (code (class_of ts)) (code d)) (is_one_of (class_of ts) (ds ++ cs)) (among_more ds cs ts h)
  where
    either_true : (a b : Bool) → b ≡ true → a || b ≡ true
    either_true true b h = refl
    either_true false b h = h
