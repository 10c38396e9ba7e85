-- The tests of rules are tests of the tokens in view, and a token is of one class.
use Rattle.std.proofs.Common.{◌≡◌, ℕ, Bool, true, false, ◌||◌, List, [], ◌∷◌, refl, ap}
use Rattle.std.specs.Prelude.{nat_eq}
use Rattle.std.specs.List.{list_any}
use Rattle.std.proofs.lemmas.Bool.{eqb-true}
use Rattle.js_lexer.specs.declared.token.Token.{Token}
use Rattle.parser_rules.specs.declared.class.Class.{Class}
use Rattle.parser_rules.specs.Classes.{class_of, code, is_one_of}
use Rattle.parser_rules.specs.Rules.{sees, sees_other, sees_on_line, sees_word, sees_key, sees_nonzero, sees_passing, after_line, may_end, is_line, ends_statement, kind_passes, is_word_kind, is_key_kind, is_nonzero, is_passing}
use Rattle.js_grammar.specs.Spots.{is, among, other_than, on_line}
use Rattle.js_grammar.proofs.Same.{Asks}

pub asks_sees : (cs : List Class) → Asks (sees cs) (among cs)
asks_sees cs = record { asks = λ ts cover. refl }

pub asks_other : (cs : List Class) → Asks (sees_other cs) (other_than cs)
asks_other cs = record { asks = λ ts cover. refl }

pub asks_on_line : (cs : List Class) → Asks (sees_on_line cs) (on_line cs)
asks_on_line cs = record { asks = λ ts cover. refl }

pub asks_word : Asks sees_word (kind_passes is_word_kind)
asks_word = record { asks = λ ts cover. refl }

pub asks_key : Asks sees_key (kind_passes is_key_kind)
asks_key = record { asks = λ ts cover. refl }

pub asks_nonzero : Asks sees_nonzero is_nonzero
asks_nonzero = record { asks = λ ts cover. refl }

pub asks_passing : Asks sees_passing is_passing
asks_passing = record { asks = λ ts cover. refl }

pub asks_line : Asks after_line is_line
asks_line = record { asks = λ ts cover. refl }

pub asks_end : Asks may_end ends_statement
asks_end = record { asks = λ ts cover. refl }

-- the code of the token in view, where it is of one class
only_code : (m : ℕ) (c : Class) → list_any (λ (d : Class). nat_eq m (code d)) (c ∷ []) ≡ true → m ≡ code c
only_code m c h = one (nat_eq m (code c)) refl h
  where
    one : (b : Bool) → nat_eq m (code c) ≡ b → b || false ≡ true → m ≡ code c
    one true e h = eqb-true m (code c) e
    one false e h = absurd (let none : ⊥ = cc in none)

-- a token of one class is among others exactly where that class is
pub among_of : (c : Class) (cs : List Class) (ts : List Token) → is c ts ≡ true → among cs ts ≡ is_one_of c cs
among_of c cs ts h = ap (λ (m : ℕ). list_any (λ (d : Class). nat_eq m (code d)) cs) (only_code (code (class_of ts)) c h)
