-- How many parts the node of an operator has: as many as its kind asks for.
use Rattle.std.proofs.Common.{◌≡◌, ℕ, Bool, true, false, not, ◌&&◌, List, [], ◌∷◌, refl}
use Rattle.js_syntax.specs.declared.kind.Kind.{Kind}
use Rattle.js_syntax.specs.Shape.{shape_of, leaf}
use Rattle.js_lexer.specs.declared.token.Token.{Token}
use Rattle.parser_rules.specs.declared.class.Class.{Class}
use Rattle.parser_rules.specs.declared.class.Class.TheVariants as classes
use Rattle.parser_rules.specs.Classes.{is_one_of}
use Rattle.parser_rules.specs.Rules.{prefix_kind, operator_kind, is_line}
use Rattle.js_grammar.specs.Spots.{among, on_line}
use Rattle.js_grammar.specs.Expressions.{prefix_operators, assignments, steps}

-- each operator of these classes has the kind of a node with so many parts
pub record Make (k : ℕ) (kind_of : Class → Kind) (operators : List Class) : Type 0 where
  pub leaves : (c : Class) → is_one_of c operators ≡ true → shape_of (kind_of c) ≡ leaf k

-- between operands
abbrev pub Join : List Class → Type 0
Join = Make 2 operator_kind

pub products_join : Join (classes.Times ∷ classes.Over ∷ classes.Percent ∷ [])
products_join = record { leaves = each }
  where
    each : (c : Class) → is_one_of c (classes.Times ∷ classes.Over ∷ classes.Percent ∷ []) ≡ true → shape_of (operator_kind c) ≡ leaf 2
    each classes.Times h = refl
    each classes.Over h = refl
    each classes.Percent h = refl
    each _ h = absurd (let no : ⊥ = cc in no)

pub sums_join : Join (classes.Plus ∷ classes.Minus ∷ [])
sums_join = record { leaves = each }
  where
    each : (c : Class) → is_one_of c (classes.Plus ∷ classes.Minus ∷ []) ≡ true → shape_of (operator_kind c) ≡ leaf 2
    each classes.Plus h = refl
    each classes.Minus h = refl
    each _ h = absurd (let no : ⊥ = cc in no)

pub comparisons_join : Join (classes.Less ∷ classes.More ∷ classes.AtMost ∷ classes.AtLeast ∷ [])
comparisons_join = record { leaves = each }
  where
    each : (c : Class) → is_one_of c (classes.Less ∷ classes.More ∷ classes.AtMost ∷ classes.AtLeast ∷ []) ≡ true → shape_of (operator_kind c) ≡ leaf 2
    each classes.Less h = refl
    each classes.More h = refl
    each classes.AtMost h = refl
    each classes.AtLeast h = refl
    each _ h = absurd (let no : ⊥ = cc in no)

pub equalities_join : Join (classes.Same ∷ classes.NotSame ∷ [])
equalities_join = record { leaves = each }
  where
    each : (c : Class) → is_one_of c (classes.Same ∷ classes.NotSame ∷ []) ≡ true → shape_of (operator_kind c) ≡ leaf 2
    each classes.Same h = refl
    each classes.NotSame h = refl
    each _ h = absurd (let no : ⊥ = cc in no)

pub coalescings_join : Join (classes.Coalesce ∷ [])
coalescings_join = record { leaves = each }
  where
    each : (c : Class) → is_one_of c (classes.Coalesce ∷ []) ≡ true → shape_of (operator_kind c) ≡ leaf 2
    each classes.Coalesce h = refl
    each _ h = absurd (let no : ⊥ = cc in no)

pub conjunctions_join : Join (classes.AndAnd ∷ [])
conjunctions_join = record { leaves = each }
  where
    each : (c : Class) → is_one_of c (classes.AndAnd ∷ []) ≡ true → shape_of (operator_kind c) ≡ leaf 2
    each classes.AndAnd h = refl
    each _ h = absurd (let no : ⊥ = cc in no)

pub disjunctions_join : Join (classes.OrOr ∷ [])
disjunctions_join = record { leaves = each }
  where
    each : (c : Class) → is_one_of c (classes.OrOr ∷ []) ≡ true → shape_of (operator_kind c) ≡ leaf 2
    each classes.OrOr h = refl
    each _ h = absurd (let no : ⊥ = cc in no)

pub assignments_join : Join assignments
assignments_join = record { leaves = each }
  where
    each : (c : Class) → is_one_of c assignments ≡ true → shape_of (operator_kind c) ≡ leaf 2
    each classes.Equals h = refl
    each classes.PlusEquals h = refl
    each classes.MinusEquals h = refl
    each classes.TimesEquals h = refl
    each classes.OverEquals h = refl
    each classes.PercentEquals h = refl
    each _ h = absurd (let no : ⊥ = cc in no)

-- ---- at one operand

pub steps_follow : Make 1 operator_kind steps
steps_follow = record { leaves = each }
  where
    each : (c : Class) → is_one_of c steps ≡ true → shape_of (operator_kind c) ≡ leaf 1
    each classes.PlusPlus h = refl
    each classes.MinusMinus h = refl
    each _ h = absurd (let no : ⊥ = cc in no)

pub prefixes_lead : Make 1 prefix_kind prefix_operators
prefixes_lead = record { leaves = each }
  where
    each : (c : Class) → is_one_of c prefix_operators ≡ true → shape_of (prefix_kind c) ≡ leaf 1
    each classes.Not h = refl
    each classes.Minus h = refl
    each classes.Plus h = refl
    each classes.TypeOf h = refl
    each classes.Void h = refl
    each classes.PlusPlus h = refl
    each classes.MinusMinus h = refl
    each _ h = absurd (let no : ⊥ = cc in no)

-- a token that is on its line is of one of the classes
pub of_class : (operators : List Class) (ts : List Token) → on_line operators ts ≡ true → among operators ts ≡ true
of_class operators ts h = left (among operators ts) (not (is_line ts)) h
  where
    left : (a b : Bool) → (a && b) ≡ true → a ≡ true
    left true b h = refl
    left false b h = h
