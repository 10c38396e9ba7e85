-- What tests and actions look at: the token in view.
use Rattle.std.proofs.Common.{◌≡◌, ℕ, List, [], ◌∷◌, Option, None, Some, refl, sym, ap, ◌∙◌}
use Rattle.js_syntax.specs.declared.kind.Kind.{Kind}
use Rattle.js_lexer.specs.declared.token.Token.{Token}
use Rattle.parser_rules.specs.declared.class.Class.{Class}
use Rattle.parser_rules.specs.declared.form.Cover.{Cover}
use Rattle.parser_rules.specs.Classes.{class_of}
use Rattle.parser_rules.specs.Work.{Work, opened, preceded, Part, Frame, preceded_by, closed_in, paired_of, unwrapped_in, shorthand_of, last_name, offered_part, offered_as, bare_name}
use Rattle.parser_rules.specs.Rules.{Test, Action, sees, sees_other, sees_on_line, sees_word, sees_key, sees_nonzero, sees_passing, after_line, may_end, may_be_parameters, must_be_parameters, passes_on, work_after, open_form, open_prefix, precede, precede_operator, close, pair, unwrap, name_it, declare, key, value, shorthand, offer, parameters_only, clear, omit, operator_kind, prefix_kind}

-- the work with these tokens left
abbrev pub put : List Token → Work → Work
put ts w = record w { rest = ts }

-- ---- tests and actions

pub test_same : (test : Test) (q : Token) (x y : List Token) (cover : Cover) → class_of (q ∷ x) ≡ class_of (q ∷ y) → passes_on test (q ∷ x) cover ≡ passes_on test (q ∷ y) cover
test_same (sees cs) q x y cover e = rw e refl
test_same (sees_other cs) q x y cover e = rw e refl
test_same (sees_on_line cs) q x y cover e = rw e refl
test_same sees_word q x y cover e = refl
test_same sees_key q x y cover e = refl
test_same sees_nonzero q x y cover e = refl
test_same sees_passing q x y cover e = refl
test_same after_line q x y cover e = refl
test_same may_end q x y cover e = rw e refl
test_same may_be_parameters q x y cover e = refl
test_same must_be_parameters q x y cover e = refl

preceded_same : (kind : Kind) (ps : List Part) (x y : List Token) (w : Work) → preceded_by kind ps (put y w) ≡ put y (preceded_by kind ps (put x w))
preceded_same kind [] x y w = refl
preceded_same kind (p ∷ ps) x y w = refl

closed_same : (fs : List Frame) (x y : List Token) (w : Work) → closed_in fs (put y w) ≡ put y (closed_in fs (put x w))
closed_same [] x y w = refl
closed_same (f ∷ fs) x y w = refl

paired_same : (kind : Kind) (ps : List Part) (x y : List Token) (w : Work) → paired_of kind ps (put y w) ≡ put y (paired_of kind ps (put x w))
paired_same kind [] x y w = refl
paired_same kind (p ∷ []) x y w = refl
paired_same kind (p ∷ q ∷ ps) x y w = refl

unwrapped_same : (ps : List Part) (fs : List Frame) (x y : List Token) (w : Work) → unwrapped_in ps fs (put y w) ≡ put y (unwrapped_in ps fs (put x w))
unwrapped_same [] fs x y w = refl
unwrapped_same (p ∷ ps) [] x y w = refl
unwrapped_same (p ∷ ps) (f ∷ fs) x y w = refl

shorthand_same : (o : Option (List ℕ × ℕ)) (x y : List Token) (w : Work) → shorthand_of o (put y w) ≡ put y (shorthand_of o (put x w))
shorthand_same None x y w = refl
shorthand_same (Some p) x y w = refl

offered_as_same : (o : Option (List ℕ × ℕ)) (x y : List Token) (w : Work) → offered_as o (put y w) ≡ put y (offered_as o (put x w))
offered_as_same None x y w = refl
offered_as_same (Some p) x y w = refl

offered_same : (ps : List Part) (x y : List Token) (w : Work) → offered_part ps (put y w) ≡ put y (offered_part ps (put x w))
offered_same [] x y w = refl
offered_same (p ∷ ps) x y w = offered_as_same (bare_name p) x y w

-- an action looks at no more than the token in view, and at no more of its class than the operator that it is
pub act_kinds : (action : Action) (q : Token) (x y : List Token) (w : Work) → prefix_kind (class_of (q ∷ x)) ≡ prefix_kind (class_of (q ∷ y)) → operator_kind (class_of (q ∷ x)) ≡ operator_kind (class_of (q ∷ y)) → work_after action (put (q ∷ y) w) ≡ put (q ∷ y) (work_after action (put (q ∷ x) w))
act_kinds (open_form kind) q x y w e f = refl
act_kinds open_prefix q x y w e f = ap (λ (k : Kind). opened k (put (q ∷ y) w)) (sym e)
act_kinds (precede kind) q x y w e f = preceded_same kind w.top.parts (q ∷ x) (q ∷ y) w
act_kinds precede_operator q x y w e f = ap (λ (k : Kind). preceded k (put (q ∷ y) w)) (sym f) ∙ preceded_same (operator_kind (class_of (q ∷ x))) w.top.parts (q ∷ x) (q ∷ y) w
act_kinds close q x y w e f = closed_same w.below (q ∷ x) (q ∷ y) w
act_kinds (pair kind) q x y w e f = paired_same kind w.top.parts (q ∷ x) (q ∷ y) w
act_kinds unwrap q x y w e f = unwrapped_same w.top.parts w.below (q ∷ x) (q ∷ y) w
act_kinds name_it q x y w e f = refl
act_kinds declare q x y w e f = refl
act_kinds key q x y w e f = refl
act_kinds value q x y w e f = refl
act_kinds shorthand q x y w e f = shorthand_same (last_name w.top.names w.top.places) (q ∷ x) (q ∷ y) w
act_kinds offer q x y w e f = offered_same w.top.parts (q ∷ x) (q ∷ y) w
act_kinds parameters_only q x y w e f = refl
act_kinds clear q x y w e f = refl
act_kinds omit q x y w e f = refl

pub act_same : (action : Action) (q : Token) (x y : List Token) (w : Work) → class_of (q ∷ x) ≡ class_of (q ∷ y) → work_after action (put (q ∷ y) w) ≡ put (q ∷ y) (work_after action (put (q ∷ x) w))
act_same action q x y w e = act_kinds action q x y w (ap (λ (c : Class). prefix_kind c) e) (ap (λ (c : Class). operator_kind c) e)
