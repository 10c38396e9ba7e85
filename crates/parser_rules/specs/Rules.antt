-- Rules, as lists of steps, and what a rule does with tokens: one token of view decides.
-- This project's own, in the manner of ECMA-262's Grammar Notation; docs/SCRIPTS.md, "How the
-- grammar is written".
use Rattle.std.specs.Prelude.{◌≡◌, ℕ, zero, suc, ℤ, pos, codes, Bool, true, false, not, ◌&&◌, ◌||◌, List, [], ◌∷◌, length, if◌then◌else◌}
use Rattle.std.specs.Ordering.{int_eq}
use Rattle.js_syntax.specs.declared.kind.Kind.{Kind}
use Rattle.js_syntax.specs.declared.kind.Kind.TheVariants as kinds
use Rattle.js_lexer.specs.declared.token.Token.{Token}
use Rattle.js_lexer.specs.declared.token.TokenKind.{TokenKind}
use Rattle.js_lexer.specs.declared.token.TokenKind.TheVariants as tokens
use Rattle.parser_rules.specs.declared.class.Class.{Class}
use Rattle.parser_rules.specs.declared.class.Class.TheVariants as classes
use Rattle.parser_rules.specs.declared.form.Form.{Form}
use Rattle.parser_rules.specs.declared.form.Cover.{Cover}
use Rattle.parser_rules.specs.declared.form.Cover.TheVariants as covers
use Rattle.parser_rules.specs.declared.form.Why.{Why}
use Rattle.parser_rules.specs.declared.form.Why.TheVariants.{Unexpected}
use Rattle.parser_rules.specs.Classes.{class_of, is_one_of, is_among}
use Rattle.parser_rules.specs.Work.{Work, State, going, stuck, is_number, opened, preceded, closed, paired, unwrapped, named_by, declared_by, keyed_by, valued_by, shorthanded, offered, only_parameters, cleared, omitted}

-- ---- the words of rules

-- a question about the token in view, or about what has been read
pub data Test : Type 0 where
  -- the token in view is of one of these classes
  sees : List Class → Test
  -- it is of none of them
  sees_other : List Class → Test
  -- it is of one of them, and no line terminator stands before it
  sees_on_line : List Class → Test
  -- it is a word, reserved or not
  sees_word : Test
  -- it is a word, a string or a number
  sees_key : Test
  -- it is a number, and not 0
  sees_nonzero : Test
  -- it is a word that says what an argument passes
  sees_passing : Test
  -- a line terminator stands before it
  after_line : Test
  -- a statement may end before it without a `;`: it is `}`, or the end, or a line terminator stands
  -- before it
  may_end : Test
  -- what was read behind a `(` may be parameters
  may_be_parameters : Test
  -- it can be nothing else
  must_be_parameters : Test

-- what becomes of the forms that are open
pub data Action : Type 0 where
  open_form : Kind → Action
  -- the kind is that of the operator in view
  open_prefix : Action
  precede : Kind → Action
  precede_operator : Action
  close : Action
  pair : Kind → Action
  unwrap : Action
  name_it : Action
  declare : Action
  key : Action
  value : Action
  shorthand : Action
  offer : Action
  parameters_only : Action
  clear : Action
  omit : Action

infixl 10 ◌▸◌
pub data Rule : Type 0 where
  nothing_more : Rule
  -- the token in view has to pass the test, and is taken
  take : Test → Rule
  act : Action → Rule
  -- what stands one level further inside
  inside : Form → Rule
  -- the first, and then the second
  ◌▸◌ : Rule → Rule → Rule
  -- the first where the test is passed, and else the second
  either : Test → Rule → Rule → Rule
  -- the rule again and again, as long as the test is passed
  many : Test → Rule → Rule
  -- the token in view cannot stand here
  refuse : Rule

-- ---- tests

abbrev pub is_line : List Token → Bool
is_line [] = false
is_line (t ∷ ts) = t.after_line

abbrev pub is_word_kind : TokenKind → Bool
is_word_kind tokens.Word = true
is_word_kind _ = false

abbrev pub is_key_kind : TokenKind → Bool
is_key_kind tokens.Punct = false
is_key_kind _ = true

-- what an argument may pass beside plain copies
unfoldable pub passing_words : List (List ℕ)
passing_words = codes "ref" ∷ codes "deref" ∷ codes "copy" ∷ codes "into" ∷ codes "callback" ∷ []

abbrev pub is_nonzero : List Token → Bool
is_nonzero [] = false
is_nonzero (t ∷ ts) = is_number t.kind && not (int_eq t.number (pos 0))

abbrev pub is_passing : List Token → Bool
is_passing [] = false
is_passing (t ∷ ts) = is_word_kind t.kind && is_among passing_words t.text

abbrev pub kind_passes : (TokenKind → Bool) → List Token → Bool
kind_passes test [] = false
kind_passes test (t ∷ ts) = test t.kind

abbrev pub is_names : Cover → Bool
is_names covers.Names = true
is_names covers.Expressions = false
is_names covers.Parameters = false

abbrev pub is_parameters : Cover → Bool
is_parameters covers.Names = false
is_parameters covers.Expressions = false
is_parameters covers.Parameters = true

abbrev pub ends_statement : List Token → Bool
ends_statement ts = is_one_of (class_of ts) (classes.BraceClose ∷ classes.End ∷ []) || is_line ts

abbrev pub passes_on : Test → List Token → Cover → Bool
passes_on (sees cs) ts cover = is_one_of (class_of ts) cs
passes_on (sees_other cs) ts cover = not (is_one_of (class_of ts) cs)
passes_on (sees_on_line cs) ts cover = is_one_of (class_of ts) cs && not (is_line ts)
passes_on sees_word ts cover = kind_passes is_word_kind ts
passes_on sees_key ts cover = kind_passes is_key_kind ts
passes_on sees_nonzero ts cover = is_nonzero ts
passes_on sees_passing ts cover = is_passing ts
passes_on after_line ts cover = is_line ts
passes_on may_end ts cover = ends_statement ts
passes_on may_be_parameters ts cover = is_names cover
passes_on must_be_parameters ts cover = is_parameters cover

-- nothing is passed where reading stands
unfoldable pub passes : Test → State → Bool
passes test (going w) = passes_on test w.rest w.top.cover
passes test (stuck why ts) = false

-- ---- actions

abbrev pub prefix_kind : Class → Kind
prefix_kind classes.Not = kinds.Not
prefix_kind classes.Minus = kinds.Minus
prefix_kind classes.Plus = kinds.Plus
prefix_kind classes.TypeOf = kinds.TypeOf
prefix_kind classes.Void = kinds.Void
prefix_kind classes.PlusPlus = kinds.PreInc
prefix_kind classes.MinusMinus = kinds.PreDec
prefix_kind _ = kinds.Absent

-- operators that stand between operands, and those behind one
abbrev pub operator_kind : Class → Kind
operator_kind classes.Equals = kinds.Assign
operator_kind classes.PlusEquals = kinds.AssignAdd
operator_kind classes.MinusEquals = kinds.AssignSub
operator_kind classes.TimesEquals = kinds.AssignMul
operator_kind classes.OverEquals = kinds.AssignDiv
operator_kind classes.PercentEquals = kinds.AssignRem
operator_kind classes.Coalesce = kinds.Coalesce
operator_kind classes.OrOr = kinds.Or
operator_kind classes.AndAnd = kinds.And
operator_kind classes.Same = kinds.Same
operator_kind classes.NotSame = kinds.NotSame
operator_kind classes.Less = kinds.Less
operator_kind classes.More = kinds.More
operator_kind classes.AtMost = kinds.AtMost
operator_kind classes.AtLeast = kinds.AtLeast
operator_kind classes.Plus = kinds.Add
operator_kind classes.Minus = kinds.Sub
operator_kind classes.Times = kinds.Mul
operator_kind classes.Over = kinds.Div
operator_kind classes.Percent = kinds.Rem
operator_kind classes.PlusPlus = kinds.PostInc
operator_kind classes.MinusMinus = kinds.PostDec
operator_kind _ = kinds.Absent

abbrev pub work_after : Action → Work → Work
work_after (open_form kind) w = opened kind w
work_after open_prefix w = opened (prefix_kind (class_of w.rest)) w
work_after (precede kind) w = preceded kind w
work_after precede_operator w = preceded (operator_kind (class_of w.rest)) w
work_after close w = closed w
work_after (pair kind) w = paired kind w
work_after unwrap w = unwrapped w
work_after name_it w = named_by w.rest w
work_after declare w = declared_by w.rest w
work_after key w = keyed_by w.rest w
work_after value w = valued_by w.rest w
work_after shorthand w = shorthanded w
work_after offer w = offered w
work_after parameters_only w = only_parameters w
work_after clear w = cleared w
work_after omit w = omitted w

unfoldable pub after : Action → State → State
after action (going w) = going (work_after action w)
after action (stuck why ts) = stuck why ts

-- ---- tokens

abbrev pub taken : List Token → Work → State
taken [] w = stuck Unexpected []
taken (t ∷ ts) w = going (record w { rest = ts })

unfoldable pub take_one : Test → State → State
take_one test (going w) = if passes_on test w.rest w.top.cover then taken w.rest w else stuck Unexpected w.rest
take_one test (stuck why ts) = stuck why ts

unfoldable pub refused : State → State
refused (going w) = stuck Unexpected w.rest
refused (stuck why ts) = stuck why ts

-- n bounds the turns
unfoldable pub turns : ℕ → (State → Bool) → (State → State) → State → State
turns zero test turn s = s
turns (suc n) test turn s = if test s then turns n test turn (turn s) else s

-- how often reading can still go on: once for each token that is left, and once to stand still
abbrev pub left : State → ℕ
left (going w) = suc (length w.rest)
left (stuck why ts) = 0

-- each turn takes a token, so there are no more turns than that
unfoldable pub repeated : (State → Bool) → (State → State) → State → State
repeated test turn s = turns (left s) test turn s

-- what a rule does, where `at` does what stands one level further inside
abbrev pub run : (Form → State → State) → Rule → State → State
run at nothing_more s = s
run at (take test) s = take_one test s
run at (act action) s = after action s
run at (inside form) s = at form s
run at (first ▸ second) s = run at second (run at first s)
run at (either test first second) s = if passes test s then run at first s else run at second s
run at (many test rule) s = repeated (passes test) (run at rule) s
run at refuse s = refused s
