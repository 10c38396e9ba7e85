-- Expressions by cases.
-- ECMA-262, Expressions; docs/SCRIPTS.md, "Expressions".
use Rattle.std.specs.Prelude.{◌≡◌, List, [], ◌∷◌, map, Option, None, Some}
use Rattle.js_syntax.specs.declared.kind.Kind.TheVariants as kinds
use Rattle.parser_rules.specs.declared.class.Class.{Class}
use Rattle.parser_rules.specs.declared.class.Class.TheVariants.{End, Name, Num, Text, Function, TypeOf, Void, This, Undefined, Null, True, False, New, BraceOpen, BraceClose, ParenOpen, ParenClose, BracketOpen, BracketClose, Dot, Comma, Less, More, AtMost, AtLeast, Same, NotSame, Plus, Minus, Times, Over, Percent, PlusPlus, MinusMinus, Not, AndAnd, OrOr, Coalesce, Question, Colon, Equals, PlusEquals, MinusEquals, TimesEquals, OverEquals, PercentEquals, Arrow}
use Rattle.parser_rules.specs.declared.form.Form.{Form}
use Rattle.parser_rules.specs.declared.form.Form.TheVariants.{Expression, Prefix, Item}
use Rattle.parser_rules.specs.Classes.{class_of}
use Rattle.parser_rules.specs.Work.{Part, bare_name}
use Rattle.parser_rules.specs.Rules.{kind_passes, is_word_kind, is_key_kind, prefix_kind, operator_kind}
use Rattle.js_grammar.specs.Spots.{Spot, Reading, Tail, Named, is, among, other_than, on_line, Sees, SeesNot, Takes, named_at, keyed_at, number_of, one_more, node, node_from, with_name, with_name_if_any, with_names, with_value, name_node, from_paren, Many, Followed, Chain, Then, Nothing}

-- ---- sets of tokens

abbrev pub prefix_operators : List Class
prefix_operators = Not ∷ Minus ∷ Plus ∷ TypeOf ∷ Void ∷ PlusPlus ∷ MinusMinus ∷ []

abbrev pub assignments : List Class
assignments = Equals ∷ PlusEquals ∷ MinusEquals ∷ TimesEquals ∷ OverEquals ∷ PercentEquals ∷ []

abbrev pub steps : List Class
steps = PlusPlus ∷ MinusMinus ∷ []

-- ---- names

-- a name that is declared here
pub data Declares : Spot → Named → Spot → Type 0 where
  declares : {p q : Spot} → Takes (is Name) p q → Declares p (named_at p) q

pub data NameIfAny : Spot → Option Named → Spot → Type 0 where
  named : {p q : Spot} → Takes (is Name) p q → NameIfAny p (Some (named_at p)) q
  unnamed : {p : Spot} → SeesNot (is Name) p → NameIfAny p None p

-- FormalParameters, without defaults and patterns: names, with a `,` between and maybe behind them
pub data Parameters : Spot → List Named → Spot → Type 0 where
  parameters : {p a b q : Spot} {ns : List Named} → Takes (is ParenOpen) p a → Many (is Name) (Followed (is Comma) (is ParenClose) Declares) a ns b → Takes (is ParenClose) b q → Parameters p ns q

-- `inside` reads what stands one level further inside
module _ (inside : Form → Reading Part) where
  -- ---- lists

  -- expressions with a `,` between and maybe behind them, up to what closes them, which is read
  -- too: ArgumentList and ElementList, without spreads and holes
  pub data Elements (closing : Class) : Spot → List Part → Spot → Type 0 where
    elements : {p a q : Spot} {xs : List Part} → Many (other_than (closing ∷ [])) (Followed (is Comma) (is closing) (inside Expression)) p xs a → Takes (is closing) a q → Elements closing p xs q

  pub data CommaBehind : Part → Spot → Part → Spot → Type 0 where
    comma_behind : {x y : Part} {p a q : Spot} → Takes (is Comma) p a → inside Expression a y q → CommaBehind x p (node_from kinds.Comma x (x ∷ y ∷ []) q) (one_more q)

  -- Expression: one, or several with `,` between
  pub data ExpressionList : Spot → Part → Spot → Type 0 where
    expression_list : {p a q : Spot} {x y : Part} → inside Expression p x a → Chain (is Comma) CommaBehind x a y q → ExpressionList p y q

  -- StatementList, up to a `}` or the end
  abbrev pub Items : Spot → List Part → Spot → Type 0
  Items = Many (other_than (BraceClose ∷ End ∷ [])) (inside Item)

  -- ---- functions

  -- FunctionBody
  pub data Body : Spot → Part → Spot → Type 0 where
    body : {p a b q : Spot} {xs : List Part} → Takes (is BraceOpen) p a → Items a xs b → Takes (is BraceClose) b q → Body p (node kinds.Body p xs q) (one_more q)

  -- FunctionExpression
  pub data FunctionExpression : Spot → Part → Spot → Type 0 where
    function_expression : {p a b c q : Spot} {o : Option Named} {ns : List Named} {x : Part} →
        Takes (is Function) p a → NameIfAny a o b → Parameters b ns c → Body c x q →
        FunctionExpression p (with_name_if_any o (with_names ns (node kinds.FunctionExpr p (x ∷ []) q))) (one_more q)

  -- ConciseBody
  pub data ConciseBody : Spot → Part → Spot → Type 0 where
    braces : {p q : Spot} {x : Part} → Body p x q → ConciseBody p x q
    concise : {p q : Spot} {x : Part} → SeesNot (is BraceOpen) p → inside Expression p x q → ConciseBody p x q

  -- The names between the parentheses of an arrow function. Each is read as an expression that is
  -- nothing but a name, and each `,` between them as an operator.
  pub data MoreNames : Spot → List Named → Spot → Type 0 where
    last_name : {p : Spot} → Sees (is ParenClose) p → MoreNames p [] p
    comma_behind_names : {p q : Spot} → Takes (is Comma) p q → Sees (is ParenClose) q → MoreNames p [] q
    further_name : {p a b q : Spot} {x : Part} {n : Named} {ns : List Named} →
        Takes (is Comma) p a → inside Expression a x b → bare_name x ≡ Some n → MoreNames (one_more b) ns q → MoreNames p (n ∷ ns) q

  pub data ArrowNames : Spot → List Named → Spot → Type 0 where
    no_names : {p : Spot} → Sees (is ParenClose) p → ArrowNames p [] p
    some_names : {p a q : Spot} {x : Part} {n : Named} {ns : List Named} →
        inside Expression p x a → bare_name x ≡ Some n → MoreNames a ns q → ArrowNames p (n ∷ ns) q

  -- ArrowParameters: one name, or names in parentheses
  pub data ArrowParameters : Spot → List Named → Spot → Type 0 where
    one_name : {p q : Spot} → Takes (is Name) p q → ArrowParameters p (named_at p ∷ []) (one_more q)
    names_in_parentheses : {p a b q : Spot} {ns : List Named} → Takes (is ParenOpen) p a → ArrowNames a ns b → Takes (is ParenClose) b q → ArrowParameters p ns q

  -- ArrowFunction; no line terminator stands before the `=>`
  pub data ArrowFunction : Spot → Part → Spot → Type 0 where
    arrow_function : {p a b q : Spot} {ns : List Named} {x : Part} →
        ArrowParameters p ns a → Takes (on_line (Arrow ∷ [])) a b → ConciseBody b x q →
        ArrowFunction p (with_names ns (node kinds.Arrow p (x ∷ []) q)) (one_more q)

  -- ---- operands

  -- PropertyDefinition: `x`, or a key with its value
  pub data Property : Spot → Named × Part → Spot → Type 0 where
    shorthand : {p a : Spot} → Takes (is Name) p a → SeesNot (is Colon) a → Property p (named_at p, name_node p a) (one_more a)
    with_key : {p a b q : Spot} {x : Part} → Takes (kind_passes is_key_kind) p a → Takes (is Colon) a b → inside Expression b x q → Property p (keyed_at p, x) q

  -- PrimaryExpression, but names and parentheses
  pub data Primary : Spot → Part → Spot → Type 0 where
    number : {p q : Spot} → Takes (is Num) p q → Primary p (with_value (number_of p.rest) (node kinds.Num p [] q)) (one_more q)
    text : {p q : Spot} → Takes (is Text) p q → Primary p (with_name (named_at p) (node kinds.Text p [] q)) (one_more q)
    this : {p q : Spot} → Takes (is This) p q → Primary p (node kinds.This p [] q) (one_more q)
    undefined : {p q : Spot} → Takes (is Undefined) p q → Primary p (node kinds.Undefined p [] q) (one_more q)
    null : {p q : Spot} → Takes (is Null) p q → Primary p (node kinds.Null p [] q) (one_more q)
    true_word : {p q : Spot} → Takes (is True) p q → Primary p (node kinds.True p [] q) (one_more q)
    false_word : {p q : Spot} → Takes (is False) p q → Primary p (node kinds.False p [] q) (one_more q)
    -- ArrayLiteral
    array : {p a q : Spot} {xs : List Part} → Takes (is BracketOpen) p a → Elements BracketClose a xs q → Primary p (node kinds.Array p xs q) (one_more q)
    -- ObjectLiteral
    object : {p a b q : Spot} {ps : List (Named × Part)} →
        Takes (is BraceOpen) p a → Many (other_than (BraceClose ∷ [])) (Followed (is Comma) (is BraceClose) Property) a ps b → Takes (is BraceClose) b q →
        Primary p (with_names (map (λ (e : Named × Part). e.0) ps) (node kinds.Object p (map (λ (e : Named × Part). e.1) ps) q)) (one_more q)
    function : {p q : Spot} {x : Part} → FunctionExpression p x q → Primary p x q
    -- `new N(args)`, for the constructors that a script can name
    construction : {p a b c q : Spot} {xs : List Part} →
        Takes (is New) p a → Takes (kind_passes is_word_kind) a b → Takes (is ParenOpen) b c → Elements ParenClose c xs q →
        Primary p (with_name (named_at a) (node kinds.New p xs q)) (one_more q)

  -- what calls, members and operators behind it may follow
  pub data Simple : Spot → Part → Spot → Type 0 where
    parentheses : {p a b q : Spot} {x : Part} → Takes (is ParenOpen) p a → ExpressionList a x b → Takes (is ParenClose) b q → Simple p (from_paren p x) q
    name : {p q : Spot} → Takes (is Name) p q → Simple p (name_node p q) (one_more q)
    primary : {p q : Spot} {x : Part} → Primary p x q → Simple p x q

  -- ---- behind an operand

  pub data Access : Part → Spot → Part → Spot → Type 0 where
    member : {x : Part} {p a q : Spot} → Takes (is Dot) p a → Takes (kind_passes is_word_kind) a q → Access x p (with_name (named_at a) (node_from kinds.Member x (x ∷ []) q)) (one_more q)
    index : {x y : Part} {p a b q : Spot} → Takes (is BracketOpen) p a → ExpressionList a y b → Takes (is BracketClose) b q → Access x p (node_from kinds.Index x (x ∷ y ∷ []) q) (one_more q)
    call : {x : Part} {ys : List Part} {p a q : Spot} → Takes (is ParenOpen) p a → Elements ParenClose a ys q → Access x p (node_from kinds.Call x (x ∷ ys) q) (one_more q)

  -- MemberExpression and CallExpression
  abbrev pub Calls : Tail
  Calls = Chain (among (Dot ∷ BracketOpen ∷ ParenOpen ∷ [])) Access

  -- UpdateExpression: no line terminator stands before the operator
  pub data Postfix : Part → Spot → Part → Spot → Type 0 where
    stepped : {x : Part} {p q : Spot} → Takes (on_line steps) p q → Postfix x p (node_from (operator_kind (class_of p.rest)) x (x ∷ []) q) (one_more q)
    not_stepped : {x : Part} {p : Spot} → SeesNot (on_line steps) p → Postfix x p x p

  -- UnaryExpression; an operator before its operand is a level of its own
  pub data Operand : Spot → Part → Spot → Type 0 where
    prefixed : {p q : Spot} {x : Part} → Sees (among prefix_operators) p → inside Prefix p x q → Operand p x q
    called : {p a b q : Spot} {x y z : Part} → Simple p x a → Calls x a y b → Postfix y b z q → Operand p z q

  -- an operator before its operand
  pub data PrefixForm : Spot → Part → Spot → Type 0 where
    prefix : {p a q : Spot} {x : Part} → Takes (among prefix_operators) p a → Operand a x q → PrefixForm p (node (prefix_kind (class_of p.rest)) p (x ∷ []) q) (one_more q)

  -- ---- operators between operands

  -- an operator, and its right operand, behind which `Tighter` reads what binds tighter
  pub data RightOperand (operators : List Class) (Tighter : Tail) : Part → Spot → Part → Spot → Type 0 where
    right_operand : {x y z : Part} {p a b q : Spot} → Takes (among operators) p a → Operand a y b → Tighter y b z q →
        RightOperand operators Tighter x p (node_from (operator_kind (class_of p.rest)) x (x ∷ z ∷ []) q) (one_more q)

  -- a level of operators, which lean to the left
  abbrev pub Level : List Class → Tail → Tail
  Level operators Tighter = Chain (among operators) (RightOperand operators Tighter)

  -- Each level as what may stand behind its first operand: MultiplicativeExpression,
  abbrev pub Products : Tail
  Products = Level (Times ∷ Over ∷ Percent ∷ []) Nothing

  -- AdditiveExpression,
  abbrev pub Sums : Tail
  Sums = Then Products (Level (Plus ∷ Minus ∷ []) Products)

  -- RelationalExpression,
  abbrev pub Comparisons : Tail
  Comparisons = Then Sums (Level (Less ∷ More ∷ AtMost ∷ AtLeast ∷ []) Sums)

  -- EqualityExpression,
  abbrev pub Equalities : Tail
  Equalities = Then Comparisons (Level (Same ∷ NotSame ∷ []) Comparisons)

  -- CoalesceExpression, whose operands are without `&&` and `||`,
  abbrev pub Coalescings : Tail
  Coalescings = Level (Coalesce ∷ []) Equalities

  -- LogicalANDExpression,
  abbrev pub Conjunctions : Tail
  Conjunctions = Level (AndAnd ∷ []) Equalities

  -- LogicalORExpression,
  abbrev pub Disjunctions : Tail
  Disjunctions = Level (OrOr ∷ []) (Then Equalities Conjunctions)

  -- ShortCircuitExpression: `??` does not mix with `&&` and `||`
  pub data ShortCircuit : Part → Spot → Part → Spot → Type 0 where
    coalescing : {x y z : Part} {p a q : Spot} → Equalities x p y a → Sees (is Coalesce) a → Coalescings y a z q → ShortCircuit x p z q
    logical : {x y z u : Part} {p a b q : Spot} → Equalities x p y a → SeesNot (is Coalesce) a → Conjunctions y a z b → Disjunctions z b u q → ShortCircuit x p u q

  -- ConditionalExpression
  pub data Conditional : Part → Spot → Part → Spot → Type 0 where
    choice : {x c y z : Part} {p a b d e q : Spot} → ShortCircuit x p c a → Takes (is Question) a b → inside Expression b y d → Takes (is Colon) d e → inside Expression e z q →
        Conditional x p (node_from kinds.Cond c (c ∷ y ∷ z ∷ []) q) (one_more q)
    no_choice : {x y : Part} {p q : Spot} → ShortCircuit x p y q → SeesNot (is Question) q → Conditional x p y q

  -- AssignmentExpression, behind what calls and members may follow: only that may stand to the left
  -- of `=`
  pub data Assignment : Part → Spot → Part → Spot → Type 0 where
    assigned : {x y : Part} {p a q : Spot} → Takes (among assignments) p a → inside Expression a y q → Assignment x p (node_from (operator_kind (class_of p.rest)) x (x ∷ y ∷ []) q) (one_more q)
    not_assigned : {x y z : Part} {p a q : Spot} → SeesNot (among assignments) p → Postfix x p y a → Conditional y a z q → Assignment x p z q

  -- ---- expressions

  -- What was read up to here are no parameters in front of a `=>`.
  abbrev pub NoArrow : Spot → Spot → Type 0
  NoArrow p a = (ns : List Named) → ArrowParameters p ns a → SeesNot (on_line (Arrow ∷ [])) a

  -- an expression without `,`
  pub data ExpressionForm : Spot → Part → Spot → Type 0 where
    arrow : {p q : Spot} {x : Part} → ArrowFunction p x q → ExpressionForm p x q
    prefix_first : {p a q : Spot} {x y : Part} → Sees (among prefix_operators) p → inside Prefix p x a → Conditional x a y q → ExpressionForm p y q
    simple_first : {p a b q : Spot} {x y z : Part} → Simple p x a → NoArrow p a → Calls x a y b → Assignment y b z q → ExpressionForm p z q
