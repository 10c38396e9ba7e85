-- Statements and declarations by cases.
-- ECMA-262, Statements and Declarations; Automatic Semicolon Insertion; docs/SCRIPTS.md,
-- "Statements".
use Rattle.std.specs.Prelude.{List, [], ◌∷◌, map, Option, None, Some}
use Rattle.js_syntax.specs.declared.kind.Kind.{Kind}
use Rattle.js_syntax.specs.declared.kind.Kind.TheVariants as kinds
use Rattle.parser_rules.specs.declared.class.Class.{Class}
use Rattle.parser_rules.specs.declared.class.Class.TheVariants.{End, Name, Num, Text, Let, Const, Function, If, Else, While, For, Break, Continue, Return, Throw, Try, Catch, Finally, TypeOf, Void, This, Undefined, Null, True, False, New, BraceOpen, BraceClose, ParenOpen, ParenClose, BracketOpen, Semicolon, Comma, Plus, Minus, PlusPlus, MinusMinus, Not, Equals}
use Rattle.parser_rules.specs.declared.form.Form.{Form}
use Rattle.parser_rules.specs.declared.form.Form.TheVariants as forms
use Rattle.parser_rules.specs.Work.{Part}
use Rattle.parser_rules.specs.Rules.{is_line, ends_statement}
use Rattle.js_grammar.specs.Spots.{Spot, Reading, Named, is, among, Sees, SeesNot, Takes, named_at, one_more, node, with_name, with_name_if_any, with_names, absent, Many}
use Rattle.js_grammar.specs.Expressions.{Declares, Parameters, ExpressionList, Items, Body}

-- what an ExpressionStatement begins with: neither `{` nor `function`
abbrev pub begins_expression_statement : List Class
begins_expression_statement =
    Name ∷ Num ∷ Text ∷ This ∷ Undefined ∷ Null ∷ True ∷ False ∷ New ∷ ParenOpen ∷ BracketOpen ∷ Not ∷ Minus ∷ Plus ∷ TypeOf ∷ Void ∷ PlusPlus ∷ MinusMinus ∷ []

-- The end of a statement: `;`, or nothing where no `;` comes: in front of `}`, at the end of the
-- text, and where a line terminator stands before the token in view. That token continues nothing,
-- since each form is read as far as it goes.
pub data Ends : Spot → Spot → Type 0 where
  semicolon : {p q : Spot} → Takes (is Semicolon) p q → Ends p q
  nothing_there : {p : Spot} → SeesNot (is Semicolon) p → Sees ends_statement p → Ends p p

-- a `break` or `continue` ends at a line terminator, also in front of a `;`
pub data JumpEnds : Spot → Spot → Type 0 where
  line_end : {p : Spot} → Sees is_line p → JumpEnds p p
  on_its_line : {p q : Spot} → SeesNot is_line p → Ends p q → JumpEnds p q

-- `inside` reads what stands one level further inside
module _ (inside : Form → Reading Part) where
  -- ---- declarations

  -- LexicalBinding of `let`, without patterns
  pub data LetBinding : Spot → Named × Part → Spot → Type 0 where
    with_initialiser : {p a b q : Spot} {n : Named} {x : Part} → Declares p n a → Takes (is Equals) a b → inside forms.Expression b x q → LetBinding p (n, x) q
    without_initialiser : {p q : Spot} {n : Named} → Declares p n q → SeesNot (is Equals) q → LetBinding p (n, absent q) (one_more q)

  -- a constant has its value at once
  pub data ConstBinding : Spot → Named × Part → Spot → Type 0 where
    const_binding : {p a b q : Spot} {n : Named} {x : Part} → Declares p n a → Takes (is Equals) a b → inside forms.Expression b x q → ConstBinding p (n, x) q

  pub data FurtherBinding (Binding : Reading (Named × Part)) : Spot → Named × Part → Spot → Type 0 where
    further_binding : {p a q : Spot} {b : Named × Part} → Takes (is Comma) p a → Binding a b q → FurtherBinding Binding p b q

  -- LexicalDeclaration, without its end: the word, and one or more bindings with `,` between
  pub data Bindings (word : Class) (Binding : Reading (Named × Part)) : Spot → List (Named × Part) → Spot → Type 0 where
    bindings : {p a b q : Spot} {x : Named × Part} {xs : List (Named × Part)} → Takes (is word) p a → Binding a x b → Many (is Comma) (FurtherBinding Binding) b xs q → Bindings word Binding p (x ∷ xs) q

  abbrev pub Lets : Spot → List (Named × Part) → Spot → Type 0
  Lets = Bindings Let LetBinding

  abbrev pub Consts : Spot → List (Named × Part) → Spot → Type 0
  Consts = Bindings Const ConstBinding

  -- the node of a declaration that ends at a spot
  abbrev pub declared : Kind → Spot → List (Named × Part) → Spot → Part
  declared kind p xs q = with_names (map (λ (e : Named × Part). e.0) xs) (node kind p (map (λ (e : Named × Part). e.1) xs) q)

  -- ---- parts of statements

  -- a condition in parentheses
  pub data Condition : Spot → Part → Spot → Type 0 where
    condition : {p a b q : Spot} {x : Part} → Takes (is ParenOpen) p a → ExpressionList inside a x b → Takes (is ParenClose) b q → Condition p x q

  -- an `else` belongs to the nearest `if` that can take it: that one takes it where it stands
  pub data Alternative : Spot → Part → Spot → Type 0 where
    else_branch : {p a q : Spot} {x : Part} → Takes (is Else) p a → inside forms.Statement a x q → Alternative p x q
    no_else : {p : Spot} → SeesNot (is Else) p → Alternative p (absent p) (one_more p)

  -- an expression, or nothing in front of a token of this class
  pub data ExpressionBefore (closing : Class) : Spot → Part → Spot → Type 0 where
    nothing_before : {p : Spot} → Sees (is closing) p → ExpressionBefore closing p (absent p) (one_more p)
    expression_before : {p q : Spot} {x : Part} → SeesNot (is closing) p → ExpressionList inside p x q → ExpressionBefore closing p x q

  -- what a `for` begins with
  pub data ForStart : Spot → Part → Spot → Type 0 where
    for_let : {p q : Spot} {xs : List (Named × Part)} → Lets p xs q → ForStart p (declared kinds.Let p xs q) (one_more q)
    for_const : {p q : Spot} {xs : List (Named × Part)} → Consts p xs q → ForStart p (declared kinds.Const p xs q) (one_more q)
    for_expression : {p q : Spot} {x : Part} → SeesNot (among (Let ∷ Const ∷ [])) p → ExpressionBefore Semicolon p x q → ForStart p x q

  -- what stands behind `return`: nothing in front of `;`, `}` and the end, and behind a line
  -- terminator, which ends the statement
  pub data Returned : Spot → Part → Spot → Type 0 where
    line_behind : {p : Spot} → Sees is_line p → Returned p (absent p) (one_more p)
    nothing_returned : {p q : Spot} → SeesNot is_line p → Sees (among (Semicolon ∷ BraceClose ∷ End ∷ [])) p → Ends (one_more p) q → Returned p (absent p) q
    value_returned : {p a q : Spot} {x : Part} → SeesNot is_line p → SeesNot (among (Semicolon ∷ BraceClose ∷ End ∷ [])) p → ExpressionList inside p x a → Ends a q → Returned p x q

  -- CatchParameter, which may be missing
  pub data CatchName : Spot → Option Named → Spot → Type 0 where
    caught : {p a b q : Spot} → Takes (is ParenOpen) p a → Takes (is Name) a b → Takes (is ParenClose) b q → CatchName p (Some (named_at a)) q
    nothing_caught : {p : Spot} → SeesNot (is ParenOpen) p → CatchName p None p

  pub data Finaliser : Spot → Part → Spot → Type 0 where
    finaliser : {p a q : Spot} {x : Part} → Takes (is Finally) p a → inside forms.Block a x q → Finaliser p x q

  pub data FinaliserIfAny : Spot → Part → Spot → Type 0 where
    some_finaliser : {p q : Spot} {x : Part} → Finaliser p x q → FinaliserIfAny p x q
    no_finaliser : {p : Spot} → SeesNot (is Finally) p → FinaliserIfAny p (absent p) (one_more p)

  -- Block
  pub data BlockForm : Spot → Part → Spot → Type 0 where
    block : {p a b q : Spot} {xs : List Part} → Takes (is BraceOpen) p a → Items inside a xs b → Takes (is BraceClose) b q → BlockForm p (node kinds.Block p xs q) (one_more q)

  -- ---- statements

  pub data StatementForm : Spot → Part → Spot → Type 0 where
    -- EmptyStatement
    empty : {p q : Spot} → Takes (is Semicolon) p q → StatementForm p (node kinds.Empty p [] q) (one_more q)
    block_statement : {p q : Spot} {x : Part} → BlockForm p x q → StatementForm p x q
    -- IfStatement
    if_statement : {p a b c q : Spot} {e x y : Part} → Takes (is If) p a → Condition a e b → inside forms.Statement b x c → Alternative c y q →
        StatementForm p (node kinds.If p (e ∷ x ∷ y ∷ []) q) (one_more q)
    -- WhileStatement
    while_statement : {p a b q : Spot} {e x : Part} → Takes (is While) p a → Condition a e b → inside forms.Statement b x q →
        StatementForm p (node kinds.While p (e ∷ x ∷ []) q) (one_more q)
    -- ForStatement; no `;` is left out in its head
    for_statement : {p a b c d e f g h q : Spot} {i t u x : Part} →
        Takes (is For) p a → Takes (is ParenOpen) a b → ForStart b i c → Takes (is Semicolon) c d → ExpressionBefore Semicolon d t e → Takes (is Semicolon) e f →
        ExpressionBefore ParenClose f u g → Takes (is ParenClose) g h → inside forms.Statement h x q →
        StatementForm p (node kinds.For p (i ∷ t ∷ u ∷ x ∷ []) q) (one_more q)
    -- BreakStatement and ContinueStatement, without labels
    break_statement : {p a q : Spot} → Takes (is Break) p a → JumpEnds a q → StatementForm p (node kinds.Break p [] q) (one_more q)
    continue_statement : {p a q : Spot} → Takes (is Continue) p a → JumpEnds a q → StatementForm p (node kinds.Continue p [] q) (one_more q)
    -- ReturnStatement
    return_statement : {p a q : Spot} {x : Part} → Takes (is Return) p a → Returned a x q → StatementForm p (node kinds.Return p (x ∷ []) q) (one_more q)
    -- ThrowStatement: no line terminator stands behind `throw`
    throw_statement : {p a b q : Spot} {x : Part} → Takes (is Throw) p a → SeesNot is_line a → ExpressionList inside a x b → Ends b q →
        StatementForm p (node kinds.Throw p (x ∷ []) q) (one_more q)
    -- TryStatement, with `catch` and maybe `finally`,
    try_catch : {p a b c d e q : Spot} {x y z : Part} {o : Option Named} →
        Takes (is Try) p a → inside forms.Block a x b → Takes (is Catch) b c → CatchName c o d → inside forms.Block d y e → FinaliserIfAny e z q →
        StatementForm p (with_name_if_any o (node kinds.Try p (x ∷ y ∷ z ∷ []) q)) (one_more q)
    -- or with `finally` alone
    try_finally : {p a b q : Spot} {x z : Part} →
        Takes (is Try) p a → inside forms.Block a x b → Finaliser (one_more b) z q →
        StatementForm p (node kinds.Try p (x ∷ absent b ∷ z ∷ []) q) (one_more q)
    -- ExpressionStatement
    expression_statement : {p a q : Spot} {x : Part} → Sees (among begins_expression_statement) p → ExpressionList inside p x a → Ends a q →
        StatementForm p (node kinds.ExprStmt p (x ∷ []) q) (one_more q)

  -- StatementListItem: declarations stand only in a list
  pub data ItemForm : Spot → Part → Spot → Type 0 where
    let_declaration : {p a q : Spot} {xs : List (Named × Part)} → Lets p xs a → Ends a q → ItemForm p (declared kinds.Let p xs q) (one_more q)
    const_declaration : {p a q : Spot} {xs : List (Named × Part)} → Consts p xs a → Ends a q → ItemForm p (declared kinds.Const p xs q) (one_more q)
    -- FunctionDeclaration
    function_declaration : {p a b c q : Spot} {ns : List Named} {x : Part} →
        Takes (is Function) p a → Takes (is Name) a b → Parameters b ns c → Body inside c x q →
        ItemForm p (with_name (named_at a) (with_names ns (node kinds.FunctionDecl p (x ∷ []) q))) (one_more q)
    statement_item : {p q : Spot} {x : Part} → StatementForm p x q → ItemForm p x q
