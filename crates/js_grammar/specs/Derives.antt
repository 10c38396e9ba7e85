-- Which tree the tokens of a text have, by the grammar by cases.
-- ECMA-262, ECMAScript Language: Scripts; docs/SCRIPTS.md, "The grammar by cases" and "Levels".
use Rattle.std.specs.Prelude.{ℕ, zero, suc, List, [], ◌∷◌}
use Rattle.js_syntax.specs.declared.kind.Kind.TheVariants as kinds
use Rattle.js_syntax.specs.Tree.{Trees}
use Rattle.js_lexer.specs.declared.token.Token.{Token}
use Rattle.parser_rules.specs.declared.class.Class.TheVariants.{End}
use Rattle.parser_rules.specs.declared.form.Form.{Form}
use Rattle.parser_rules.specs.declared.form.Form.TheVariants.{Expression, Prefix, Statement, Item, Block, Literal}
use Rattle.parser_rules.specs.Work.{Part}
use Rattle.js_grammar.specs.Spots.{Spot, spot, Reading, other_than, node_at, trees_of, Many}
use Rattle.js_grammar.specs.Expressions.{ExpressionForm, PrefixForm}
use Rattle.js_grammar.specs.Statements.{StatementForm, ItemForm, BlockForm}
use Rattle.js_grammar.specs.Literals.{LiteralForm, LiteralText, ArgumentsText}

-- a form by its cases, where `inside` reads what stands one level further inside
abbrev pub FormOf : (Form → Reading Part) → Form → Reading Part
FormOf inside Expression = ExpressionForm inside
FormOf inside Prefix = PrefixForm inside
FormOf inside Statement = StatementForm inside
FormOf inside Item = ItemForm inside
FormOf inside Block = BlockForm inside
FormOf inside Literal = LiteralForm inside

-- a form where so many levels may be open, the form itself included
unfoldable pub Reads : ℕ → Form → Reading Part
Reads zero form p x q = ⊥
Reads (suc n) form p x q = FormOf (Reads n) form p x q

-- the tree of the text as a whole: all its parts are the kids of one node, whose place is 0
abbrev pub whole_tree : List Part → Spot → Trees
whole_tree xs end = trees_of (node_at kinds.Script 0 xs end ∷ [])

-- ---- texts

-- which trees the tokens of a text have, where its forms are read so
abbrev pub Text : Type 1
Text = (Form → Reading Part) → List Token → Trees → Type 0

-- the tokens are a script with this tree, where its forms are read so,
pub data ScriptBy (reads : Form → Reading Part) (ts : List Token) : Trees → Type 0 where
  derives_script : {xs : List Part} {end : Spot}
      → Many (other_than (End ∷ [])) (reads Item) (spot ts 0) xs end
      → ScriptBy reads ts (whole_tree xs end)

-- or one literal,
pub data LiteralBy (reads : Form → Reading Part) (ts : List Token) : Trees → Type 0 where
  derives_literal : {xs : List Part} {end : Spot}
      → LiteralText reads (spot ts 0) xs end → LiteralBy reads ts (whole_tree xs end)

-- or arguments
pub data ArgumentsBy (reads : Form → Reading Part) (ts : List Token) : Trees → Type 0 where
  derives_arguments : {xs : List Part} {end : Spot}
      → ArgumentsText reads (spot ts 0) xs end → ArgumentsBy reads ts (whole_tree xs end)

-- the tokens are a text with this tree, where so many levels may be open
abbrev pub DerivesBy : Text → ℕ → List Token → Trees → Type 0
DerivesBy TextBy levels = TextBy (Reads levels)

-- a script, one literal, or arguments
abbrev pub Derives : ℕ → List Token → Trees → Type 0
Derives = DerivesBy ScriptBy

abbrev pub DerivesLiteral : ℕ → List Token → Trees → Type 0
DerivesLiteral = DerivesBy LiteralBy

abbrev pub DerivesArguments : ℕ → List Token → Trees → Type 0
DerivesArguments = DerivesBy ArgumentsBy
