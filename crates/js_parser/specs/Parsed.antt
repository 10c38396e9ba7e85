-- What a text is parsed to: its tree, or the refusal at its first bad token.
-- ECMA-262, ECMAScript Language: Scripts; docs/SCRIPTS.md, "The grammar of scripts", "Literals and
-- arguments" and "Refusals of the grammar".
use Rattle.std.specs.Prelude.{◌≡◌, ℕ, List, length, ◌⊎◌}
use Rattle.ivm_text.specs.declared.refusal.Refusal.{Refusal}
use Rattle.js_syntax.specs.declared.node.Node.{Node}
use Rattle.js_syntax.specs.Tree.{Trees, IsTreeOf}
use Rattle.js_lexer.specs.declared.token.Token.{Token}
use Rattle.js_lexer.specs.declared.token.SyntaxFault.{SyntaxFault}
use Rattle.js_lexer.specs.declared.token.SyntaxFault.TheVariants as faults
use Rattle.js_lexer.specs.Tokens.{AreTokens, IsRefusal}
use Rattle.parser_rules.specs.declared.form.Why.{Why}
use Rattle.parser_rules.specs.Grammar.{limit, refusal_at}
use Rattle.js_grammar.specs.Derives.{Text, DerivesBy, ScriptBy, LiteralBy, ArgumentsBy, Derives, DerivesLiteral, DerivesArguments}
use Rattle.js_grammar.specs.Exactly.{Derivation}
use Rattle.js_grammar.specs.FirstBad.{IsFirstBad}
use Rattle.js_parser.specs.View.{tree_of}

-- the bytes are a text of tokens that have this tree
pub record HasTree (Derived : Derivation) (bytes : List ℕ) (tree : Trees) : Type 0 where
  pub tokens : List Token
  pub are_its_tokens : AreTokens bytes tokens
  pub derives : Derived limit tokens tree

-- and the tree under the root of these nodes is that one
pub record IsTextOf (Derived : Derivation) (bytes : List ℕ) (nodes : List Node) : Type 0 where
  pub tree : Trees
  pub is_its_tree : IsTreeOf nodes tree
  pub has : HasTree Derived bytes tree

-- the bytes are a text of tokens that have no tree, and the refusal is that of the first bad one
pub record IsRefusedText (TextBy : Text) (bytes : List ℕ) (r : Refusal) : Type 0 where
  pub tokens : List Token
  pub are_its_tokens : AreTokens bytes tokens
  pub why : Why
  pub left : List Token
  pub is_first_bad : IsFirstBad TextBy limit tokens why left
  pub is_its_refusal : r ≡ refusal_at (length bytes) why left

-- the bytes are no text of tokens, or their tokens have no tree
abbrev pub IsFaultOf : Text → List ℕ → SyntaxFault → Type 0
IsFaultOf TextBy bytes (faults.Refused r) = IsRefusal bytes r ⊎ IsRefusedText TextBy bytes r
IsFaultOf TextBy bytes faults.NoMemory = Unit {0}

-- two refusals of these bytes are the same, and bytes whose tokens have a tree have none
pub record IsRefusedOnce (TextBy : Text) (bytes : List ℕ) : Type 0 where
  pub one : (r s : Refusal) → IsFaultOf TextBy bytes (faults.Refused r)
      → IsFaultOf TextBy bytes (faults.Refused s) → r ≡ s
  pub none : (t : Trees) (r : Refusal) → HasTree (DerivesBy TextBy) bytes t
      → ¬ (IsFaultOf TextBy bytes (faults.Refused r))

-- ---- scripts, literals, arguments

abbrev pub IsScriptOf : List ℕ → List Node → Type 0
IsScriptOf bytes nodes = IsTextOf Derives bytes nodes

abbrev pub IsLiteralOf : List ℕ → List Node → Type 0
IsLiteralOf bytes nodes = HasTree DerivesLiteral bytes (tree_of nodes)

abbrev pub AreArgumentsOf : List ℕ → List Node → Type 0
AreArgumentsOf bytes nodes = HasTree DerivesArguments bytes (tree_of nodes)

abbrev pub IsFault : List ℕ → SyntaxFault → Type 0
IsFault bytes fault = IsFaultOf ScriptBy bytes fault

abbrev pub IsLiteralFault : List ℕ → SyntaxFault → Type 0
IsLiteralFault bytes fault = IsFaultOf LiteralBy bytes fault

abbrev pub IsArgumentsFault : List ℕ → SyntaxFault → Type 0
IsArgumentsFault bytes fault = IsFaultOf ArgumentsBy bytes fault
