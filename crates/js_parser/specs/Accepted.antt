-- What the rule for the whole of a text answers to its tokens. No caller needs this.
-- This project's own; docs/SCRIPTS.md, "How the grammar is written".
use Rattle.std.specs.Prelude.{◌≡◌, ℕ, List, length, ◌⊎◌}
use Rattle.ivm_text.specs.declared.refusal.Refusal.{Refusal}
use Rattle.js_syntax.specs.Tree.{Trees, nothing, tree}
use Rattle.grammar_laws.specs.Formed.{AreFormed}
use Rattle.js_lexer.specs.declared.token.Token.{Token}
use Rattle.js_lexer.specs.declared.token.SyntaxFault.{SyntaxFault}
use Rattle.js_lexer.specs.declared.token.SyntaxFault.TheVariants as faults
use Rattle.js_lexer.specs.Tokens.{AreTokens, IsRefusal}
use Rattle.parser_rules.specs.Rules.{Rule}
use Rattle.parser_rules.specs.Statements.{script}
use Rattle.parser_rules.specs.Literals.{literal_text, arguments_text}
use Rattle.parser_rules.specs.Grammar.{answer_by, accepted, rejected}
use Rattle.js_parser.specs.declared.scripts.Whole.{Whole}
use Rattle.js_parser.specs.declared.scripts.Whole.TheVariants as wholes

-- the rule for the whole of a text
abbrev pub rule_for : Whole → Rule
rule_for wholes.Script = script
rule_for wholes.Literal = literal_text
rule_for wholes.Arguments = arguments_text

-- the bytes are a text of tokens of which the rule accepts this tree
pub record IsAccepted (whole : Rule) (bytes : List ℕ) (tree : Trees) : Type 0 where
  pub tokens : List Token
  pub are_its_tokens : AreTokens bytes tokens
  pub is_their_tree : answer_by whole (length bytes) tokens ≡ accepted tree

-- the rule refuses the tokens so, in a text of so many bytes
abbrev pub IsRejected : Rule → ℕ → List Token → SyntaxFault → Type 0
IsRejected whole end tokens (faults.Refused r) = answer_by whole end tokens ≡ rejected r
IsRejected whole end tokens faults.NoMemory = Unit {0}

-- the bytes are a text of tokens that the rule refuses so
pub record IsRejectedText (whole : Rule) (bytes : List ℕ) (r : Refusal) : Type 0 where
  pub tokens : List Token
  pub are_its_tokens : AreTokens bytes tokens
  pub is_their_refusal : answer_by whole (length bytes) tokens ≡ rejected r

-- the bytes are no text of tokens, or one that the rule refuses
abbrev pub IsFaultBy : Rule → List ℕ → SyntaxFault → Type 0
IsFaultBy whole bytes (faults.Refused r) = IsRefusal bytes r ⊎ IsRejectedText whole bytes r
IsFaultBy whole bytes faults.NoMemory = Unit {0}

-- ---- what is accepted is whole

-- there is a first tree
abbrev pub HasRoot : Trees → Type 0
HasRoot nothing = ⊥
HasRoot (tree head kids rest) = Unit {0}

-- it is a tree, each of whose forms has what its kind asks for
pub record IsWholeTree (t : Trees) : Type 0 where
  pub root : HasRoot t
  pub formed : AreFormed t

-- what the rules for the whole of a text accept are such trees
abbrev pub AcceptsWholeTrees : Type 0
AcceptsWholeTrees = (whole : Whole) (end : ℕ) (ts : List Token) (t : Trees)
    → answer_by (rule_for whole) end ts ≡ accepted t → IsWholeTree t
