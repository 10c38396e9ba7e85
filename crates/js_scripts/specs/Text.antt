-- What the bytes of a text are: a script, or why they are none.
-- ECMA-262, ParseScript; docs/SCRIPTS.md, "From a text to a script".
use Rattle.std.specs.Prelude.{◌≡◌, ℕ, List, [], None, Some}
use Rattle.ivm_text.specs.declared.refusal.Refusal.{Refusal}
use Rattle.ivm_text.specs.declared.refusal.RefusalKind.TheVariants.{Unexpected}
use Rattle.js_syntax.specs.declared.fault.Fault.{Fault}
use Rattle.js_syntax.specs.declared.node.Node.{Node}
use Rattle.js_syntax.specs.Early.{outside}
use Rattle.js_syntax.specs.Faults.{faults_of}
use Rattle.js_syntax.specs.Order.{IsLeast}
use Rattle.js_syntax.specs.Tree.{Trees}
use Rattle.js_lexer.specs.declared.token.SyntaxFault.{SyntaxFault}
use Rattle.js_lexer.specs.declared.token.SyntaxFault.TheVariants as faults
use Rattle.js_lexer.specs.Tokens.{IsRefusal}
use Rattle.js_grammar.specs.Derives.{ScriptBy, Derives}
use Rattle.js_parser.specs.Parsed.{HasTree, IsRefusedText}
use Rattle.js_syntax.specs.Answer.{refusal_of}
use Rattle.js_parser.specs.Nodes.{nodes_of}
use Rattle.js_scripts.specs.Unbuilt.{first_unbuilt}

-- what a text can be
pub data Reading : Type 0 where
  script : List Node → Reading
  refused : Refusal → Reading

-- a form that isn't built is refused as a token that can't stand there
abbrev pub unbuilt_refusal : ℕ → Refusal
unbuilt_refusal place = record { kind = Unexpected; place = place; word = None }

-- What these bytes are:
pub data Reads (bytes : List ℕ) : Reading → Type 0 where
  -- no tokens, with the first fault from left to right;
  no_tokens : {r : Refusal} → IsRefusal bytes r → Reads bytes (refused r)
  -- tokens that have no tree, with what is told of the first bad one;
  no_tree : {r : Refusal} → IsRefusedText ScriptBy bytes r → Reads bytes (refused r)
  -- a tree with early faults, the least of which is told;
  early : {t : Trees} {fault : Fault} → HasTree Derives bytes t → IsLeast (faults_of outside t) fault → Reads bytes (refused (refusal_of fault))
  -- a tree with a form that isn't built, the first of which is told;
  unbuilt : {t : Trees} {place : ℕ} → HasTree Derives bytes t → faults_of outside t ≡ [] → first_unbuilt t ≡ Some place → Reads bytes (refused (unbuilt_refusal place))
  -- or a script, with the nodes of its tree.
  whole : {t : Trees} → HasTree Derives bytes t → faults_of outside t ≡ [] → first_unbuilt t ≡ None → Reads bytes (script (nodes_of t))

-- the bytes are no script for this reason; want of memory may be told of any
abbrev pub IsFaultOf : List ℕ → SyntaxFault → Type 0
IsFaultOf bytes (faults.Refused r) = Reads bytes (refused r)
IsFaultOf bytes faults.NoMemory = Unit {0}
