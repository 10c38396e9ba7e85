-- What the tree of a text says of it: the last three cases of `Text`. No caller needs this.
-- This project's own; docs/SCRIPTS.md, "From a text to a script".
use Rattle.std.specs.Prelude.{◌≡◌, ℕ, [], None, Some}
use Rattle.js_syntax.specs.declared.fault.Fault.{Fault}
use Rattle.js_syntax.specs.Early.{outside}
use Rattle.js_syntax.specs.Faults.{faults_of}
use Rattle.js_syntax.specs.Order.{IsLeast}
use Rattle.js_syntax.specs.Tree.{Trees}
use Rattle.js_lexer.specs.declared.token.SyntaxFault.{SyntaxFault}
use Rattle.js_lexer.specs.declared.token.SyntaxFault.TheVariants as faults
use Rattle.js_syntax.specs.declared.check.EarlyFault.{EarlyFault}
use Rattle.js_syntax.specs.declared.check.EarlyFault.TheVariants as early_faults
use Rattle.js_syntax.specs.Answer.{refusal_of}
use Rattle.js_parser.specs.Nodes.{nodes_of}
use Rattle.js_scripts.specs.Text.{Reading, script, refused, unbuilt_refusal}
use Rattle.js_scripts.specs.Unbuilt.{first_unbuilt}

-- a text with this tree is:
pub data Says (t : Trees) : Reading → Type 0 where
  -- refused for its least early fault;
  has_fault : {fault : Fault} → IsLeast (faults_of outside t) fault → Says t (refused (refusal_of fault))
  -- without one, refused for its first form that isn't built;
  has_unbuilt : {place : ℕ} → faults_of outside t ≡ [] → first_unbuilt t ≡ Some place → Says t (refused (unbuilt_refusal place))
  -- without either, a script.
  is_whole : faults_of outside t ≡ [] → first_unbuilt t ≡ None → Says t (script (nodes_of t))

-- a text with this tree is refused so; want of memory may be told of any
abbrev pub IsToldOf : Trees → SyntaxFault → Type 0
IsToldOf t (faults.Refused r) = Says t (refused r)
IsToldOf t faults.NoMemory = Unit {0}

-- what is told of an early fault: its refusal
abbrev pub told_of : EarlyFault → SyntaxFault
told_of (early_faults.Refused refusal nodes) = faults.Refused refusal
