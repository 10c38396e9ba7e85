-- The grammar: which tree tokens have, or the first of them that is refused.
-- ECMA-262, ECMAScript Language: Scripts; docs/SCRIPTS.md, "The grammar of scripts".
use Rattle.std.specs.Prelude.{ℕ, zero, suc, List, [], ◌∷◌, length, Option, None, Some, if◌then◌else◌}
use Rattle.ivm_text.specs.declared.refusal.Refusal.{Refusal}
use Rattle.ivm_text.specs.declared.refusal.RefusalKind.{RefusalKind}
use Rattle.ivm_text.specs.declared.refusal.RefusalKind.TheVariants as refusals
use Rattle.js_syntax.specs.declared.kind.Kind.TheVariants as kinds
use Rattle.js_syntax.specs.Tree.{Trees, nothing, tree}
use Rattle.js_lexer.specs.declared.token.Token.{Token}
use Rattle.parser_rules.specs.declared.class.Class.{Class}
use Rattle.parser_rules.specs.declared.class.Class.TheVariants as classes
use Rattle.parser_rules.specs.declared.form.Form.{Form}
use Rattle.parser_rules.specs.declared.form.Form.TheVariants.{Expression, Prefix, Statement, Item, Block, Literal}
use Rattle.parser_rules.specs.declared.form.Why.{Why}
use Rattle.parser_rules.specs.declared.form.Why.TheVariants.{Unexpected, TooDeep}
use Rattle.parser_rules.specs.Classes.{class_of, is_one_of}
use Rattle.parser_rules.specs.Work.{Part, Frame, Work, State, going, stuck, fresh}
use Rattle.parser_rules.specs.Rules.{Rule, run}
use Rattle.parser_rules.specs.Expressions.{expression_begins, prefix_operators, expression, prefix}
use Rattle.parser_rules.specs.Statements.{statement_begins, item_begins, statement, item, block, script}
use Rattle.parser_rules.specs.Literals.{literal_begins, literal, literal_text, arguments_text}

-- ---- levels

abbrev pub begins : Form → List Class
begins Expression = expression_begins
begins Prefix = prefix_operators
begins Statement = statement_begins
begins Item = item_begins
begins Block = classes.BraceOpen ∷ []
begins Literal = literal_begins

abbrev pub rule_of : Form → Rule
rule_of Expression = expression
rule_of Prefix = prefix
rule_of Statement = statement
rule_of Item = item
rule_of Block = block
rule_of Literal = literal

abbrev pub refused_at_limit : Form → List Token → Why
refused_at_limit form ts = if is_one_of (class_of ts) (begins form) then TooDeep else Unexpected

-- a form where no level is left: what begins it is too deep
abbrev pub beyond : Form → State → State
beyond form (going w) = stuck (refused_at_limit form w.rest) w.rest
beyond form (stuck why ts) = stuck why ts

-- a form where n levels are left
unfoldable pub within : ℕ → Form → State → State
within zero form s = beyond form s
within (suc n) form s = run (within n) (rule_of form) s

-- ---- scripts

abbrev pub limit : ℕ
limit = 200

-- nothing is read, and the script is the innermost form
abbrev pub at_start : List Token → State
at_start ts = going (record { rest = ts; made = 0; top = fresh kinds.Script 0; below = fresh kinds.Absent 0 ∷ [] })

-- what reading the tokens of a text comes to, by the rule for the whole of it, where so many levels
-- may be open
abbrev pub reading : ℕ → Rule → List Token → State
reading levels whole ts = run (within levels) whole (at_start ts)

-- ---- answers

-- the kind of a refusal at the token in view
abbrev pub kind_of : Why → Class → RefusalKind
kind_of why classes.Foreign = refusals.OutOfProfile
kind_of TooDeep _ = refusals.TooDeep
kind_of Unexpected _ = refusals.Unexpected

abbrev pub word_of : Class → List ℕ → Option (List ℕ)
word_of classes.Foreign text = Some text
word_of _ text = None

-- the refusal of a text of so many bytes whose first bad token is in view; without one it is the
-- text's end
abbrev pub refusal_at : ℕ → Why → List Token → Refusal
refusal_at end why [] = record { kind = kind_of why classes.End; place = end; word = None }
refusal_at end why (t ∷ ts) = let c = class_of (t ∷ ts) in record { kind = kind_of why c; place = t.place; word = word_of c t.text }

-- what the tokens of a text are: a script's tree, or refused
pub data Answer : Type 0 where
  accepted : Trees → Answer
  rejected : Refusal → Answer

abbrev pub tree_of_parts : List Part → Trees
tree_of_parts [] = nothing
tree_of_parts (p ∷ ps) = tree p.head p.kids nothing

abbrev pub answer_of : ℕ → State → Answer
answer_of end (going w) = accepted (tree_of_parts w.top.parts)
answer_of end (stuck why ts) = rejected (refusal_at end why ts)

-- the answer to a text of so many bytes and with these tokens, by the rule for the whole of it
abbrev pub answer_by : Rule → ℕ → List Token → Answer
answer_by whole end ts = answer_of end (reading limit whole ts)

-- as a script, as one literal, and as arguments
abbrev pub answer : ℕ → List Token → Answer
answer end ts = answer_by script end ts

abbrev pub literal_answer : ℕ → List Token → Answer
literal_answer end ts = answer_by literal_text end ts

abbrev pub arguments_answer : ℕ → List Token → Answer
arguments_answer end ts = answer_by arguments_text end ts
