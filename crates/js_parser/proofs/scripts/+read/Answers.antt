use Rattle.std.proofs.Common.{◌≡◌, sym, ap, ◌∙◌, arith}
use Rattle.parser_rules.specs.declared.form.Form.{Form}
use Rattle.parser_rules.specs.declared.form.Form.TheVariants as forms
use Rattle.parser_rules.specs.Grammar.{within}
use Rattle.parser_rules.proofs.Takes.{within_still, within_none, within_one}
use Rattle.js_parser.specs.State.{state_of}
use Rattle.js_parser.proofs.Steps as steps
use Rattle.js_parser.proofs.Works.{ok_map}
use Rattle.js_parser.proofs.scripts.+read.Goals as goal

pub returns-in-Some : goal.returns-in-Some
returns-in-Some t c = steps.form_stuck c.args.reader.now _ (within c.args.levels c.args.form) c.in-Some.is ((within_still c.args.levels c.args.form).stays _ _)

pub returns-then-levels-eq0 : goal.returns-then-levels-eq0
returns-then-levels-eq0 t c = let none : c.args.levels ≡ 0 = omega arith in c.stop_beyond.ensures ∙ sym (within_none c.args.levels c.args.form (state_of c.args.reader.now) none)

pub returns-in-Expression : goal.returns-in-Expression
returns-in-Expression t c = ok_map c.expression.result
    (λ _ e. e ∙ sym (ap (λ (f : Form). within c.args.levels f (state_of c.args.reader.now)) c.in-Expression.is ∙ within_one c.args.levels forms.Expression (state_of c.args.reader.now) (omega arith)))
    c.expression.ensures

pub returns-in-Prefix : goal.returns-in-Prefix
returns-in-Prefix t c = ok_map c.prefix.result
    (λ _ e. e ∙ sym (ap (λ (f : Form). within c.args.levels f (state_of c.args.reader.now)) c.in-Prefix.is ∙ within_one c.args.levels forms.Prefix (state_of c.args.reader.now) (omega arith)))
    c.prefix.ensures

pub returns-in-Statement : goal.returns-in-Statement
returns-in-Statement t c = ok_map c.statement.result
    (λ _ e. e ∙ sym (ap (λ (f : Form). within c.args.levels f (state_of c.args.reader.now)) c.in-Statement.is ∙ within_one c.args.levels forms.Statement (state_of c.args.reader.now) (omega arith)))
    c.statement.ensures

pub returns-in-Item : goal.returns-in-Item
returns-in-Item t c = ok_map c.item.result
    (λ _ e. e ∙ sym (ap (λ (f : Form). within c.args.levels f (state_of c.args.reader.now)) c.in-Item.is ∙ within_one c.args.levels forms.Item (state_of c.args.reader.now) (omega arith)))
    c.item.ensures

pub returns-in-Block : goal.returns-in-Block
returns-in-Block t c = ok_map c.block.result
    (λ _ e. e ∙ sym (ap (λ (f : Form). within c.args.levels f (state_of c.args.reader.now)) c.in-Block.is ∙ within_one c.args.levels forms.Block (state_of c.args.reader.now) (omega arith)))
    c.block.ensures

pub returns-in-Literal : goal.returns-in-Literal
returns-in-Literal t c = ok_map c.literal.result
    (λ _ e. e ∙ sym (ap (λ (f : Form). within c.args.levels f (state_of c.args.reader.now)) c.in-Literal.is ∙ within_one c.args.levels forms.Literal (state_of c.args.reader.now) (omega arith)))
    c.literal.ensures
