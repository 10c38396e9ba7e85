use Rattle.std.proofs.Common.{◌≡◌, ◌++◌, ◌∙◌, OnOk, ap, sym, subst}
use Rattle.std.specs.Option.{option_copied}
use Rattle.ivm_report.specs.Outcomes.{outcome_text}
use Rattle.ivm_report.proofs.EntryLemmas.{no_entry, nothing_said, entry_said, journal_is}
use Rattle.ivm_report.specs.Report.{entry_text}
use Rattle.ivm_report.proofs.lines.push_entry.Goals as goal

pub returns-in_default : goal.returns-in_default
returns-in_default c =
    subst (λ t. OnOk c.push_absent.result (c.push_absent.new.text.items ≡ c.args.text.now.items ++ t))
    (sym (nothing_said c.args.want c.args.ledger.now.kept.now.isolates c.args.isolate c.args.place (sym c.get.ensures.value ∙ ap option_copied c.in_default.is)))
    c.push_absent.ensures

pub returns-in_default-get : goal.returns-in_default-get
returns-in_default-get c =
    subst (λ t. OnOk c.push_absent-in_default-get.result (c.push_absent-in_default-get.new.text.items ≡ c.args.text.now.items ++ t))
    (sym (ap (λ j. entry_text c.args.want j c.args.place) (journal_is c.args.ledger.now.kept.now.isolates c.args.isolate c.in-Some.journal.now (sym c.get.ensures.value ∙ ap option_copied c.in-Some.is))
    ∙ no_entry c.args.want c.in-Some.journal.now c.args.place (sym c.get-2.ensures.value ∙ ap option_copied c.in_default-get.is)))
    c.push_absent-in_default-get.ensures

pub returns : goal.returns
returns c =
    subst (λ t. OnOk c.push_outcome.result (c.push_outcome.new.text.items ≡ c.args.text.now.items ++ t))
    (sym (entry_said c.args.want c.args.ledger.now.kept.now.isolates c.args.isolate c.args.place c.in-Some.journal.now c.in-Some-get.entry.now c.args.ledger.now.first_disposals.items c.index.result.now
    (sym c.get.ensures.value ∙ ap option_copied c.in-Some.is) (sym c.get-2.ensures.value ∙ ap option_copied c.in-Some-get.is) c.in-Some.ensures.within c.requires.tables.1.firsts_are c.index.ensures
    ∙ ap (λ b. outcome_text c.args.want b c.in-Some-get.entry.now.ticks c.in-Some-get.entry.now.outcome) (sym c.is_at-first.ensures)
    ∙ ap (λ outcome. outcome_text c.args.want c.is_at-first.result c.in-Some-get.entry.now.ticks outcome) (sym c.deref.ensures)))
    c.push_outcome.ensures
