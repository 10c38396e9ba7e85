-- What is said by an entry of a journal that is there, or isn't.
use Rattle.std.proofs.Common.{◌≡◌, ℕ, ◌<◌, List, [], map, length, get_or, slice_get, Option, Some, None, refl, ap, ◌∙◌, sym}
use Rattle.std.specs.Option.{unwrap_or, option_map_or}
use Rattle.std.specs.Prelude.{codes}
use Rattle.std.proofs.lemmas.Option.{unwrap_or-slice_get, get_or_from_slice_get}
use Rattle.std.proofs.lemmas.List.{get_or-map}
use Rattle.ivm_text.specs.declared.copies.Want.{Want}
use Rattle.task_history.specs.Lists.{journal_at}
use Rattle.task_history.specs.declared.record.Entry.{Entry}
use Rattle.ivm_report.specs.Outcomes.{outcome_text}
use Rattle.ivm_report.specs.Report.{entry_text, first_disposal, is_at}

pub journal_is : (isolates : List (List Entry)) (i : ℕ) (journal : List Entry) → slice_get isolates i ≡ Some journal → journal_at isolates i ≡ journal
journal_is isolates i journal e = get_or_from_slice_get isolates i journal [] e

no_journal : (isolates : List (List Entry)) (i : ℕ) → slice_get isolates i ≡ None → journal_at isolates i ≡ []
no_journal isolates i e = sym (unwrap_or-slice_get isolates i []) ∙ ap (λ found. unwrap_or found []) e

pub no_entry : (want : Want) (journal : List Entry) (p : ℕ) → slice_get journal p ≡ None → entry_text want journal p ≡ codes "no entry"
no_entry want journal p e =
    ap (λ found. option_map_or (λ (entry : Entry). outcome_text want (is_at p (first_disposal journal)) entry.ticks entry.outcome) found (codes "no entry")) e

-- a journal that isn't there has no entry
pub nothing_said : (want : Want) (isolates : List (List Entry)) (i p : ℕ) → slice_get isolates i ≡ None → entry_text want (journal_at isolates i) p ≡ codes "no entry"
nothing_said want isolates i p e = ap (λ journal. entry_text want journal p) (no_journal isolates i e) ∙ no_entry want [] p refl

-- the entry that is there, with the flag that the table of first disposals gives
pub entry_said : (want : Want) (isolates : List (List Entry)) (i p : ℕ) (journal : List Entry) (entry : Entry) (firsts : List (Option ℕ)) (found : Option ℕ)
    → slice_get isolates i ≡ Some journal → slice_get journal p ≡ Some entry → i < length isolates → firsts ≡ map first_disposal isolates → found ≡ get_or firsts i found
    → entry_text want (journal_at isolates i) p ≡ outcome_text want (is_at p found) entry.ticks entry.outcome
entry_said want isolates i p journal entry firsts found at here within firsts_are is =
    ap (λ j. entry_text want j p) (journal_is isolates i journal at)
    ∙ ap (λ e. option_map_or (λ (entry : Entry). outcome_text want (is_at p (first_disposal journal)) entry.ticks entry.outcome) e (codes "no entry")) here
    ∙ ap (λ f. outcome_text want (is_at p f) entry.ticks entry.outcome) (sym found_is)
  where
    found_is : found ≡ first_disposal journal
    found_is = is ∙ ap (λ l. get_or l i found) firsts_are ∙ get_or-map first_disposal isolates i journal found within ∙ ap first_disposal (get_or_from_slice_get isolates i journal journal at)
