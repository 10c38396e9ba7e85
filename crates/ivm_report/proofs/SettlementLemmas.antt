-- The settlement of a call in a history that goes on.
use Rattle.std.proofs.Common.{◌≡◌, ℕ, ◌+◌, ◌<◌, List, [], ◌∷◌, ◌++◌, length, take, get_or, Option, None, Some, refl, ap, ◌∙◌, sym}
use Rattle.std.specs.Option.{option_or}
use Rattle.std.proofs.lemmas.List.{take_more}
use Rattle.task_history.specs.declared.record.Event.{Event}
use Rattle.task_history.specs.declared.record.Settlement.{Settlement}
use Rattle.host_meaning.specs.Settlement.{settlement_in, settlement_of}

or_none : (found : Option Settlement) → option_or found None ≡ found
or_none None = refl
or_none (Some how) = refl

or_assoc : (a b c : Option Settlement) → option_or a (option_or b c) ≡ option_or (option_or a b) c
or_assoc None b c = refl
or_assoc (Some how) b c = refl

settlement_more : (n : ℕ) (history : List Event) (event : Event) → settlement_of n (history ++ event ∷ []) ≡ option_or (settlement_of n history) (settlement_in n event)
settlement_more n [] event = or_none (settlement_in n event)
settlement_more n (first ∷ history) event =
    ap (option_or (settlement_in n first)) (settlement_more n history event) ∙ or_assoc (settlement_in n first) (settlement_of n history) (settlement_in n event)

pub settlement_next : (n i : ℕ) (history : List Event) (event : Event) → i < length history → event ≡ get_or history i event → settlement_of n (take (i + 1) history) ≡ option_or (settlement_of n (take i history)) (settlement_in n event)
settlement_next n i history event within is =
    ap (settlement_of n) (take_more history i event within ∙ ap (λ e. take i history ++ e ∷ []) (sym is)) ∙ settlement_more n (take i history) event
