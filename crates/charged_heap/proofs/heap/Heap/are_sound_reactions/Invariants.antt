use Rattle.std.proofs.Common.{ℕ, ◌<◌}
use Rattle.std.specs.Prelude.{slice_index_or}
use Rattle.charged_heap.specs.declared.values.Reaction.{Reaction}
use Rattle.charged_heap.specs.Closed.{IsSoundReaction}
use Rattle.charged_heap.proofs.heap.Heap.are_sound_reactions.Given as goal

abbrev pub invariant-loop-reaction : goal.invariant-loop-reaction
invariant-loop-reaction l = (k : ℕ) (d : Reaction) → k < l.reaction-index → IsSoundReaction l.self (slice_index_or l.reaction-items k d)
