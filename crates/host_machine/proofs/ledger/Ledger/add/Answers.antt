use Rattle.std.proofs.Common.{arith, ap, sym, ◌∙◌}
use Rattle.host_machine.proofs.TallyLemmas.{posts_few, replies_few}
use Rattle.host_machine.proofs.LedgerLemmas.{one_more_fits, tallies_after}
use Rattle.host_machine.proofs.ledger.Ledger.add.Goals as goal

pub noting-tally-requires-clause-posts : goal.noting-tally-requires-clause-posts
noting-tally-requires-clause-posts c =
    one_more_fits c.tally.result.posts c.args.self.now.events c.self.inside.events (omega (arith, posts_few c.in-Some.isolate c.args.self.now.events, ap (λ tally. tally.posts) c.tally.ensures))
    (sym (ap (λ ledger. ledger.events) c.self.view_is)) (omega (arith, c.len-few.ensures))

pub noting-tally-requires-clause-replies : goal.noting-tally-requires-clause-replies
noting-tally-requires-clause-replies c =
    one_more_fits c.tally.result.replies c.args.self.now.events c.self.inside.events (omega (arith, replies_few c.in-Some.isolate c.args.self.now.events, ap (λ tally. tally.replies) c.tally.ensures))
    (sym (ap (λ ledger. ledger.events) c.self.view_is)) (omega (arith, c.len-few.ensures))

pub invariant_of-self-in-Some : goal.invariant_of-self-in-Some
invariant_of-self-in-Some c =
    tallies_after c.self.inside.tallies c.set.new.self c.args.self.now.events c.self.inside.events c.push.new.self c.args.event c.in-Some.isolate c.args.self.now.isolates c.noting-tally.result c.tally.result
    c.set.ensures c.in_ok-push-in-Some.ensures.ok (sym (ap (λ ledger. ledger.events) c.self.view_is)) (sym (ap (λ ledger. ledger.isolates) c.self.view_is))
    c.in-Some.ensures c.requires c.tally.ensures c.noting-tally.ensures c.self.invariant
