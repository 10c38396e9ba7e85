use Rattle.std.proofs.Common.{◌<◌, ◌^◌, arith, ap, sym, ◌∙◌}
use Rattle.host_machine.proofs.TallyLemmas.{posts_few, replies_few}
use Rattle.host_machine.proofs.LedgerLemmas.{fits_32, one_more_fits, tallies_after_both}
use Rattle.host_machine.proofs.ledger.Ledger.add_settled.Goals as goal

pub noting-noted-requires-clause-posts : goal.noting-noted-requires-clause-posts
noting-noted-requires-clause-posts c =
    one_more_fits c.tally-tally.result.posts c.args.self.now.events c.self.inside.events (omega (arith, posts_few c.args.isolate c.args.self.now.events, ap (λ tally. tally.posts) c.tally-tally.ensures))
    (sym (ap (λ ledger. ledger.events) c.self.view_is)) (omega (arith, c.len-few.ensures))

pub noting-noted-requires-clause-replies : goal.noting-noted-requires-clause-replies
noting-noted-requires-clause-replies c =
    one_more_fits c.tally-tally.result.replies c.args.self.now.events c.self.inside.events (omega (arith, replies_few c.args.isolate c.args.self.now.events, ap (λ tally. tally.replies) c.tally-tally.ensures))
    (sym (ap (λ ledger. ledger.events) c.self.view_is)) (omega (arith, c.len-few.ensures))

pub overflow_cast-place : goal.overflow_cast-place
overflow_cast-place c =
    let fits : c.tally-tally.result.replies < 2 ^ 32 = fits_32 c.tally-tally.result.replies c.args.self.now.events c.self.inside.events (omega (arith, replies_few c.args.isolate c.args.self.now.events, ap (λ tally. tally.replies) c.tally-tally.ensures))
    (sym (ap (λ ledger. ledger.events) c.self.view_is)) (omega (arith, c.len-few.ensures)) in
    omega arith

pub invariant_of-self-2 : goal.invariant_of-self-2
invariant_of-self-2 c =
    tallies_after_both c.self.inside.tallies c.set.new.self c.args.self.now.events c.self.inside.events c.push_both.new.events c.args.isolate c.args.out c.args.call _ c.args.self.now.isolates c.noting-noted.result c.tally-tally.result
    c.set.ensures c.in_ok-push_both.ensures.ok (sym (ap (λ ledger. ledger.events) c.self.view_is)) (sym (ap (λ ledger. ledger.isolates) c.self.view_is))
    c.requires c.tally-tally.ensures c.noting-noted.ensures c.self.invariant
