use Rattle.host_laws.proofs.Beside.{beside_idle, beside_perform, beside_stop}
use Rattle.host_laws.proofs.Stays.{stays_at_turns, stays_at_posts, stays_at_receipts, stays_at_others, done_at_rest}
use Rattle.host_laws.proofs.hosts.isolates_stay_beside.Goals as goal

pub returns : goal.returns
returns c = record {
  begins = beside_idle;
  turns = stays_at_turns;
  posts = stays_at_posts;
  tasks = λ i limit worker history task later isolate entry. beside_perform i limit history worker task later isolate entry;
  stops = λ i limit worker history isolate entry. beside_stop i limit history worker isolate entry;
  receipts = stays_at_receipts;
  others = stays_at_others;
  rest = done_at_rest;
}
