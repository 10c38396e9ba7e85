use Rattle.host_laws.proofs.Turns.{script_run}
use Rattle.host_laws.proofs.Targets.{post_within, ask_within}
use Rattle.host_laws.proofs.hosts.moves_name_isolates.Goals as goal

pub returns : goal.returns
returns c = record {
  posts = λ script whole stand i task run posts. post_within script stand i task whole (script_run script stand run) posts;
  asks = λ script whole stand i run asks. ask_within script stand i whole (script_run script stand run) asks;
}
