use Rattle.std.proofs.Common.{refl, sym}
use Rattle.js_parser.specs.State.{state_of}
use Rattle.js_parser.specs.Accepted.{rule_for}
use Rattle.js_parser.specs.Changes.{last_tree}
use Rattle.js_parser.specs.View.{tree_of}
use Rattle.js_parser.proofs.Works.{ok_map}
use Rattle.js_parser.proofs.Endings as endings
use Rattle.js_parser.proofs.scripts.parse_tokens.Goals as goal

pub returns-in_ok-refused-in-Some-clause-err : goal.returns-in_ok-refused-in-Some-clause-err
returns-in_ok-refused-in-Some-clause-err c =
    endings.rejected_as (rule_for c.args.whole) c.args.end c.args.tokens.now c.read_whole.new.reader c.in-Some.why c.in_ok-refused-in-Some.refused
    (endings.read_whole (rule_for c.args.whole) c.args.tokens.now (state_of c.in_ok-reader.reader) (state_of c.read_whole.new.reader) c.in_ok-reader.ensures c.in_ok-read_whole.ensures)
    c.in-Some.is c.in_ok-refused-in-Some.ensures

pub finished-requires : goal.finished-requires
finished-requires c =
    c.accepted_trees_are_whole.ensures c.args.whole c.args.end c.args.tokens.now (last_tree c.read_whole.new.reader.builder)
    (endings.accepted_as (rule_for c.args.whole) c.args.end c.args.tokens.now c.read_whole.new.reader (last_tree c.read_whole.new.reader.builder)
    (endings.read_whole (rule_for c.args.whole) c.args.tokens.now (state_of c.in_ok-reader.reader) (state_of c.read_whole.new.reader) c.in_ok-reader.ensures c.in_ok-read_whole.ensures)
    c.in-None.is refl)

pub returns-in-None-clause-ok : goal.returns-in-None-clause-ok
returns-in-None-clause-ok c = ok_map c.finished.result
    (λ s e. endings.accepted_as (rule_for c.args.whole) c.args.end c.args.tokens.now c.read_whole.new.reader (tree_of s)
    (endings.read_whole (rule_for c.args.whole) c.args.tokens.now (state_of c.in_ok-reader.reader) (state_of c.read_whole.new.reader) c.in_ok-reader.ensures c.in_ok-read_whole.ensures)
    c.in-None.is (sym e))
    c.finished.ensures.ok
