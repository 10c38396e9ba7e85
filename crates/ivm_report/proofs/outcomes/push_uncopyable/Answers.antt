use Rattle.std.proofs.Common.{append_assoc}
use Rattle.std.specs.Prelude.{codes}
use Rattle.ivm_report.specs.Outcomes.{uncopyable_name}
use Rattle.ivm_report.proofs.outcomes.push_uncopyable.Goals as goal

pub returns : goal.returns
returns c =
    rw (c.in_ok-extend_from_slice-2.ensures.items, c.in_ok-extend_from_slice.ensures.items, c.as_bytes.ensures.value, c.uncopyable_name.ensures)
    (append_assoc c.args.text.now.items (codes "not copyable ") (uncopyable_name c.args.kind))
