use Rattle.std.proofs.Common.{◌+◌, ◌∷◌, arith, sym, ap, subst, ◌∙◌}
use Rattle.std.proofs.lemmas.Result.{err_from_is_err_and}
use Rattle.host_script.specs.Words.{lines_of}
use Rattle.host_script.specs.Commands.{no_lines}
use Rattle.host_script.specs.HostText.{host_of, with_lines}
use Rattle.host_script.specs.Faults.{Fails}
use Rattle.host_script.proofs.ScriptLemmas.{line_read, line_refused, lines_refused, host_is}
use Rattle.host_script.proofs.EndLemmas.{told_short, read_whole, read_names}
use Rattle.host_script.proofs.read.read_host.Goals as goal

pub loop-line-preserved : goal.loop-line-preserved
loop-line-preserved c = record {
  whole = line_read c.next.new.self.number c.line.new.lines.number c.loop-line.draft c.line.new.self c.in-Some.line.now c.next.new.self.rest.now c.line.new.lines.rest.now
      (with_lines 1 0 no_lines (lines_of c.args.bytes.now))
      (ap (λ n. with_lines n 0 c.loop-line.draft (c.in-Some.line.now ∷ lines_of c.next.new.self.rest.now)) c.in-Some.ensures.number
      ∙ ap (λ ls. with_lines (c.loop-line.lines.number + 1) 0 c.loop-line.draft ls) (sym c.in-Some.ensures.line)
      ∙ c.loop-line.invariant.whole)
      c.in_ok-line.ensures.gives c.in_ok-line.ensures.goes;
  within = omega (arith, c.in_ok-line.ensures.goes.shorter, c.in-Some.ensures.number, c.in-Some.ensures.shorter);
}

pub returns-in_err-line-clause-exact : goal.returns-in_err-line-clause-exact
returns-in_err-line-clause-exact c =
    let p = err_from_is_err_and c.from_residual.result c.from_residual.ensures.1 in
    rw p.1 (subst (λ fault. Fails fault (host_of c.args.bytes.now)) (sym p.2)
    (subst (Fails c.in_err-line.field-0.0) (sym (host_is c.args.bytes.now (omega arith)))
    (lines_refused (with_lines 1 0 no_lines (lines_of c.args.bytes.now)) c.in_err-line.field-0.0
    (line_refused c.next.new.self.number c.loop-line.draft c.in-Some.line.now c.next.new.self.rest.now
    (with_lines 1 0 no_lines (lines_of c.args.bytes.now)) c.in_err-line.field-0.0
    (ap (λ n. with_lines n 0 c.loop-line.draft (c.in-Some.line.now ∷ lines_of c.next.new.self.rest.now)) c.in-Some.ensures.number
    ∙ ap (λ ls. with_lines (c.loop-line.lines.number + 1) 0 c.loop-line.draft ls) (sym c.in-Some.ensures.line)
    ∙ c.loop-line.invariant.whole)
    c.in_err-line.ensures.gives))))

pub returns-in_err-line-clause-too_long : goal.returns-in_err-line-clause-too_long
returns-in_err-line-clause-too_long c = told_short c.args.bytes.now c.from_residual.result (omega arith) (returns-in_err-line-clause-exact c)

pub returns-clause-whole : goal.returns-clause-whole
returns-clause-whole c = read_whole c.args.bytes.now c.loop-line.lines.rest.now (c.loop-line.lines.number + 1) c.loop-line.draft c.loop-line.invariant.whole c.in_default.ensures.line

pub returns-clause-named : goal.returns-clause-named
returns-clause-named c = read_names c.args.bytes.now c.loop-line.lines.rest.now (c.loop-line.lines.number + 1) c.loop-line.draft c.loop-line.invariant.whole c.in_default.ensures.line
