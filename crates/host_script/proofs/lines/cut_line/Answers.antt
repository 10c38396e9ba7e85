use Rattle.std.proofs.Common.{◌+◌, ◌-◌, ◌∷◌, ◌∙◌, ap, sym, length, drop, arith}
use Rattle.std.proofs.lemmas.List.{take_all, length-drop}
use Rattle.host_script.specs.Words.{lines_of}
use Rattle.host_script.proofs.LineLemmas.{line_before}
use Rattle.host_script.proofs.lines.cut_line.Goals as goal

pub returns-in-Some-clause-lines : goal.returns-in-Some-clause-lines
returns-in-Some-clause-lines c =
    let bytes = c.args.bytes.now in
    let end = c.in-Some.end in
    line_before bytes end (sym c.newline.ensures ∙ c.in-Some.is)
    ∙ ap (λ l. l ∷ lines_of (drop (end + 1) bytes)) (sym c.without_return.ensures)
    ∙ ap (λ l. c.without_return.result.now ∷ lines_of l) (sym (take_all (length bytes - (end + 1)) (drop (end + 1) bytes) (omega (arith, length-drop (end + 1) bytes))))
