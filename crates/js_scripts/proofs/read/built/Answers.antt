use Rattle.std.proofs.Common.{Some, None, List, length, refl, ap, ◌∙◌}
use Rattle.js_syntax.specs.declared.node.Node.{Node}
use Rattle.js_scripts.specs.Lowest.{lowest_below}
use Rattle.js_scripts.proofs.ReadingLemmas.{unbuilt_told, whole_told}
use Rattle.js_scripts.proofs.read.built.Goals as goal

pub returns-in-Some-clause-err : goal.returns-in-Some-clause-err
returns-in-Some-clause-err c =
    unbuilt_told c.args.checked (Some c.in-Some.place) c.in-Some.place c.unbuilt.result c.script.ensures.checked c.requires
    (c.in-Some.ensures ∙ ap (λ (nodes : List Node). lowest_below nodes (length nodes)) c.script.ensures.script) refl c.unbuilt.ensures

pub returns-in-None-clause-ok : goal.returns-in-None-clause-ok
returns-in-None-clause-ok c =
    whole_told c.args.checked None c.script.ensures.checked c.requires
    (c.in-None.ensures ∙ ap (λ (nodes : List Node). lowest_below nodes (length nodes)) c.script.ensures.script) refl
