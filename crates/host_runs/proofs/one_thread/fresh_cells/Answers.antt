use Rattle.std.proofs.Common.{[], ◌∷◌, ◌++◌, sym, ap, take, ◌∙◌}
use Rattle.isolate_meaning.specs.Replay.{Kept, fresh_cell}
use Rattle.host_syntax.specs.declared.script.IsolateDecl.{IsolateDecl}
use Rattle.host_laws.specs.Driving.{fresh_cells}
use Rattle.host_laws.proofs.Driven.{fresh_more}
use Rattle.host_runs.proofs.one_thread.fresh_cells.Goals as goal

pub loop-number-preserved : goal.loop-number-preserved
loop-number-preserved c =
    let n = c.loop-number.number in
    let decls = c.args.decls.now in
    c.in_ok-push.ensures.items
    ∙ ap (λ cells. cells ++ c.in_ok-new.field-0 ∷ []) c.loop-number.invariant
    ∙ ap (λ (cell : Kept). fresh_cells 0 (take n decls) ++ cell ∷ []) (c.in_ok-new.ensures ∙ ap (λ (decl : IsolateDecl). fresh_cell n decl.limit) c.index-decls-number.is)
    ∙ sym (fresh_more decls n c.index-decls-number.result c.loop-number-test.true)
