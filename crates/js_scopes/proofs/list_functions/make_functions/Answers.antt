use Rattle.std.proofs.Common.{◌<◌, ◌∙◌, length, get_or, ap, subst, sym}
use Rattle.std.proofs.lemmas.Result.{err_from_is_err_and}
use Rattle.charged_heap.proofs.GrowthLaws.{grows_then}
use Rattle.js_scopes.proofs.FunctionLemmas.{functions_go, functions_stop}
use Rattle.js_scopes.proofs.list_functions.make_functions.Goals as goal

pub loop-declaration-preserved : goal.loop-declaration-preserved
loop-declaration-preserved c =
    let i = c.loop-declaration.declaration-index in
    let e = c.as_slice-declaration-items.ensures.items in
    record {
      same =
          functions_go c.args.script c.args.global c.args.scope c.args.declared.now i c.declaration-item.result
          c.loop-declaration.heap c.make_declared.new.heap c.in_ok-make_declared.field-0 (subst (λ all. i < length all) e c.loop-declaration-test.true)
          (c.declaration-item.is ∙ ap (λ all. get_or all i c.declaration-item.result) e) c.in_ok-make_declared.ensures.meets
          ∙ c.loop-declaration.invariant.same;
      grown = grows_then c.args.heap.now c.loop-declaration.heap c.make_declared.new.heap c.loop-declaration.invariant.grown c.in_ok-make_declared.ensures.grown;
      closed = λ was. c.in_ok-make_declared.ensures.closed (c.loop-declaration.invariant.closed was);
    }

pub returns-in_err-make_declared-clause-meets : goal.returns-in_err-make_declared-clause-meets
returns-in_err-make_declared-clause-meets c =
    let i = c.loop-declaration.declaration-index in
    let e = c.as_slice-declaration-items.ensures.items in
    let p = err_from_is_err_and c.from_residual.result c.from_residual.ensures.1 in
    λ memory. sym c.loop-declaration.invariant.same
    ∙ functions_stop c.args.script c.args.global c.args.scope c.args.declared.now i c.declaration-item.result
    c.loop-declaration.heap c.make_declared.new.heap c.in_err-make_declared.field-0.0 p.0 c.from_residual.result
    (subst (λ all. i < length all) e c.loop-declaration-test.true) (c.declaration-item.is ∙ ap (λ all. get_or all i c.declaration-item.result) e)
    c.in_err-make_declared.ensures.meets p.1 p.2 memory
