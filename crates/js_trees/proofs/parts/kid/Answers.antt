use Rattle.std.proofs.Common.{◌≡◌, Some, ap, arith, get_or, length, slice_get}
use Rattle.std.proofs.lemmas.Option.{slice_get-get_or}
use Rattle.js_trees.proofs.parts.kid.Goals as goal

pub bounds-as_slice-i : goal.bounds-as_slice-i
bounds-as_slice-i c = omega (arith, ap length c.as_slice.ensures.items, c.form.ensures.count)

pub returns-clause-tree : goal.returns-clause-tree
returns-clause-tree c =
    let here : slice_get c.form.result.now.kids c.args.i ≡ Some (get_or c.form.result.now.kids c.args.i 0) = slice_get-get_or c.form.result.now.kids c.args.i 0 (omega (arith, c.form.ensures.count)) in
    rw c.as_slice.ensures.items (c.form.ensures.each c.args.i (get_or c.form.result.now.kids c.args.i 0) here)

pub returns-clause-below : goal.returns-clause-below
returns-clause-below c =
    let here : slice_get c.form.result.now.kids c.args.i ≡ Some (get_or c.form.result.now.kids c.args.i 0) = slice_get-get_or c.form.result.now.kids c.args.i 0 (omega (arith, c.form.ensures.count)) in
    rw c.as_slice.ensures.items (c.form.ensures.kids c.args.i (get_or c.form.result.now.kids c.args.i 0) here)
