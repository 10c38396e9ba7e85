use Rattle.std.proofs.Common.{get_or, sym, ap, ◌∙◌, arith}
use Rattle.js_literals.specs.Copies.{Tree}
use Rattle.js_literals.specs.Told.{form_of_name}
use Rattle.js_literals.specs.View.{tree_at, trees_at}
use Rattle.js_literals.proofs.Nodes.{stands}
use Rattle.js_literals.proofs.Kids.{call_kids, kid_within}
use Rattle.js_literals.proofs.literals.form_of.Goals as goal

pub bounds-kids-0 : goal.bounds-kids-0
bounds-kids-0 c =
    let fit = c.requires.fit c.requires.call in
    let s = stands c.args.script.now c.args.number c.node.result.now c.node.ensures.node c.node.ensures.kids in
    let two = call_kids c.args.script.now c.args.number c.node.result.now c.as_slice-kids.result.now s c.as_slice-kids.ensures.items fit.0 fit.1 fit.2 in
    omega (arith, two.long)

pub bounds-kids-1 : goal.bounds-kids-1
bounds-kids-1 c =
    let fit = c.requires.fit c.requires.call in
    let s = stands c.args.script.now c.args.number c.node.result.now c.node.ensures.node c.node.ensures.kids in
    let two = call_kids c.args.script.now c.args.number c.node.result.now c.as_slice-kids.result.now s c.as_slice-kids.ensures.items fit.0 fit.1 fit.2 in
    omega (arith, two.long)

pub form_at-form-requires-clause-within : goal.form_at-form-requires-clause-within
form_at-form-requires-clause-within c =
    let fit = c.requires.fit c.requires.call in
    let s = stands c.args.script.now c.args.number c.node.result.now c.node.ensures.node c.node.ensures.kids in
    let two = call_kids c.args.script.now c.args.number c.node.result.now c.as_slice-kids.result.now s c.as_slice-kids.ensures.items fit.0 fit.1 fit.2 in
    kid_within c.as_slice-kids.result.now c.node.result.now.kids 0 c.args.number _ c.as_slice-kids.ensures.items c.node.ensures.kids c.requires.within (omega (arith, two.long))

pub form_at-form-requires-clause-passes : goal.form_at-form-requires-clause-passes
form_at-form-requires-clause-passes c =
    let fit = c.requires.fit c.requires.call in
    let s = stands c.args.script.now c.args.number c.node.result.now c.node.ensures.node c.node.ensures.kids in
    let two = call_kids c.args.script.now c.args.number c.node.result.now c.as_slice-kids.result.now s c.as_slice-kids.ensures.items fit.0 fit.1 fit.2 in
    (fit.0, ap (λ (t : Tree). form_of_name t.head.name) two.first ∙ fit.2.is_form)

pub name_at-requires-clause-within : goal.name_at-requires-clause-within
name_at-requires-clause-within c =
    let fit = c.requires.fit c.requires.call in
    let s = stands c.args.script.now c.args.number c.node.result.now c.node.ensures.node c.node.ensures.kids in
    let two = call_kids c.args.script.now c.args.number c.node.result.now c.as_slice-kids.result.now s c.as_slice-kids.ensures.items fit.0 fit.1 fit.2 in
    kid_within c.as_slice-kids.result.now c.node.result.now.kids 1 c.args.number _ c.as_slice-kids.ensures.items c.node.ensures.kids c.requires.within (omega (arith, two.long))

pub name_at-requires-clause-named : goal.name_at-requires-clause-named
name_at-requires-clause-named c =
    let fit = c.requires.fit c.requires.call in
    let s = stands c.args.script.now c.args.number c.node.result.now c.node.ensures.node c.node.ensures.kids in
    let two = call_kids c.args.script.now c.args.number c.node.result.now c.as_slice-kids.result.now s c.as_slice-kids.ensures.items fit.0 fit.1 fit.2 in
    (fit.1, ap (λ (t : Tree). t.head.name) two.second ∙ fit.2.is_name)

pub returns : goal.returns
returns c =
    let fit = c.requires.fit c.requires.call in
    let s = stands c.args.script.now c.args.number c.node.result.now c.node.ensures.node c.node.ensures.kids in
    let two = call_kids c.args.script.now c.args.number c.node.result.now c.as_slice-kids.result.now s c.as_slice-kids.ensures.items fit.0 fit.1 fit.2 in
    let nodes = c.args.script.now in
    let ks = c.as_slice-kids.result.now in (
      c.requires.call,
      record {
        callee = tree_at nodes (get_or ks 0 0);
        passed = tree_at nodes (get_or ks 1 0);
        are_parts = s.parts ∙ ap (trees_at nodes) (sym c.as_slice-kids.ensures.items ∙ two.all);
        is_form = c.form_at-form.ensures;
        is_name = c.in_ok-name.ensures;
      },
    )
