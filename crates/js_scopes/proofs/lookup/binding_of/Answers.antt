use Rattle.std.proofs.Common.{◌≡◌, ◌∙◌, None, ap, subst, sym}
use Rattle.std.specs.Prelude.{IfSome}
use Rattle.charged_heap.specs.Store.{IsAt, IsScope, item_at}
use Rattle.charged_heap.specs.Bindings.{place_of}
use Rattle.js_scopes.specs.Bindings.{bindings_of, parent_of}
use Rattle.js_scopes.proofs.Walks.{outwards_from, step_out, parent_there}
use Rattle.js_scopes.proofs.lookup.binding_of.Goals as goal

pub loop-next-preserved : goal.loop-next-preserved
loop-next-preserved c =
    let at : IsAt IsScope c.args.heap.now c.in-Some.here =
    subst (λ next. IfSome next (IsAt IsScope c.args.heap.now)) c.in-Some.is c.loop-next.invariant.there in
    let parent : c.parent_of-next.result ≡ parent_of (item_at c.args.heap.now c.in-Some.here) =
    c.parent_of-next.ensures ∙ ap parent_of c.get-item.ensures in
    let none : place_of (bindings_of (item_at c.args.heap.now c.in-Some.here)) c.args.name.now ≡ None =
    ap (λ one. place_of (bindings_of one) c.args.name.now) (sym c.get-item.ensures) ∙ sym c.place_in.ensures.place ∙ c.in_default-place_in.is in
    record {
      same =
          ap (outwards_from c.args.heap.now c.args.name.now) parent
          ∙ step_out c.args.heap.now c.args.name.now c.in-Some.here c.requires.closed at none
          ∙ ap (outwards_from c.args.heap.now c.args.name.now) (sym c.in-Some.is)
          ∙ c.loop-next.invariant.same;
      there =
          subst (λ next. IfSome next (IsAt IsScope c.args.heap.now)) (sym parent)
          (parent_there c.args.heap.now c.in-Some.here c.requires.closed at);
    }
