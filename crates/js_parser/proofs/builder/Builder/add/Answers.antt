use Rattle.std.proofs.Common.{◌≡◌, ℕ, ◌+◌, ◌<◌, List, [], ◌∷◌, ◌++◌, length, true, Some, sym, ap, ◌∙◌, subst, arith, slice_get, length-append}
use Rattle.js_syntax.specs.declared.node.Node.{Node}
use Rattle.js_parser.specs.declared.draft.Piece.{Piece}
use Rattle.js_parser.specs.View.{work_of, known, all_known}
use Rattle.js_parser.proofs.Built as built
use Rattle.js_parser.proofs.Works as works
use Rattle.js_parser.proofs.builder.Builder.add.Goals as goal

pub add-requires : goal.add-requires
add-requires c = subst (λ (n : Node). (k m : ℕ) → slice_get n.kids k ≡ Some m → m < length c.args.self.now.nodes) (sym c.in_ok-node.ensures)
    (works.kids_below (length c.args.self.now.nodes) c.args.draft.pieces c.requires)

pub invariant_of-self-2 : goal.invariant_of-self-2
invariant_of-self-2 c =
    let long : length c.add.new.self ≡ length c.args.self.now.nodes + 1 = ap (λ (ns : List Node). length ns) c.in_ok-number.ensures.ok ∙ length-append c.args.self.now.nodes (c.in_ok-node.node ∷ []) in
    record {
      top_known = c.put_piece.ensures.known (length c.add.new.self) (subst (λ (n : ℕ). known n c.args.self.now.top.pieces ≡ true) (sym long) (built.known_more (length c.args.self.now.nodes) c.args.self.now.top.pieces c.args.self.now.top_known))
          (omega (arith, c.in_ok-number.ensures.number));
      below_known = subst (λ (n : ℕ). all_known n c.args.self.now.below ≡ true) (sym long) (built.all_known_more (length c.args.self.now.nodes) c.args.self.now.below c.args.self.now.below_known);
    }

pub returns : goal.returns
returns c = works.ok_map c.put_piece.result
    (λ _ e rest. ap (λ (nodes : List Node). work_of rest nodes (record (c.args.self.now.top) { pieces = c.put_piece.new.pieces }) c.args.self.now.below) c.in_ok-number.ensures.ok
    ∙ built.added_work rest c.args.self.now.nodes c.in_ok-node.node c.args.draft c.args.self.now.top (record (c.args.self.now.top) { pieces = c.put_piece.new.pieces }) c.args.self.now.below
    c.in_ok-node.ensures
    (ap (λ (ps : List Piece). record (c.args.self.now.top) { pieces = ps }) (e ∙ ap (λ (n : ℕ). c.args.self.now.top.pieces ++ record { node = n; start = c.args.draft.place } ∷ []) c.in_ok-number.ensures.number))
    c.args.self.now.top_known c.args.self.now.below_known)
    c.put_piece.ensures.ok
