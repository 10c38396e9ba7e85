use Rattle.std.proofs.Common.{◌≡◌, ◌++◌, None, slice_get, ap, sym, ◌∙◌}
use Rattle.std.proofs.lemmas.List.{append-nil}
use Rattle.std.proofs.lemmas.Option.{slice_get_past}
use Rattle.js_syntax.specs.Noted.{declares_found}
use Rattle.js_syntax.proofs.listing.add_declared_at.Goals as goal

pub returns-in-None : goal.returns-in-None
returns-in-None c =
    let past : slice_get c.args.nodes.now c.args.kid ≡ None = slice_get_past c.args.nodes.now c.args.kid c.in-None.ensures.lookup.3 in
    sym (append-nil c.args.list.now.items) ∙ ap (λ found. c.args.list.now.items ++ declares_found c.args.functions found) (sym past)
