use Rattle.js_lexer.proofs.PlaceLemmas.{place_found, place_within}
use Rattle.js_lexer.proofs.places.place_in.Goals as goal

pub bounds-places-saturating_sub : goal.bounds-places-saturating_sub
bounds-places-saturating_sub c =
    place_within c.args.places.now c.args.text.now c.args.rest.now c.saturating_sub.result c.requires c.saturating_sub.ensures

pub returns : goal.returns
returns c = place_found c.args.places.now c.args.text.now c.args.rest.now c.saturating_sub.result c.requires c.saturating_sub.ensures
