-- What a place and a site need of a store that has grown, and keys that are none.
use Rattle.std.proofs.Common.{◌≡◌, ℕ, true, false, List, [], Option, Some, None, refl}
use Rattle.std.specs.Prelude.{is_some}
use Rattle.std.specs.Option.{unwrap_or}
use Rattle.charged_heap.proofs.GrowthLaws.{grows_then}
use Rattle.charged_heap.proofs.ClosedLaws.{value_grows}
use Rattle.script_steps.proofs.Growing.{place_grows, site_grows}

-- ---- keys

pub no_key : (units : Option (List ℕ)) → is_some units ≡ false → units ≡ None
no_key None none = refl
no_key (Some units) none = cc

pub a_key : (units : Option (List ℕ)) → is_some units ≡ true → units ≡ Some (unwrap_or units [])
a_key None some = cc
a_key (Some units) some = refl

pub ruleset growth = (place_grows, site_grows, value_grows, grows_then)
