-- The least place of an unbuilt form among the nodes of a script. No caller needs this.
-- This project's own; docs/SCRIPTS.md, "What isn't built".
use Rattle.std.specs.Prelude.{ℕ, zero, suc, min, List, Option, None, Some, if◌then◌else◌}
use Rattle.js_syntax.specs.declared.node.Node.{Node}
use Rattle.js_trees.specs.Tree.{node_at}
use Rattle.js_scripts.specs.Unbuilt.{is_unbuilt}

-- the lower of two places
abbrev pub lower_of : Option ℕ → Option ℕ → Option ℕ
lower_of None other = other
lower_of (Some place) None = Some place
lower_of (Some place) (Some other) = Some (min place other)

-- where a form stands that isn't built
abbrev pub unbuilt_place : Node → Option ℕ
unbuilt_place node = if is_unbuilt (node.kind) then Some (node.place) else None

-- the least such place among the first n nodes
unfoldable pub lowest_below : List Node → ℕ → Option ℕ
lowest_below nodes zero = None
lowest_below nodes (suc n) = lower_of (lowest_below nodes n) (unbuilt_place (node_at nodes n))
