-- The forms that a script may not have yet, and the first of them in the text.
-- This project's own; docs/SCRIPTS.md, "What isn't built".
use Rattle.std.specs.Prelude.{ℕ, min, Bool, true, false, List, [], ◌∷◌, ◌++◌, Option, None, Some, if◌then◌else◌}
use Rattle.js_syntax.specs.declared.kind.Kind.{Kind}
use Rattle.js_syntax.specs.declared.kind.Kind.TheVariants as kinds
use Rattle.js_syntax.specs.Tree.{Trees, nothing, tree}

-- a form of this kind can't be carried out yet
abbrev pub is_unbuilt : Kind → Bool
is_unbuilt kinds.New = true
is_unbuilt _ = false

-- where such forms stand among these trees
abbrev pub unbuilt_places : Trees → List ℕ
unbuilt_places nothing = []
unbuilt_places (tree head kids rest) =
    (if is_unbuilt head.kind then head.place ∷ [] else []) ++ (unbuilt_places kids ++ unbuilt_places rest)

-- the least of these places
abbrev pub least_of : Option ℕ → ℕ → ℕ
least_of None place = place
least_of (Some other) place = min other place

abbrev pub least : List ℕ → Option ℕ
least [] = None
least (place ∷ places) = Some (least_of (least places) place)

-- the place of the first form in the text that can't be carried out yet
abbrev pub first_unbuilt : Trees → Option ℕ
first_unbuilt t = least (unbuilt_places t)
