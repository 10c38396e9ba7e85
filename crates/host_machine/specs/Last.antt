-- A list without its last item. No caller needs this.
-- This project's own; docs/HOST.md, "What the host does".
use Rattle.std.specs.Prelude.{◌≡◌, List, [], ◌∷◌, ◌++◌}

-- whatever was last in the old list is not in the new one
abbrev pub DropsLast : {A : Type 0} → List A → List A → Type 0
DropsLast {A} old new = (rest : List A) (last : A) → old ≡ rest ++ last ∷ [] → new ≡ rest
