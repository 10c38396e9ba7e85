-- The bindings of a scope by name.
-- ECMA-262, Declarative Environment Records; docs/SCRIPTS.md, "Names and scopes".
use Rattle.std.specs.Prelude.{ℕ, List, Option, position}
use Rattle.ivm_text.specs.Keys.{is_key}
use Rattle.charged_heap.specs.declared.values.Binding.{Binding}

-- the place of the first binding with the name
abbrev pub place_of : List Binding → List ℕ → Option ℕ
place_of bindings name = position (λ b. is_key b.name name) bindings
