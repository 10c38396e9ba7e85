-- The index by which bindings are found. No caller needs this.
-- This project's own. No statement about ECMA-262.
use Rattle.std.specs.Prelude.{◌≡◌, ℕ, List, is_some, if◌then◌else◌}
use Rattle.ivm_text.specs.Keys.{value_at, with_value}
use Rattle.charged_heap.specs.Bindings.{place_of}
use Rattle.charged_heap.specs.declared.values.Binding.{Binding}

-- each name has there the place of its first binding, and a name without a binding has none
pub record IsIndex (places : List (List ℕ × ℕ)) (bindings : List Binding) : Type 0 where
  pub finds : (name : List ℕ) → value_at places name ≡ place_of bindings name

-- the place noted for the name, unless it has one
abbrev pub with_first : List (List ℕ × ℕ) → List ℕ → ℕ → List (List ℕ × ℕ)
with_first places name place =
    if is_some (value_at places name) then places else with_value places name place
