-- Bindings given a value.
use Rattle.std.specs.Prelude.{slice_get, slice_set}
use Rattle.std.proofs.Common.{◌≡◌, ℕ, zero, suc, List, [], ◌∷◌, Some, ap, refl, sym}
use Rattle.charged_heap.specs.declared.values.Binding.{Binding}
use Rattle.charged_heap.specs.declared.values.Value.{Value}
use Rattle.charged_heap.specs.Store.{with_value_of, with_bound}

-- one taken out, and put back with its value
pub with_bound-set : (bindings : List Binding) (place : ℕ) (vacant b : Binding) (v : Value) → slice_get bindings place ≡ Some b
    → slice_set (slice_set bindings place vacant) place (with_value_of b v) ≡ with_bound bindings place v
with_bound-set [] place vacant b v at = refl
with_bound-set (c ∷ rest) zero vacant b v at = let same : c ≡ b = cc in ap (λ one. with_value_of one v ∷ rest) (sym same)
with_bound-set (c ∷ rest) (suc place) vacant b v at = ap (λ more. c ∷ more) (with_bound-set rest place vacant b v at)
