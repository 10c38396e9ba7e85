-- What a new scope holds is sound, and making a scope throws nothing.
use Rattle.std.proofs.Common.{◌≡◌, ℕ, Bool, true, false, List, [], ◌∷◌, ◌++◌, Option, Result, Ok, Err, length, ap, arith}
use Rattle.std.specs.Prelude.{◌+◌, is_some, nat_le, IfErr, if◌then◌else◌}
use Rattle.std.specs.List.{All}
use Rattle.std.proofs.lemmas.List.Elements.{All-append, All-cons}
use Rattle.charged_heap.specs.Price.{charge_of, price_of}
use Rattle.charged_heap.specs.Room.{overrun_of}
use Rattle.charged_heap.specs.Store.{Store, with_more}
use Rattle.charged_heap.specs.Closed.{IsSoundBinding}
use Rattle.charged_heap.specs.declared.fault.Fail.{Fail}
use Rattle.charged_heap.specs.declared.fault.Fail.TheVariants.{Throw, Over, NoMemory}
use Rattle.charged_heap.specs.declared.item.Item.{Item}
use Rattle.charged_heap.specs.declared.values.Binding.{Binding}
use Rattle.charged_heap.specs.declared.values.Value.{Value}
use Rattle.charged_heap.specs.Bindings.{place_of}
use Rattle.js_scopes.specs.Bindings.{new_binding, with_new}
use Rattle.js_scopes.specs.Scopes.{scope_made, scope_with}
use Rattle.js_trees.specs.declared.declaration.Declaration.{Declaration}
use Rattle.js_trees.specs.declared.declaration.Declaration.TheVariants.{Variable, Constant, Function}
use Rattle.charged_heap.specs.Ends.{Ends, Meets, IsSoundFail, item_made}
use Rattle.js_scopes.specs.Lists.{with_parameters, with_declared}

-- ---- names without values

none_sound : (s : Store) → All (IsSoundBinding s) []
none_sound s = λ k d within. absurd (omega (arith, within))

new_sound : (s : Store) (bindings : List Binding) (name : List ℕ) (constant : Bool)
    → All (IsSoundBinding s) bindings → All (IsSoundBinding s) (with_new bindings name constant)
new_sound s bindings name constant sound = by (is_some (place_of bindings name))
  where
    by : (known : Bool) → All (IsSoundBinding s) (if known then bindings else bindings ++ new_binding name constant ∷ [])
    by true = sound
    by false =
        All-append (IsSoundBinding s) bindings (new_binding name constant ∷ []) sound
        (All-cons (IsSoundBinding s) (new_binding name constant) [] tt (none_sound s))

parameters_sound : (s : Store) (bindings : List Binding) (names : List (List ℕ))
    → All (IsSoundBinding s) bindings → All (IsSoundBinding s) (with_parameters bindings names)
parameters_sound s bindings [] sound = sound
parameters_sound s bindings (name ∷ names) sound =
    parameters_sound s (with_new bindings name false) names (new_sound s bindings name false sound)

declared_sound : (s : Store) (bindings : List Binding) (declared : List Declaration)
    → All (IsSoundBinding s) bindings → All (IsSoundBinding s) (with_declared bindings declared)
declared_sound s bindings [] sound = sound
declared_sound s bindings (Variable name ∷ more) sound =
    declared_sound s (with_new bindings name false) more (new_sound s bindings name false sound)
declared_sound s bindings (Constant name ∷ more) sound =
    declared_sound s (with_new bindings name true) more (new_sound s bindings name true sound)
declared_sound s bindings (Function name node ∷ more) sound =
    declared_sound s (with_new bindings name false) more (new_sound s bindings name false sound)

-- the bindings of a new scope, and of one for a single name
pub bindings_sound : (s : Store) (names : List (List ℕ)) (declared : List Declaration)
    → All (IsSoundBinding s) (with_declared (with_parameters [] names) declared)
bindings_sound s names declared = declared_sound s (with_parameters [] names) declared (parameters_sound s [] names (none_sound s))

pub binding_sound : (s : Store) (name : List ℕ) (constant : Bool) → All (IsSoundBinding s) (with_new [] name constant)
binding_sound s name constant = new_sound s [] name constant (none_sound s)

-- ---- failures

-- one more item is made, or it is refused or finds no memory
item_throws_nothing : (one : Item) (s t : Store) (v : Value) → ◌≡◌ {A = Ends ℕ} (item_made one s) (Err (Throw v), t) → ⊥
item_throws_nothing one s t v e = by (nat_le (charge_of s.items + price_of one) s.limit) e
  where
    by : (fits : Bool) → ◌≡◌ {A = Ends ℕ} (if fits then (Ok (length s.items), with_more s one)
        else (Err (Over (overrun_of s (price_of one))), s)) (Err (Throw v), t) → ⊥
    by true e = let made : ◌≡◌ {A = Result ℕ Fail} (Ok (length s.items)) (Err (Throw v)) = ap (λ (p : Ends ℕ). p.0) e in cc
    by false e = let refused : ◌≡◌ {A = Result ℕ Fail} (Err (Over (overrun_of s (price_of one)))) (Err (Throw v)) = ap (λ (p : Ends ℕ). p.0) e in cc

-- so is a scope
pub scope_throws_nothing : (parent : Option ℕ) (bindings : List Binding) (s t : Store) (result : Result ℕ Fail)
    → Meets result t (scope_made parent bindings s) → IfErr result (IsSoundFail t)
unfolding scope_made
scope_throws_nothing parent bindings s t (Ok n) meets = tt
scope_throws_nothing parent bindings s t (Err (Over told)) meets = tt
scope_throws_nothing parent bindings s t (Err NoMemory) meets = tt
scope_throws_nothing parent bindings s t (Err (Throw v)) meets = absurd (item_throws_nothing (scope_with parent bindings) s t v (meets (λ e. cc)))
