-- The bindings of a scope: by place, and with one more. `charged_heap` has their places by name.
-- ECMA-262, Declarative Environment Records; docs/SCRIPTS.md, "Names and scopes".
use Rattle.std.specs.Prelude.{◌≡◌, ℕ, List, [], ◌∷◌, ◌++◌, Bool, false, Option, None, is_some, slice_index_or, if◌then◌else◌, AllPairs}
use Rattle.ivm_text.specs.Keys.{is_key}
use Rattle.charged_heap.specs.declared.item.Item.{Item}
use Rattle.charged_heap.specs.declared.item.Item.TheVariants.{Scope}
use Rattle.charged_heap.specs.Bindings.{place_of}
use Rattle.charged_heap.specs.declared.values.Binding.{Binding}

-- ---- parts of a scope, and nothing at an item of another kind

abbrev pub bindings_of : Item → List Binding
bindings_of (Scope parent bindings functions) = bindings
bindings_of _ = []

-- the scope around it
abbrev pub parent_of : Item → Option ℕ
parent_of (Scope parent bindings functions) = parent
parent_of _ = None

-- the names that it notes as functions'
abbrev pub functions_of : Item → List (List ℕ)
functions_of (Scope parent bindings functions) = functions
functions_of _ = []

-- ---- one of the bindings

-- a name that is declared and has no value yet: it is in its dead zone
abbrev pub new_binding : List ℕ → Bool → Binding
new_binding name constant = record { name = name; constant = constant; value = None }

-- the binding at a place, or one that stands for none
abbrev pub binding_at : Item → ℕ → Binding
binding_at scope place = slice_index_or (bindings_of scope) place (new_binding [] false)

-- ---- one more

-- the bindings, and the name declared behind them where none of them has it
abbrev pub with_new : List Binding → List ℕ → Bool → List Binding
with_new bindings name constant =
    if is_some (place_of bindings name) then bindings else bindings ++ new_binding name constant ∷ []

-- no two of the bindings have one name
abbrev pub AreDistinct : List Binding → Type 0
AreDistinct bindings = AllPairs (λ a b. is_key a.name b.name ≡ false) bindings
