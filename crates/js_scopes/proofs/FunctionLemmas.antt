-- The functions of a list from a place on: what the next declaration makes, and then the rest.
use Rattle.std.proofs.Common.{◌≡◌, ◌∙◌, ℕ, ◌+◌, ◌<◌, List, ◌∷◌, Result, Ok, Err, length, drop, get_or, refl, ap, sym}
use Rattle.std.proofs.lemmas.List.{drop_more}
use Rattle.charged_heap.specs.Store.{Store}
use Rattle.charged_heap.specs.declared.fault.Fail.{Fail}
use Rattle.charged_heap.specs.declared.fault.Fail.TheVariants.{NoMemory}
use Rattle.charged_heap.specs.declared.values.Value.TheVariants as value
use Rattle.js_scopes.specs.Scopes.{initialised}
use Rattle.js_trees.specs.declared.declaration.Declaration.{Declaration}
use Rattle.js_trees.specs.declared.declaration.Declaration.TheVariants.{Variable, Constant, Function}
use Rattle.charged_heap.specs.Ends.{Meets, and_then, item_made}
use Rattle.js_scopes.specs.Lists.{function_item, functions_made}
use Rattle.js_scopes.specs.Steps.{function_made}
use Rattle.js_scopes.proofs.Sequences.{and_then_then, stopped}

functions_first : (script global scope : ℕ) (one : Declaration) (more : List Declaration) (s : Store)
    → and_then (function_made script global scope one s) (λ _ after. functions_made script global scope more after)
    ≡ functions_made script global scope (one ∷ more) s
unfolding functions_made
functions_first script global scope (Variable name) more s = refl
functions_first script global scope (Constant name) more s = refl
functions_first script global scope (Function name node) more s =
    and_then_then (item_made (function_item script node scope global) s)
    (λ n after. (Ok tt, initialised after scope name (value.Item n))) (λ _ after. functions_made script global scope more after)

-- the declaration at a place, and then those behind it
functions_at : (script global scope : ℕ) (all : List Declaration) (i : ℕ) (one : Declaration) (s : Store)
    → i < length all → one ≡ get_or all i one
    → and_then (function_made script global scope one s) (λ _ after. functions_made script global scope (drop (i + 1) all) after)
    ≡ functions_made script global scope (drop i all) s
functions_at script global scope all i one s within is =
    functions_first script global scope one (drop (i + 1) all) s
    ∙ ap (λ left. functions_made script global scope left s) (ap (λ d. d ∷ drop (i + 1) all) is ∙ sym (drop_more all i one within))

pub functions_go : (script global scope : ℕ) (all : List Declaration) (i : ℕ) (one : Declaration) (s t : Store) (done : Unit {0})
    → i < length all → one ≡ get_or all i one → Meets (Ok done) t (function_made script global scope one s)
    → functions_made script global scope (drop (i + 1) all) t ≡ functions_made script global scope (drop i all) s
functions_go script global scope all i one s t done within is made =
    sym (ap (λ m. and_then m (λ _ after. functions_made script global scope (drop (i + 1) all) after)) (made given))
    ∙ functions_at script global scope all i one s within is
  where
    given : ◌≡◌ {A = Result (Unit {0}) Fail} (Ok done) (Err NoMemory) → ⊥
    given e = cc

pub functions_stop : (script global scope : ℕ) (all : List Declaration) (i : ℕ) (one : Declaration) (s t : Store) (fail told : Fail) (result : Result ℕ Fail)
    → i < length all → one ≡ get_or all i one → Meets (Err fail) t (function_made script global scope one s)
    → result ≡ Err told → told ≡ fail → Meets result t (functions_made script global scope (drop i all) s)
functions_stop script global scope all i one s t fail told result within is made ends same = λ memory.
    sym (functions_at script global scope all i one s within is)
    ∙ stopped (function_made script global scope one s) fail t (λ _ after. functions_made script global scope (drop (i + 1) all) after)
    made (λ e. memory (ends ∙ ap Err same ∙ e))
    ∙ ap (λ r. (r, t)) (sym (ends ∙ ap Err same))
