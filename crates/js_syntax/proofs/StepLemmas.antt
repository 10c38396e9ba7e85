-- One turn of a loop over a list, of which the first element is taken off.
use Rattle.std.proofs.Common.{◌≡◌, ℕ, ◌-◌, ◌<◌, ◌≤◌, Bool, List, [], ◌∷◌, length, take, drop, get_or, Option, None, slice_get, if◌then◌else◌, refl, ap, sym, ◌∙◌, arith}
use Rattle.std.proofs.Math.Seq.{take-length}
use Rattle.js_syntax.specs.declared.around.Around.{Around}
use Rattle.js_syntax.specs.declared.fault.Fault.{Fault}
use Rattle.js_syntax.specs.declared.faults.Faults.{Faults}
use Rattle.js_syntax.specs.declared.listing.Declared.{Declared}
use Rattle.js_syntax.specs.Noted.{earlier_of, least, noted_fault, parts_fault, twice_fault, twice_keys, with_key}
use Rattle.js_syntax.specs.Names.{twice}
use Rattle.js_syntax.proofs.OrderLemmas.{earlier_assoc, earlier_none, least_append}

-- what is left of a list behind its first element
abbrev pub behind : {A : Type 0} → List A → List A
behind xs = take (length xs - 1) (drop 1 xs)

behind_first : {A : Type 0} (x : A) (xs : List A) → behind (x ∷ xs) ≡ xs
behind_first x xs =
    let e : length (x ∷ xs) - 1 ≡ length xs = omega arith in ap (λ n. take n xs) e ∙ take-length xs

pub parts_step : (noted : List Faults) (around : Around) (start told next part : Option Fault) (left : List ℕ)
    → 1 ≤ length left → start ≡ earlier_of told (parts_fault noted around left)
    → part ≡ noted_fault (slice_get noted (get_or left 0 0)) around → next ≡ earlier_of told part
    → start ≡ earlier_of next (parts_fault noted around (behind left))
parts_step noted around start told next part [] some before is_part is_next = absurd (omega arith)
parts_step noted around start told next part (k ∷ ks) some before is_part is_next =
    before
    ∙ (ap (λ x. earlier_of told (earlier_of x (parts_fault noted around ks))) (sym is_part)
    ∙ (sym (earlier_assoc told part (parts_fault noted around ks))
    ∙ (ap (λ x. earlier_of x (parts_fault noted around ks)) (sym is_next)
    ∙ ap (λ x. earlier_of next (parts_fault noted around x)) (sym (behind_first k ks)))))

pub twice_step : (shared : Bool) (others functions others' functions' : List (List ℕ)) (start told next fault : Option Fault) (left : List Declared) (it : Declared)
    → 1 ≤ length left → start ≡ earlier_of told (least (twice_keys shared others functions left))
    → it ≡ get_or left 0 it → fault ≡ least (twice_fault shared others functions it)
    → next ≡ earlier_of told fault
    → others' ≡ (if it.by_function then others else with_key others (it.name))
    → functions' ≡ (if it.by_function then with_key functions (it.name) else functions)
    → start ≡ earlier_of next (least (twice_keys shared others' functions' (behind left)))
twice_step shared others functions others' functions' start told next fault [] it some before is_first is_fault is_next is_others is_functions = absurd (omega arith)
twice_step shared others functions others' functions' start told next fault (x ∷ xs) it some before is_first is_fault is_next is_others is_functions =
    let rest : List Fault =
    twice_keys shared (if it.by_function then others else with_key others (it.name)) (if it.by_function then with_key functions (it.name) else functions) xs in
    before
    ∙ (ap (λ y. earlier_of told (least (twice_keys shared others functions (y ∷ xs)))) (sym is_first)
    ∙ (ap (λ y. earlier_of told y) (least_append (twice_fault shared others functions it) rest)
    ∙ (ap (λ y. earlier_of told (earlier_of y (least rest))) (sym is_fault)
    ∙ (sym (earlier_assoc told fault (least rest))
    ∙ (ap (λ y. earlier_of y (least rest)) (sym is_next)
    ∙ (ap (λ y. earlier_of next (least (twice_keys shared y (if it.by_function then with_key functions (it.name) else functions) xs))) (sym is_others)
    ∙ (ap (λ y. earlier_of next (least (twice_keys shared others' y xs))) (sym is_functions)
    ∙ ap (λ y. earlier_of next (least (twice_keys shared others' functions' y))) (sym (behind_first x xs)))))))))

pub twice_end : (shared : Bool) (others functions : List (List ℕ)) (start told : Option Fault) (left : List Declared)
    → length left < 1 → start ≡ earlier_of told (least (twice_keys shared others functions left))
    → told ≡ start
twice_end shared others functions start told [] none before = sym (before ∙ earlier_none told)
twice_end shared others functions start told (x ∷ xs) none before = absurd (omega arith)

pub twice_short : (shared : Bool) (list : List Declared) → length list < 2
    → None ≡ least (twice shared [] list)
twice_short shared [] short = refl
twice_short shared (x ∷ []) short = refl
twice_short shared (x ∷ y ∷ zs) short = absurd (omega arith)
