-- A name was declared before where it is among the names that were noted.
use Rattle.std.proofs.Common.{◌≡◌, ℕ, Bool, true, false, ◌&&◌, ◌||◌, not, nat_eq, List, [], ◌∷◌, ◌++◌, if◌then◌else◌, refl, ap, sym, ◌∙◌}
use Rattle.std.specs.List.{list_any}
use Rattle.std.proofs.lemmas.List.Folds.{list_any-append}
use Rattle.std.proofs.lemmas.Cmp.{nat_list_eq_equiv}
use lib.Pointwise.{pointwise}
use Rattle.js_syntax.specs.declared.fault.FaultKind.TheVariants.{TwiceDeclared}
use Rattle.js_syntax.specs.Order.{fault}
use Rattle.js_syntax.specs.declared.listing.Declared.{Declared}
use Rattle.js_syntax.specs.Names.{clashes, twice}
use Rattle.js_syntax.specs.Noted.{has_key, with_key, clashes_keys, twice_keys}

-- ---- tests

apart : (same own shared mine x y : Bool)
    → ((same && not (shared && (mine && own))) || (x || (y && not (shared && mine))))
    ≡ (((same && not own) || x) || (((same && own) || y) && not (shared && mine)))
apart false own shared mine x y = refl
apart true false shared mine x y = by shared mine
  where
    by : (shared mine : Bool)
        → ((true && not (shared && (mine && false))) || (x || (y && not (shared && mine))))
        ≡ (((true && not false) || x) || (((true && false) || y) && not (shared && mine)))
    by true true = refl
    by true false = refl
    by false mine = refl
apart true true false mine false y = refl
apart true true false mine true y = refl
apart true true true false false y = refl
apart true true true false true y = refl
apart true true true true x true = refl
apart true true true true x false = refl

-- ---- names that were noted

-- whether a name was declared before, by functions or otherwise
abbrev any_of : Bool → List ℕ → List Declared → Bool
any_of own name earlier =
    list_any (λ it. pointwise nat_eq name (it.name) && (if own then it.by_function else not (it.by_function))) earlier

-- these keys are the names that were declared before, by functions or otherwise
record Keeps (own : Bool) (keys : List (List ℕ)) (earlier : List Declared) : Type 0 where
  pub keeps : (name : List ℕ) → has_key keys name ≡ any_of own name earlier

clashes_apart : (shared : Bool) (it : Declared) (earlier : List Declared)
    → clashes shared it earlier ≡ (any_of false (it.name) earlier || (any_of true (it.name) earlier && not (shared && it.by_function)))
clashes_apart shared it [] = refl
clashes_apart shared it (other ∷ earlier) =
    let same = pointwise nat_eq (it.name) (other.name) in
    ap (λ x. (same && not (shared && (it.by_function && other.by_function))) || x) (clashes_apart shared it earlier)
    ∙ apart same (other.by_function) shared (it.by_function) (any_of false (it.name) earlier) (any_of true (it.name) earlier)

clashes_kept : (shared : Bool) (others functions : List (List ℕ)) (earlier : List Declared) (it : Declared)
    → Keeps false others earlier → Keeps true functions earlier
    → clashes_keys shared others functions it ≡ clashes shared it earlier
clashes_kept shared others functions earlier it kept_others kept_functions =
    ap (λ x. x || (has_key functions (it.name) && not (shared && it.by_function))) (kept_others.keeps (it.name))
    ∙ (ap (λ x. any_of false (it.name) earlier || (x && not (shared && it.by_function))) (kept_functions.keeps (it.name))
    ∙ sym (clashes_apart shared it earlier))

-- ---- one more name

or_false : (a : Bool) → (a || false) ≡ a
or_false true = refl
or_false false = refl

or_swap : (a b : Bool) → (a || b) ≡ (b || a)
or_swap true true = refl
or_swap true false = refl
or_swap false true = refl
or_swap false false = refl

and_true : (a : Bool) → (a && true) ≡ a
and_true true = refl
and_true false = refl

and_false : (a : Bool) → (a && false) ≡ false
and_false true = refl
and_false false = refl

-- what is equal to a key's equal is a key
has_equal : (keys : List (List ℕ)) (more name : List ℕ) → pointwise nat_eq name more ≡ true
    → has_key keys more ≡ true → has_key keys name ≡ true
has_equal [] more name same has = has
has_equal (key ∷ keys) more name same has =
    by (pointwise nat_eq more key) refl (λ later. has_equal keys more name same later)
  where
    by : (b : Bool) → pointwise nat_eq more key ≡ b
        → (has_key keys more ≡ true → has_key keys name ≡ true) → has_key (key ∷ keys) name ≡ true
    by true e rest =
        ap (λ b. b || has_key keys name) (nat_list_eq_equiv.congr name more key same ∙ e)
    by false e rest =
        ap (λ b. pointwise nat_eq name key || b) (rest (sym (ap (λ b. b || has_key keys more) e) ∙ has))
        ∙ or_swap (pointwise nat_eq name key) true

-- a name is among the keys with one more where it is that one, or was among them
has_with_key : (keys : List (List ℕ)) (more name : List ℕ)
    → has_key (with_key keys more) name ≡ (pointwise nat_eq name more || has_key keys name)
has_with_key keys more name = by (has_key keys more) (pointwise nat_eq name more) refl refl
  where
    by : (has same : Bool) → has_key keys more ≡ has → pointwise nat_eq name more ≡ same
        → has_key (if has then keys else keys ++ more ∷ []) name ≡ (same || has_key keys name)
    by true true e f = has_equal keys more name f e
    by true false e f = refl
    by false same e f =
        list_any-append (pointwise nat_eq name) keys (more ∷ [])
        ∙ (ap (λ b. has_key keys name || b) (or_false (pointwise nat_eq name more))
        ∙ (or_swap (has_key keys name) (pointwise nat_eq name more)
        ∙ ap (λ b. b || has_key keys name) f))

keeps_more : (own : Bool) (keys : List (List ℕ)) (earlier : List Declared) (it : Declared)
    → it.by_function ≡ own → Keeps own keys earlier
    → Keeps own (with_key keys (it.name)) (it ∷ earlier)
keeps_more true keys earlier it is kept = record {
  keeps = λ name.
      has_with_key keys (it.name) name
      ∙ (ap (λ b. pointwise nat_eq name (it.name) || b) (kept.keeps name)
      ∙ sym (ap (λ b. (pointwise nat_eq name (it.name) && b) || any_of true name earlier) is ∙ ap (λ b. b || any_of true name earlier) (and_true (pointwise nat_eq name (it.name)))));
}
keeps_more false keys earlier it is kept = record {
  keeps = λ name.
      has_with_key keys (it.name) name
      ∙ (ap (λ b. pointwise nat_eq name (it.name) || b) (kept.keeps name)
      ∙ sym (ap (λ b. (pointwise nat_eq name (it.name) && not b) || any_of false name earlier) is ∙ ap (λ b. b || any_of false name earlier) (and_true (pointwise nat_eq name (it.name)))));
}

keeps_same : (own : Bool) (keys : List (List ℕ)) (earlier : List Declared) (it : Declared)
    → it.by_function ≡ not own → Keeps own keys earlier → Keeps own keys (it ∷ earlier)
keeps_same true keys earlier it is kept = record {
  keeps = λ name.
      kept.keeps name
      ∙ sym (ap (λ b. (pointwise nat_eq name (it.name) && b) || any_of true name earlier) is ∙ ap (λ b. b || any_of true name earlier) (and_false (pointwise nat_eq name (it.name))));
}
keeps_same false keys earlier it is kept = record {
  keeps = λ name.
      kept.keeps name
      ∙ sym (ap (λ b. (pointwise nat_eq name (it.name) && not b) || any_of false name earlier) is ∙ ap (λ b. b || any_of false name earlier) (and_false (pointwise nat_eq name (it.name))));
}

-- after a name the keys are those of the names with it
record Kept (others functions : List (List ℕ)) (earlier : List Declared) : Type 0 where
  pub of_others : Keeps false others earlier
  pub of_functions : Keeps true functions earlier

kept_more : (others functions : List (List ℕ)) (earlier : List Declared) (it : Declared)
    → Kept others functions earlier
    → Kept (if it.by_function then others else with_key others (it.name)) (if it.by_function then with_key functions (it.name) else functions) (it ∷ earlier)
kept_more others functions earlier it kept = by (it.by_function) refl
  where
    by : (own : Bool) → it.by_function ≡ own
        → Kept (if own then others else with_key others (it.name)) (if own then with_key functions (it.name) else functions) (it ∷ earlier)
    by true e =
        record { of_others = keeps_same false others earlier it e (kept.of_others); of_functions = keeps_more true functions earlier it e (kept.of_functions) }
    by false e =
        record { of_others = keeps_more false others earlier it e (kept.of_others); of_functions = keeps_same true functions earlier it e (kept.of_functions) }

twice_kept : (shared : Bool) (others functions : List (List ℕ)) (earlier list : List Declared)
    → Kept others functions earlier
    → twice_keys shared others functions list ≡ twice shared earlier list
twice_kept shared others functions earlier [] kept = refl
twice_kept shared others functions earlier (it ∷ list) kept =
    let others' = if it.by_function then others else with_key others (it.name) in
    let functions' = if it.by_function then with_key functions (it.name) else functions in
    ap (λ b. (if b then fault TwiceDeclared (it.place) ∷ [] else []) ++ twice_keys shared others' functions' list) (clashes_kept shared others functions earlier it (kept.of_others) (kept.of_functions))
    ∙ ap (λ faults. (if clashes shared it earlier then fault TwiceDeclared (it.place) ∷ [] else []) ++ faults) (twice_kept shared others' functions' (it ∷ earlier) list (kept_more others functions earlier it kept))

-- the keys of the names that were noted tell the same faults as the names
pub twice_noted : (shared : Bool) (list : List Declared)
    → twice_keys shared [] [] list ≡ twice shared [] list
twice_noted shared list =
    twice_kept shared [] [] [] list (record { of_others = record { keeps = λ name. refl }; of_functions = record { keeps = λ name. refl } })
