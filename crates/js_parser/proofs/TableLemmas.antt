-- A walk along a table of spellings and classes.
use Rattle.std.proofs.Common.{◌≡◌, ℕ, ◌+◌, ◌<◌, ◌≤◌, true, false, List, [], length, drop, get_or, if◌then◌else◌, refl, sym, ap, ◌∙◌, add-one, drop-cons, arith}
use Rattle.std.proofs.lemmas.List.{nil_from_length, length-drop}
use Rattle.std.specs.Borrow.{Bor}
use Rattle.std.specs.Str.{bytes_eq}
use Rattle.parser_rules.specs.declared.class.Class.{Class}
use Rattle.parser_rules.specs.Classes.{class_in}
use Rattle.js_parser.specs.Tables.{entries}

abbrev pub Table : Type 0
Table = List (Bor (List ℕ) × Class)

class_step : (table : Table) (i : ℕ) (d : Bor (List ℕ) × Class) (t : List ℕ) (other : Class) → i < length table
    → class_in (entries (drop i table)) t other
    ≡ (if bytes_eq ((get_or table i d).0.now) t then (get_or table i d).1 else class_in (entries (drop (i + 1) table)) t other)
unfolding class_in
class_step table i d t other lt = rw (add-one, drop-cons table i d) refl

pub class_hit : (table : Table) (i : ℕ) (d : Bor (List ℕ) × Class) (t : List ℕ) (other : Class) → i < length table
    → bytes_eq ((get_or table i d).0.now) t ≡ true → class_in (entries (drop i table)) t other ≡ (get_or table i d).1
class_hit table i d t other lt h = class_step table i d t other lt ∙ rw h refl

pub class_miss : (table : Table) (i : ℕ) (d : Bor (List ℕ) × Class) (t : List ℕ) (other : Class) → i < length table
    → bytes_eq ((get_or table i d).0.now) t ≡ false → class_in (entries (drop (i + 1) table)) t other ≡ class_in (entries (drop i table)) t other
class_miss table i d t other lt h = sym (class_step table i d t other lt ∙ rw h refl)

pub class_end : (table : Table) (i : ℕ) (t : List ℕ) (other : Class) → length table ≤ i → class_in (entries (drop i table)) t other ≡ other
unfolding class_in
class_end table i t other le =
    let none : drop i table ≡ [] = nil_from_length (drop i table) (omega (arith, length-drop i table)) in
    ap (λ (ps : Table). class_in (entries ps) t other) none
