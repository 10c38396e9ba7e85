-- A walk along a table of punctuators.
use Rattle.std.proofs.Common.{◌≡◌, ℕ, ◌+◌, ◌<◌, ◌≤◌, List, [], length, drop, get_or, None, refl, ap, add-one, drop-cons, arith}
use Rattle.std.proofs.lemmas.List.{nil_from_length, length-drop}
use Rattle.std.specs.Borrow.{Bor}
use Rattle.js_lexer.specs.Letters.{Text}
use Rattle.js_lexer.specs.Punctuators.{first_of, past_all, or_else, behind, spellings}

pub first_step : (table : List (Bor (List ℕ))) (i : ℕ) (d : Bor (List ℕ)) (t : Text) → i < length table
    → first_of (spellings (drop i table)) t ≡ or_else ((get_or table i d).now) (behind ((get_or table i d).now) t) (first_of (spellings (drop (i + 1) table)) t)
unfolding first_of
first_step table i d t lt = rw (add-one, drop-cons table i d) refl

pub first_end : (table : List (Bor (List ℕ))) (i : ℕ) (t : Text) → length table ≤ i → first_of (spellings (drop i table)) t ≡ first_of [] t
first_end table i t le =
    let none : drop i table ≡ [] = nil_from_length (drop i table) (omega (arith, length-drop i table)) in
    ap (λ ps. first_of (spellings ps) t) none

pub past_nothing : (ps : Text) (i : ℕ) (t : Text) → i < length ps → length t < 1 → past_all (drop i ps) t ≡ None
past_nothing ps i t lt short =
    let none : t ≡ [] = nil_from_length t (omega arith) in
    rw (none, drop-cons ps i 0) refl
