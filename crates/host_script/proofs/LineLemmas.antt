-- The first line of bytes, and the lines after it.
use Rattle.std.proofs.Common.{◌≡◌, ℕ, ◌+◌, ◌<◌, ◌==◌, Bool, true, false, List, [], ◌∷◌, length, take, drop, Some, None, refl, ap, ◌∙◌, arith, position, not}
use Rattle.std.specs.List.{slice_split, before_first, after_first}
use Rattle.std.specs.Str.Lines.{lines_of_parts, strip_carriage_return}
use Rattle.std.proofs.lemmas.List.Splits.{slice_split_first, slice_split_none, length-slice_split}
use Rattle.std.proofs.lemmas.List.Sums.{prefix_len_passes}
use Rattle.std.proofs.lemmas.Bool.Decides.{nat_tests}
use Rattle.host_script.specs.Words.{lines_of}
use Rattle.host_script.proofs.Places.{place_is, place_none}

abbrev is_newline : ℕ → Bool
is_newline byte = byte == 10

-- a part before another is a line
parts_before : (part : List ℕ) (parts : List (List ℕ)) → 0 < length parts → lines_of_parts (part ∷ parts) ≡ strip_carriage_return part ∷ lines_of_parts parts
parts_before part [] h = absurd (omega arith)
parts_before part (next ∷ parts) h = refl

-- the last part is a line where it has a byte
last_part : (part : List ℕ) → 0 < length part → lines_of_parts (part ∷ []) ≡ part ∷ []
last_part part h = grind (arith, nat_tests)

not_passed : (b : Bool) → not b ≡ true → b ≡ false
not_passed true e = absurd (cc)
not_passed false e = refl

pub line_before : (bytes : List ℕ) (place : ℕ) → position is_newline bytes ≡ Some place → lines_of bytes ≡ strip_carriage_return (take place bytes) ∷ lines_of (drop (place + 1) bytes)
line_before bytes place e =
    let at = place_is is_newline bytes place e in
    let parts = slice_split is_newline (after_first is_newline bytes) in
    let some : 0 < length parts = omega (arith, length-slice_split is_newline (after_first is_newline bytes)) in
    ap lines_of_parts (slice_split_first is_newline bytes 0 at.1)
    ∙ parts_before (before_first is_newline bytes) parts some
    ∙ ap (λ n. strip_carriage_return (take n bytes) ∷ lines_of (drop (n + 1) bytes)) at.0

pub line_alone : (bytes : List ℕ) → 0 < length bytes → position is_newline bytes ≡ None → lines_of bytes ≡ bytes ∷ []
line_alone bytes some e =
    let all = place_none is_newline bytes e in
    ap lines_of_parts (slice_split_none is_newline bytes (λ k d h. not_passed _ (prefix_len_passes (λ byte. not (is_newline byte)) bytes k d (omega (arith, all)))))
    ∙ last_part bytes some
