-- The words of a line that is UTF-8 are UTF-8, since a line is cut at ASCII bytes alone.
use Rattle.std.proofs.Common.{Err, codes, nat_eq, ◌≡◌, ℕ, ◌+◌, ◌-◌, ◌<◌, ◌≤◌, ◌&&◌, Bool, true, false, List, [], ◌∷◌, length, get_or, take, drop, reverse, not, zero, suc, nat_lt, if◌then◌else◌, Some, None, Result, Ok, refl, ap, ◌∙◌, sym, subst, arith}
use Rattle.std.specs.List.{position_or_len, suffix_len, starts_with}
use Rattle.std.specs.Option.{option_map_or}
use Rattle.std.specs.Str.{IsUtf8, IsCharBoundary, is_utf8}
use Rattle.std.proofs.lemmas.Bool.Decides.{nat_tests}
use Rattle.std.proofs.lemmas.List.{get_or-reverse, length-reverse}
use Rattle.std.proofs.lemmas.List.Sums.{prefix_len-le-length, prefix_len_passes, prefix_len_stops, suffix_len-le-length}
use Rattle.std.proofs.lemmas.Str.{IsCharBoundary-start, IsCharBoundary-end, IsCharBoundary-after_ascii, IsCharBoundary-before_ascii, IsUtf8-take, IsUtf8-drop, IsUtf8-from_is_utf8}
use Rattle.host_script.specs.declared.fault.HostFault.{HostFault}
use Rattle.host_script.specs.declared.fault.HostKind.TheVariants.{TooLong}
use Rattle.host_script.specs.declared.text.Text.{Text}
use Rattle.host_script.specs.Faults.{◌>>=◌, fail}
use Rattle.host_script.specs.Texts.{most_text, begins_text, text_place, text_here, text_within, end_word, long_text, without_text, text_below, text_of}
use Rattle.host_script.specs.Words.{is_blank, skip_blanks, after_word, behind, word, without_end, last_word, before_last_word}

-- ---- where a text may be cut

boundary_before : (bs : List ℕ) (i : ℕ) → i ≤ length bs → (i < length bs → get_or bs i 0 < 128) → IsCharBoundary bs i
boundary_before bs i within ascii = by (nat_lt i (length bs)) refl
  where
    by : (b : Bool) → nat_lt i (length bs) ≡ b → IsCharBoundary bs i
    by true known =
        let below : i < length bs = grind (arith, nat_tests) in
        IsCharBoundary-before_ascii bs i below (ascii below)
    by false known =
        let at_end : length bs ≡ i = grind (arith, nat_tests) in
        subst (IsCharBoundary bs) at_end (IsCharBoundary-end bs)

boundary_behind : (bs : List ℕ) (i j : ℕ) → i ≡ j + 1 → IsUtf8 bs → i ≤ length bs → get_or bs j 0 < 128 → IsCharBoundary bs i
boundary_behind bs i j e utf8 within ascii = subst (IsCharBoundary bs) (sym e) (IsCharBoundary-after_ascii bs j utf8 (omega arith) ascii)

not_not : (b : Bool) → not (not b) ≡ true → b ≡ true
not_not true e = refl
not_not false e = e

not_false : (b : Bool) → not b ≡ false → b ≡ true
not_false true e = refl
not_false false e = sym e

blank_ascii : (byte : ℕ) → is_blank byte ≡ true → byte < 128
blank_ascii byte e = grind (arith, nat_tests)

-- ---- words

skip_boundary : (line : List ℕ) (start : ℕ) → start ≡ position_or_len (λ byte. not (is_blank byte)) line → IsUtf8 line → IsCharBoundary line start
skip_boundary line zero e utf8 = IsCharBoundary-start line utf8
skip_boundary line (suc j) e utf8 =
    let within : position_or_len (λ byte. not (is_blank byte)) line ≤ length line = prefix_len-le-length (λ byte. not (not (is_blank byte))) line in
    boundary_behind line (suc j) j (omega arith) utf8 (omega (arith, e, within))
    (blank_ascii (get_or line j 0) (not_not (is_blank (get_or line j 0)) (prefix_len_passes (λ byte. not (not (is_blank byte))) line j 0 (omega (arith, e)))))

skip_utf8 : (line : List ℕ) → IsUtf8 line → IsUtf8 (skip_blanks line)
skip_utf8 line utf8 = IsUtf8-drop line (position_or_len (λ byte. not (is_blank byte)) line) utf8 (skip_boundary line (position_or_len (λ byte. not (is_blank byte)) line) refl utf8)

-- the place of the first blank is one where a text may be cut
blank_boundary : (line : List ℕ) → IsCharBoundary line (position_or_len is_blank line)
blank_boundary line =
    boundary_before line (position_or_len is_blank line) (prefix_len-le-length (λ byte. not (is_blank byte)) line)
    (λ below. blank_ascii (get_or line (position_or_len is_blank line) 0) (not_false (is_blank (get_or line (position_or_len is_blank line) 0)) (prefix_len_stops (λ byte. not (is_blank byte)) line 0 below)))

pub after_utf8 : (line : List ℕ) → IsUtf8 line → IsUtf8 (after_word line)
after_utf8 line utf8 = IsUtf8-drop (skip_blanks line) _ (skip_utf8 line utf8) (blank_boundary (skip_blanks line))

behind_utf8 : (n : ℕ) (line : List ℕ) → IsUtf8 line → IsUtf8 (behind n line)
behind_utf8 zero line utf8 = skip_utf8 line utf8
behind_utf8 (suc n) line utf8 = behind_utf8 n (after_word line) (after_utf8 line utf8)

pub word_utf8 : (n : ℕ) (line : List ℕ) → IsUtf8 line → IsUtf8 (word n line)
word_utf8 n line utf8 = IsUtf8-take (behind n line) _ (behind_utf8 n line utf8) (blank_boundary (behind n line))

-- ---- the last word

-- the byte behind all that pass at the end doesn't
suffix_stops : (p : ℕ → Bool) (xs : List ℕ) → suffix_len p xs < length xs → p (get_or xs (length xs - 1 - suffix_len p xs) 0) ≡ false
suffix_stops p xs below =
    ap p (sym (get_or-reverse xs (suffix_len p xs) 0 below)) ∙ prefix_len_stops p (reverse xs) 0 (omega (arith, length-reverse xs))

suffix_passes : (p : ℕ → Bool) (xs : List ℕ) (k : ℕ) → k < suffix_len p xs → p (get_or xs (length xs - 1 - k) 0) ≡ true
suffix_passes p xs k below =
    ap p (sym (get_or-reverse xs k 0 (omega (arith, suffix_len-le-length p xs)))) ∙ prefix_len_passes p (reverse xs) k 0 below

end_boundary : (line : List ℕ) (blanks : ℕ) → blanks ≡ suffix_len is_blank line → IsCharBoundary line (length line - blanks)
end_boundary line blanks e =
    let most = suffix_len-le-length is_blank line in
    boundary_before line (length line - blanks) (omega arith) (λ below.
    let at : length line - 1 - (blanks - 1) ≡ length line - blanks = omega (arith, most, e) in
    blank_ascii (get_or line (length line - blanks) 0) (subst (λ i. is_blank (get_or line i 0) ≡ true) at (suffix_passes is_blank line (blanks - 1) (omega (arith, e, below)))))

end_utf8 : (line : List ℕ) → IsUtf8 line → IsUtf8 (without_end line)
end_utf8 line utf8 = IsUtf8-take line (length line - suffix_len is_blank line) utf8 (end_boundary line (suffix_len is_blank line) refl)

front_boundary : (text : List ℕ) (letters : ℕ) → letters ≡ suffix_len (λ byte. not (is_blank byte)) text → IsUtf8 text → IsCharBoundary text (length text - letters - 1)
front_boundary text letters e utf8 = by (nat_lt letters (length text)) refl
  where
    by : (b : Bool) → nat_lt letters (length text) ≡ b → IsCharBoundary text (length text - letters - 1)
    by true known =
        let below : letters < length text = grind (arith, nat_tests) in
        let at : length text - 1 - letters ≡ length text - letters - 1 = omega arith in
        let stops : not (is_blank (get_or text (length text - 1 - letters) 0)) ≡ false =
        subst (λ n. not (is_blank (get_or text (length text - 1 - n) 0)) ≡ false) (sym e) (suffix_stops (λ byte. not (is_blank byte)) text (omega (arith, e, below))) in
        boundary_before text (length text - letters - 1) (omega arith) (λ within.
        blank_ascii (get_or text (length text - letters - 1) 0) (subst (λ i. is_blank (get_or text i 0) ≡ true) at (not_false (is_blank (get_or text (length text - 1 - letters) 0)) stops)))
    by false known =
        let none : 0 ≡ length text - letters - 1 = grind (arith, nat_tests) in
        subst (IsCharBoundary text) none (IsCharBoundary-start text utf8)

pub front_utf8 : (line : List ℕ) → IsUtf8 line → IsUtf8 (before_last_word line)
front_utf8 line utf8 =
    IsUtf8-take (without_end line) (length (without_end line) - suffix_len (λ byte. not (is_blank byte)) (without_end line) - 1) (end_utf8 line utf8)
    (front_boundary (without_end line) (suffix_len (λ byte. not (is_blank byte)) (without_end line)) refl (end_utf8 line utf8))

-- ---- the words in front of a text

colon_first : (byte : ℕ) (bytes : List ℕ) → begins_text (byte ∷ bytes) ≡ true → byte ≡ 58
colon_first byte bytes e = grind (arith, nat_tests)

colon_at : (behind_blank : Bool) (xs : List ℕ) → text_place behind_blank xs < length xs → get_or xs (text_place behind_blank xs) 0 < 128
colon_at behind_blank [] below = absurd (omega arith)
colon_at behind_blank (byte ∷ bytes) below = by (behind_blank && begins_text (byte ∷ bytes)) refl (colon_at (is_blank byte) bytes) below
  where
    by : (b : Bool) → (behind_blank && begins_text (byte ∷ bytes)) ≡ b → (text_place (is_blank byte) bytes < length bytes → get_or bytes (text_place (is_blank byte) bytes) 0 < 128)
        → (if b then 0 else 1 + text_place (is_blank byte) bytes) < length (byte ∷ bytes)
        → get_or (byte ∷ bytes) (if b then 0 else 1 + text_place (is_blank byte) bytes) 0 < 128
    by true known later within = omega (arith, colon_first byte bytes (both behind_blank (begins_text (byte ∷ bytes)) known))
      where
        both : (a b : Bool) → (a && b) ≡ true → b ≡ true
        both true b e = e
        both false b e = absurd (cc)
    by false known later within =
        let here : get_or (byte ∷ bytes) (suc (text_place (is_blank byte) bytes)) 0 < 128 = later (omega arith) in
        let at : suc (text_place (is_blank byte) bytes) ≡ 1 + text_place (is_blank byte) bytes = omega arith in
        subst (λ i. get_or (byte ∷ bytes) i 0 < 128) at here

-- the words are UTF-8, where there are any
abbrev HasUtf8 : Result (List ℕ × Text × ℕ) HostFault → Type 0
HasUtf8 (Ok parts) = IsUtf8 parts.0
HasUtf8 (Err fault) = Unit {0}

utf8_if : (b : Bool) (x y : Result (List ℕ × Text × ℕ) HostFault) → HasUtf8 x → HasUtf8 y → HasUtf8 (if b then x else y)
utf8_if true x y p q = p
utf8_if false x y p q = q

utf8_within : (n : ℕ) (rest : List ℕ) (otherwise : Result (List ℕ × Text × ℕ) HostFault) → IsUtf8 rest → HasUtf8 otherwise → HasUtf8 (option_map_or (text_within n) (text_here rest) otherwise)
utf8_within n rest otherwise utf8 p = by (nat_lt (text_place false rest) (length rest)) refl
  where
    by : (b : Bool) → nat_lt (text_place false rest) (length rest) ≡ b
        → HasUtf8 (option_map_or (text_within n) (if b then Some (take (text_place false rest) rest, drop 2 (drop (text_place false rest) rest)) else None) otherwise)
    by true known =
        let below : text_place false rest < length rest = grind (arith, nat_tests) in
        utf8_if (nat_lt most_text (length (drop 2 (drop (text_place false rest) rest)))) (fail n TooLong) _ tt
        (IsUtf8-take rest (text_place false rest) utf8 (boundary_before rest (text_place false rest) (omega arith) (λ within. colon_at false rest within)))
    by false known = p

utf8_below : (n : ℕ) (rest : List ℕ) (lines : List (List ℕ)) → IsUtf8 rest → HasUtf8 (option_map_or (text_below n lines) (end_word rest) (without_text rest))
utf8_below n rest lines utf8 = by (starts_with nat_eq (last_word rest) (codes "<<") && nat_lt 2 (length (last_word rest)))
  where
    told : (r : Result (Text × ℕ) HostFault) → HasUtf8 (r >>= λ text. Ok (before_last_word rest, text.0, text.1))
    told (Ok text) = front_utf8 rest utf8
    told (Err fault) = tt

    by : (b : Bool) → HasUtf8 (option_map_or (text_below n lines) (if b then Some (before_last_word rest, drop 2 (last_word rest)) else None) (without_text rest))
    by true = told (long_text n (drop 2 (last_word rest)) lines)
    by false = utf8

parts_have : (can_have : Bool) (n : ℕ) (rest : List ℕ) (lines : List (List ℕ)) → IsUtf8 rest → HasUtf8 (text_of can_have n rest lines)
parts_have can_have n rest lines utf8 = utf8_within n rest _ utf8 (utf8_if can_have _ (without_text rest) (utf8_below n rest lines utf8) utf8)

-- of a line that is UTF-8, the words behind its command are
pub parts_utf8 : (can_have : Bool) (n : ℕ) (line rest words : List ℕ) (text : Text) (taken : ℕ) (lines : List (List ℕ)) → is_utf8 line ≡ true → rest ≡ after_word line
    → text_of can_have n rest lines ≡ Ok (words, text, taken) → IsUtf8 words
parts_utf8 can_have n line rest words text taken lines utf8 rest_is parts =
    subst HasUtf8 parts (parts_have can_have n rest lines (subst IsUtf8 (sym rest_is) (after_utf8 line (IsUtf8-from_is_utf8 line utf8))))
