-- An escape is read exactly where one stands.
use Rattle.std.proofs.Common.{◌≡◌, ◌≢◌, ℕ, ◌+◌, ◌*◌, ◌≤◌, ◌<◌, [], ◌∷◌, ◌++◌, get_or, cond, Bool, true, false, ◌&&◌, refl, sym, ap, subst, ◌∙◌, arith}
use Rattle.std.specs.Prelude.{Option, None, Some, nat_eq, nat_le}
use Rattle.std.specs.List.{All}
use Rattle.std.specs.Char.{digit_value}
use Rattle.std.proofs.lemmas.List.Elements.{All-nil, All-cons, All-head, All-tail}
use Rattle.std.proofs.lemmas.Bool.{eqb-true, eqb-false, ltb-true, leb-true, le-leb, lt-ltb}
use Rattle.js_lexer.specs.Letters.{Text, is_line, is_digit, begins_digit}
use Rattle.js_lexer.specs.Escapes.{is_hex, two_digits, two_more, to_brace, unicode_escape, past_feed, single, coded, escape}
use Rattle.lexer_laws.specs.Numerals.{IsDigitTo, value_behind}
use Rattle.lexer_laws.specs.Escapes as law
use Rattle.lexer_laws.specs.Escapes.{StandsFor, backspace, form_feed, line_feed, carriage_return, tabulator, vertical_tabulator, StandsForItself, Escapes, IsEscapeThere}
use Rattle.lexer_laws.proofs.NumeralLemmas.{cond_by, not_both, both, through, grown}

not_equal : (c d : ℕ) → c ≢ d → nat_eq c d ≡ false
not_equal c d ne = by_test (nat_eq c d) refl
  where
    by_test : (b : Bool) → nat_eq c d ≡ b → nat_eq c d ≡ false
    by_test true e = absurd (ne (eqb-true c d e))
    by_test false e = e

hex_all_two : (a b : ℕ) → IsDigitTo 16 a → IsDigitTo 16 b → All (IsDigitTo 16) (a ∷ b ∷ [])
hex_all_two a b h k = All-cons (IsDigitTo 16) a (b ∷ []) h (All-cons (IsDigitTo 16) b [] k (All-nil (IsDigitTo 16)))

-- ---- what was read is an escape that stands there

abbrev Stands : ℕ → Text → Option (Option ℕ × Text) → Type 0
Stands c t None = Unit {0}
Stands c t (Some (code, rest)) = Escapes (c ∷ t) code rest

-- two hexadecimal digits at the front
abbrev Two : Text → Option (ℕ × Text) → Type 0
Two t None = Unit {0}
Two t (Some (m, u)) = (a : ℕ) × (b : ℕ) × (t ≡ (a ∷ b ∷ u)) × IsDigitTo 16 a × IsDigitTo 16 b × (m ≡ 16 * digit_value a + digit_value b)

two_sound : (t : Text) → Two t (two_digits t)
two_sound [] = tt
two_sound (a ∷ []) = tt
two_sound (a ∷ b ∷ t) = cond_by (Two (a ∷ b ∷ t)) (is_hex a && is_hex b) (Some (16 * digit_value a + digit_value b, t)) None
    (λ e. let parts = both (is_hex a) (is_hex b) e in (a, b, refl, ltb-true (digit_value a) 16 parts.0, ltb-true (digit_value b) 16 parts.1, refl))
    (λ e. tt)

hex_escape_sound : (t : Text) (o : Option (ℕ × Text)) → Two t o → Stands 120 t (coded o)
hex_escape_sound t None s = tt
hex_escape_sound t (Some (m, u)) s =
    let value : value_behind 16 0 (s.0 ∷ s.1 ∷ []) ≡ m = let q = s.5 in omega arith in
    subst (λ l. Escapes (120 ∷ l) (Some m) u) (sym s.2)
    (subst (λ v. Escapes (120 ∷ s.0 ∷ s.1 ∷ u) (Some v) u) value (law.two_digits (hex_all_two s.0 s.1 s.3 s.4)))

-- four of them
four_none : (h : ℕ) (u : Text) → two_digits u ≡ None → two_more (Some (h, u)) ≡ None
four_none h u e = rw e refl

four_some : (h k : ℕ) (u v : Text) → two_digits u ≡ Some (k, v) → two_more (Some (h, u)) ≡ Some (256 * h + k, v)
four_some h k u v e = rw e refl

four_sound : (t : Text) (o : Option (ℕ × Text)) → Two t o → Stands 117 t (coded (two_more o))
four_sound t None s = tt
four_sound t (Some (h, u)) s = by_second (two_digits u) refl (two_sound u)
  where
    by_second : (p : Option (ℕ × Text)) → two_digits u ≡ p → Two u p → Stands 117 t (coded (two_more (Some (h, u))))
    by_second None e r = subst (λ o. Stands 117 t (coded o)) (sym (four_none h u e)) tt
    by_second (Some (k, v)) e r =
        let a = s.0 in let b = s.1 in let c = r.0 in let d = r.1 in
        let whole : t ≡ (a ∷ b ∷ c ∷ d ∷ v) = s.2 ∙ ap (λ l. a ∷ b ∷ l) r.2 in
        let value : value_behind 16 0 (a ∷ b ∷ c ∷ d ∷ []) ≡ 256 * h + k = let p = s.5 in let q = r.5 in omega arith in
        let digits = All-cons (IsDigitTo 16) a (b ∷ c ∷ d ∷ []) s.3 (All-cons (IsDigitTo 16) b (c ∷ d ∷ []) s.4 (hex_all_two c d r.3 r.4)) in
        subst (λ o. Stands 117 t (coded o)) (sym (four_some h k u v e))
        (subst (λ l. Escapes (117 ∷ l) (Some (256 * h + k)) v) (sym whole)
        (subst (λ w. Escapes (117 ∷ a ∷ b ∷ c ∷ d ∷ v) (Some w) v) value (law.four_digits digits)))

-- digits up to a `}`, behind others of the value n
abbrev Braced : ℕ → Text → Option (ℕ × Text) → Type 0
Braced n t None = Unit {0}
Braced n t (Some (m, u)) = (cs : Text) × (t ≡ (cs ++ (125 ∷ u))) × All (IsDigitTo 16) cs × (m ≡ value_behind 16 n cs) × (n ≤ 0x10FFFF → m ≤ 0x10FFFF)

brace_sound : (n : ℕ) (t : Text) → Braced n t (to_brace n t)
brace_sound n [] = tt
brace_sound n (c ∷ t) =
    let m = 16 * n + digit_value c in
    let further = brace_sound m t in
    let inside : Option (ℕ × Text) = cond (nat_le m 0x10FFFF) (to_brace m t) None in
    let outside : Option (ℕ × Text) = cond (nat_eq c 125) (Some (n, t)) None in
    cond_by (Braced n (c ∷ t)) (is_hex c) inside outside
    (λ e. cond_by (Braced n (c ∷ t)) (nat_le m 0x10FFFF) (to_brace m t) None
    (λ f. one_more c (ltb-true (digit_value c) 16 e) (leb-true m 0x10FFFF f) (to_brace m t) further)
    (λ f. tt))
    (λ e. cond_by (Braced n (c ∷ t)) (nat_eq c 125) (Some (n, t)) None
    (λ f. ([], ap (λ z. z ∷ t) (eqb-true c 125 f), All-nil (IsDigitTo 16), refl, (λ h. h)))
    (λ f. tt))
  where
    one_more : (c : ℕ) → IsDigitTo 16 c → 16 * n + digit_value c ≤ 0x10FFFF → (o : Option (ℕ × Text))
        → Braced (16 * n + digit_value c) t o → Braced n (c ∷ t) o
    one_more c digit small None s = tt
    one_more c digit small (Some (k, u)) s =
        (c ∷ s.0, ap (λ l. c ∷ l) s.1, All-cons (IsDigitTo 16) c s.0 digit s.2, s.3, (λ h. s.4 small))

braced_escape : (d : ℕ) (t : Text) → IsDigitTo 16 d → digit_value d ≤ 0x10FFFF → (o : Option (ℕ × Text))
    → Braced (16 * 0 + digit_value d) t o → Stands 117 (123 ∷ d ∷ t) (coded o)
braced_escape d t digit small None s = tt
braced_escape d t digit small (Some (m, u)) s =
    let first : 16 * 0 + digit_value d ≤ 0x10FFFF = omega arith in
    let fits : value_behind 16 0 (d ∷ s.0) ≤ 0x10FFFF = subst (λ v. v ≤ 0x10FFFF) s.3 (s.4 first) in
    subst (λ l. Escapes (117 ∷ 123 ∷ d ∷ l) (Some m) u) (sym s.1)
    (subst (λ v. Escapes (117 ∷ 123 ∷ d ∷ (s.0 ++ (125 ∷ u))) (Some v) u) (sym s.3)
    (law.in_braces d s.0 u (All-cons (IsDigitTo 16) d s.0 digit s.2) fits))

unicode_sound : (t : Text) → Stands 117 t (coded (unicode_escape t))
unicode_sound [] = tt
unicode_sound (c ∷ t) = by_test (nat_eq c 123) refl
  where
    in_brackets : (t : Text) → Stands 117 (123 ∷ t) (coded (unicode_escape (123 ∷ t)))
    in_brackets [] = tt
    in_brackets (d ∷ t) = by_digit (is_hex d) refl
      where
        by_digit : (b : Bool) → is_hex d ≡ b → Stands 117 (123 ∷ d ∷ t) (coded (unicode_escape (123 ∷ d ∷ t)))
        by_digit true e =
            let digit = ltb-true (digit_value d) 16 e in
            let first : 16 * 0 + digit_value d ≤ 0x10FFFF = omega arith in
            rw (e, le-leb (16 * 0 + digit_value d) 0x10FFFF first)
            (braced_escape d t digit (omega arith) (to_brace (16 * 0 + digit_value d) t) (brace_sound (16 * 0 + digit_value d) t))
        by_digit false e = rw e tt

    by_test : (b : Bool) → nat_eq c 123 ≡ b → Stands 117 (c ∷ t) (coded (unicode_escape (c ∷ t)))
    by_test true e = subst (λ z. Stands 117 (z ∷ t) (coded (unicode_escape (z ∷ t)))) (sym (eqb-true c 123 e)) (in_brackets t)
    by_test false e = rw e (four_sound (c ∷ t) (two_digits (c ∷ t)) (two_sound (c ∷ t)))

-- the table of single characters
not_in_table : (c : ℕ) → c ≢ 98 → c ≢ 102 → c ≢ 110 → c ≢ 114 → c ≢ 116 → c ≢ 118 → (d : ℕ) → ¬ (StandsFor c d)
not_in_table c b f n r t v d backspace = b refl
not_in_table c b f n r t v d form_feed = f refl
not_in_table c b f n r t v d line_feed = n refl
not_in_table c b f n r t v d carriage_return = r refl
not_in_table c b f n r t v d tabulator = t refl
not_in_table c b f n r t v d vertical_tabulator = v refl

single_sound : (c : ℕ) (rest : Text) → c ≢ 120 → c ≢ 117 → is_digit c ≡ false → is_line c ≡ false → Escapes (c ∷ rest) (Some (single c)) rest
single_sound c rest no_x no_u no_digit no_line =
    let P : ℕ → Type 0 = λ v. Escapes (c ∷ rest) (Some v) rest in
    let at : (d v : ℕ) → StandsFor d v → nat_eq c d ≡ true → P v =
    λ d v s e. subst (λ z. Escapes (z ∷ rest) (Some v) rest) (sym (eqb-true c d e)) (law.single s) in
    let v6 : ℕ = cond (nat_eq c 118) 11 c in
    let v5 : ℕ = cond (nat_eq c 116) 9 v6 in
    let v4 : ℕ = cond (nat_eq c 114) 13 v5 in
    let v3 : ℕ = cond (nat_eq c 110) 10 v4 in
    let v2 : ℕ = cond (nat_eq c 102) 12 v3 in
    cond_by P (nat_eq c 98) 8 v2 (at 98 8 backspace) (λ b.
    cond_by P (nat_eq c 102) 12 v3 (at 102 12 form_feed) (λ f.
    cond_by P (nat_eq c 110) 10 v4 (at 110 10 line_feed) (λ n.
    cond_by P (nat_eq c 114) 13 v5 (at 114 13 carriage_return) (λ r.
    cond_by P (nat_eq c 116) 9 v6 (at 116 9 tabulator) (λ t.
    cond_by P (nat_eq c 118) 11 c (at 118 11 vertical_tabulator) (λ v.
    law.itself (record {
      other = not_in_table c (eqb-false c 98 b) (eqb-false c 102 f) (eqb-false c 110 n) (eqb-false c 114 r) (eqb-false c 116 t) (eqb-false c 118 v);
      no_digit = no_digit;
      no_line = no_line;
      no_x = no_x;
      no_u = no_u;
    })))))))

-- a CR, and the LF behind it
return_sound : (t : Text) → Escapes (13 ∷ t) None (past_feed t)
return_sound [] = law.return_alone (λ more e. not_empty more e)
  where
    not_empty : (more : Text) → [] ≡ (10 ∷ more) → ⊥
    not_empty more e = cc
return_sound (c ∷ t) = cond_by (λ u. Escapes (13 ∷ c ∷ t) None u) (nat_eq c 10) t (c ∷ t)
    (λ e. subst (λ z. Escapes (13 ∷ z ∷ t) None t) (sym (eqb-true c 10 e)) law.return_and_feed)
    (λ e. law.return_alone (λ more k. eqb-false c 10 e (ap (λ l. get_or l 0 0) k)))

escape_sound : (c : ℕ) (t : Text) → Stands c t (escape c t)
escape_sound c t =
    let S : Option (Option ℕ × Text) → Type 0 = Stands c t in
    let plain : Option (Option ℕ × Text) = Some (Some (single c), t) in
    let lines : Option (Option ℕ × Text) = cond (is_line c) (Some (None, t)) plain in
    let returns : Option (Option ℕ × Text) = cond (nat_eq c 13) (Some (None, past_feed t)) lines in
    let digits : Option (Option ℕ × Text) = cond (is_digit c) None returns in
    let nul : Option (Option ℕ × Text) = cond (begins_digit t) None (Some (Some 0, t)) in
    let zeros : Option (Option ℕ × Text) = cond (nat_eq c 48) nul digits in
    let unicodes : Option (Option ℕ × Text) = cond (nat_eq c 117) (coded (unicode_escape t)) zeros in
    cond_by S (nat_eq c 120) (coded (two_digits t)) unicodes
    (λ e. subst (λ z. Stands z t (coded (two_digits t))) (sym (eqb-true c 120 e)) (hex_escape_sound t (two_digits t) (two_sound t))) (λ no_x.
    cond_by S (nat_eq c 117) (coded (unicode_escape t)) zeros
    (λ e. subst (λ z. Stands z t (coded (unicode_escape t))) (sym (eqb-true c 117 e)) (unicode_sound t)) (λ no_u.
    cond_by S (nat_eq c 48) nul digits
    (λ e. cond_by S (begins_digit t) None (Some (Some 0, t)) (λ f. tt)
    (λ f. subst (λ z. Escapes (z ∷ t) (Some 0) t) (sym (eqb-true c 48 e)) (law.zero f))) (λ no_zero.
    cond_by S (is_digit c) None returns (λ e. tt) (λ no_digit.
    cond_by S (nat_eq c 13) (Some (None, past_feed t)) lines
    (λ e. subst (λ z. Escapes (z ∷ t) None (past_feed t)) (sym (eqb-true c 13 e)) (return_sound t)) (λ no_return.
    cond_by S (is_line c) (Some (None, t)) plain
    (λ e. law.line e (eqb-false c 13 no_return))
    (λ no_line. single_sound c t (eqb-false c 120 no_x) (eqb-false c 117 no_u) no_digit no_line))))))

-- ---- an escape that stands there is read

single_complete : (c d : ℕ) (rest : Text) → StandsFor c d → escape c rest ≡ Some (Some d, rest)
single_complete c d rest backspace = refl
single_complete c d rest form_feed = refl
single_complete c d rest line_feed = refl
single_complete c d rest carriage_return = refl
single_complete c d rest tabulator = refl
single_complete c d rest vertical_tabulator = refl

-- a character outside the table is itself
single_of_itself : (c : ℕ) → ((d : ℕ) → ¬ (StandsFor c d)) → single c ≡ c
single_of_itself c other =
    let absent : (x d : ℕ) → StandsFor x d → nat_eq c x ≡ false =
    λ x d s. not_equal c x (λ e. other d (subst (λ z. StandsFor z d) (sym e) s)) in
    rw (
      absent 98 8 backspace,
      absent 102 12 form_feed,
      absent 110 10 line_feed,
      absent 114 13 carriage_return,
      absent 116 9 tabulator,
      absent 118 11 vertical_tabulator,
    ) refl

itself_complete : (c : ℕ) (rest : Text) → StandsForItself c → escape c rest ≡ Some (Some c, rest)
itself_complete c rest r =
    let no_zero : nat_eq c 48 ≡ false = not_equal c 48 (λ e. not_both (ap is_digit e) r.no_digit) in
    let no_return : nat_eq c 13 ≡ false = not_equal c 13 (λ e. not_both (ap is_line e) r.no_line) in
    let read : escape c rest ≡ Some (Some (single c), rest) =
    rw (not_equal c 120 r.no_x, not_equal c 117 r.no_u, no_zero, r.no_digit, r.no_line, no_return) refl in
    read ∙ ap (λ v. Some (Some v, rest)) (single_of_itself c r.other)

two_complete : (a b : ℕ) (rest : Text) → IsDigitTo 16 a → IsDigitTo 16 b
    → two_digits (a ∷ b ∷ rest) ≡ Some (16 * digit_value a + digit_value b, rest)
two_complete a b rest h k = rw (lt-ltb (digit_value a) 16 h, lt-ltb (digit_value b) 16 k) refl

four_complete : (a b c d : ℕ) (rest : Text) → IsDigitTo 16 a → IsDigitTo 16 b → IsDigitTo 16 c → IsDigitTo 16 d
    → unicode_escape (a ∷ b ∷ c ∷ d ∷ rest) ≡ Some (value_behind 16 0 (a ∷ b ∷ c ∷ d ∷ []), rest)
four_complete a b c d rest ha hb hc hd =
    let no_brace : nat_eq a 123 ≡ false = not_equal a 123 (λ e. let wrong = subst (λ z. digit_value z < 16) e ha in omega arith) in
    let high = 16 * digit_value a + digit_value b in
    let low = 16 * digit_value c + digit_value d in
    let four : unicode_escape (a ∷ b ∷ c ∷ d ∷ rest) ≡ two_more (two_digits (a ∷ b ∷ c ∷ d ∷ rest)) = rw no_brace refl in
    let value : 256 * high + low ≡ value_behind 16 0 (a ∷ b ∷ c ∷ d ∷ []) = omega arith in
    four ∙ ap two_more (two_complete a b (c ∷ d ∷ rest) ha hb)
    ∙ four_some high low (c ∷ d ∷ rest) rest (two_complete c d rest hc hd)
    ∙ ap (λ v. Some (v, rest)) value

brace_complete : (n : ℕ) (cs rest : Text) → All (IsDigitTo 16) cs → value_behind 16 n cs ≤ 0x10FFFF
    → to_brace n (cs ++ (125 ∷ rest)) ≡ Some (value_behind 16 n cs, rest)
brace_complete n [] rest all fits = refl
brace_complete n (c ∷ cs) rest all fits =
    let m = 16 * n + digit_value c in
    let small : m ≤ 0x10FFFF = through m (value_behind 16 m cs) 0x10FFFF (grown 16 (λ k d. omega arith) m cs) fits in
    rw (lt-ltb (digit_value c) 16 (All-head (IsDigitTo 16) c cs all), le-leb m 0x10FFFF small)
    (brace_complete m cs rest (All-tail (IsDigitTo 16) c cs all) fits)

in_brackets : (c : ℕ) (t : Text) → is_hex c ≡ true → unicode_escape (123 ∷ c ∷ t) ≡ to_brace 0 (c ∷ t)
in_brackets c t e = rw e refl

line_complete : (c : ℕ) (rest : Text) → is_line c ≡ true → c ≢ 13 → escape c rest ≡ Some (None, rest)
line_complete c rest e other = by_tests (nat_eq c 0x0A) refl (nat_eq c 0x2028) refl (nat_eq c 0x2029) refl
  where
    by_tests : (x : Bool) → nat_eq c 0x0A ≡ x → (y : Bool) → nat_eq c 0x2028 ≡ y → (z : Bool) → nat_eq c 0x2029 ≡ z
        → escape c rest ≡ Some (None, rest)
    by_tests true p y q z r = ap (λ k. escape k rest) (eqb-true c 0x0A p)
    by_tests false p true q z r = ap (λ k. escape k rest) (eqb-true c 0x2028 q)
    by_tests false p false q true r = ap (λ k. escape k rest) (eqb-true c 0x2029 r)
    by_tests false p false q false r =
        let no_line : is_line c ≡ false = rw (p, not_equal c 0x0D other, q, r) refl in absurd (not_both e no_line)

feed_stays : (rest : Text) → ((more : Text) → rest ≢ (10 ∷ more)) → past_feed rest ≡ rest
feed_stays [] other = refl
feed_stays (c ∷ t) other = passed (nat_eq c 10) refl
  where
    passed : (b : Bool) → nat_eq c 10 ≡ b → past_feed (c ∷ t) ≡ (c ∷ t)
    passed true e = absurd (other t (ap (λ z. z ∷ t) (eqb-true c 10 e)))
    passed false e = rw e refl

escape_complete : (c : ℕ) (t : Text) (code : Option ℕ) (rest : Text) → Escapes (c ∷ t) code rest → escape c t ≡ Some (code, rest)
escape_complete c t code rest (law.single {c = k} {d = d} s) = single_complete c d rest s
escape_complete c t code rest (law.itself r) = itself_complete c rest r
escape_complete c t code rest (law.zero e) = rw e refl
escape_complete c t code rest (law.two_digits {a = a} {b = b} all) =
    let ha = All-head (IsDigitTo 16) a (b ∷ []) all in
    let hb = All-head (IsDigitTo 16) b [] (All-tail (IsDigitTo 16) a (b ∷ []) all) in
    let value : 16 * digit_value a + digit_value b ≡ value_behind 16 0 (a ∷ b ∷ []) = omega arith in
    ap coded (two_complete a b rest ha hb) ∙ ap (λ v. Some (Some v, rest)) value
escape_complete c t code rest (law.four_digits {a = a} {b = b} {c = k} {d = d} all) =
    let one = All-tail (IsDigitTo 16) a (b ∷ k ∷ d ∷ []) all in
    let two = All-tail (IsDigitTo 16) b (k ∷ d ∷ []) one in
    let three = All-tail (IsDigitTo 16) k (d ∷ []) two in
    ap coded (four_complete a b k d rest (All-head (IsDigitTo 16) a (b ∷ k ∷ d ∷ []) all) (All-head (IsDigitTo 16) b (k ∷ d ∷ []) one)
    (All-head (IsDigitTo 16) k (d ∷ []) two) (All-head (IsDigitTo 16) d [] three))
escape_complete c t code rest (law.in_braces k ks u all fits) =
    let hex = lt-ltb (digit_value k) 16 (All-head (IsDigitTo 16) k ks all) in
    ap coded (in_brackets k (ks ++ (125 ∷ rest)) hex ∙ brace_complete 0 (k ∷ ks) rest all fits)
escape_complete c t code rest (law.line e other) = line_complete c rest e other
escape_complete c t code rest (law.return_alone other) = ap (λ u. Some (None, u)) (feed_stays rest other)
escape_complete c t code rest law.return_and_feed = refl

pub escape_there : (c : ℕ) (text : Text) → IsEscapeThere c text
escape_there c text code rest =
    (λ e. subst (Stands c text) e (escape_sound c text), λ s. escape_complete c text code rest s)
