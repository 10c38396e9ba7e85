-- A text that is read line by line is the one that its lines hold.
use Rattle.std.proofs.Common.{◌≡◌, ℕ, ◌+◌, ◌-◌, ◌<◌, ◌≤◌, Bool, true, false, List, [], ◌∷◌, ◌++◌, length, length-append, length-drop, drop, Option, Some, None, Ok, if◌then◌else◌, refl, ap, ◌∙◌, sym, arith, append_assoc, append-nil, nat_lt, nat_le, nat_eq, add-zero}
use Rattle.std.specs.List.{join_with_byte}
use Rattle.std.specs.Option.{option_map, option_map_or, option_or}
use Rattle.std.specs.Str.{bytes_eq, is_utf8}
use Rattle.std.proofs.lemmas.Bool.Decides.{nat_tests}
use Rattle.std.proofs.lemmas.List.{drop-drop}
use Rattle.host_script.specs.declared.fault.HostKind.TheVariants.{TooLong}
use Rattle.host_script.specs.declared.text.Text.TheVariants.{Open, Given}
use Rattle.host_script.specs.Faults.{fail}
use Rattle.host_script.specs.Words.{lines_of}
use Rattle.host_script.specs.Texts.{lines_until, first_bad, text_on, long_text, most_text}
use Rattle.host_script.specs.Steps.{appended, kept, HasRead, Goes}

-- ---- one more line

until_here : (w line : List ℕ) (after : List (List ℕ)) → bytes_eq line w ≡ true → lines_until w (line ∷ after) ≡ Some []
until_here w line after e = ap (λ b. if b then Some [] else option_map (λ more. line ∷ more) (lines_until w after)) e

until_later : (w line : List ℕ) (after : List (List ℕ)) → bytes_eq line w ≡ false → lines_until w (line ∷ after) ≡ option_map (λ more. line ∷ more) (lines_until w after)
until_later w line after e = ap (λ b. if b then Some [] else option_map (λ more. line ∷ more) (lines_until w after)) e

map_front : (front : List (List ℕ)) (line : List ℕ) (found : Option (List (List ℕ))) → option_map (λ more. front ++ more) (option_map (λ more. line ∷ more) found) ≡ option_map (λ more. (front ++ line ∷ []) ++ more) found
map_front front line None = refl
map_front front line (Some more) = ap Some (sym (append_assoc front (line ∷ []) more))

join_later : (x : List ℕ) (front : List (List ℕ)) (line : List ℕ) → join_with_byte 10 ((x ∷ front) ++ line ∷ []) ≡ join_with_byte 10 (x ∷ front) ++ (10 ∷ line)
join_later x [] line = refl
join_later x (y ∷ front) line = ap (λ l. x ++ (10 ∷ l)) (join_later y front line) ∙ sym (append_assoc x (10 ∷ join_with_byte 10 (y ∷ front)) (10 ∷ line))

first_is : (n m : ℕ) → m ≡ n + 1 → nat_eq m (n + 1) ≡ true
first_is n m e = grind (arith, nat_tests)

later_is : (n m : ℕ) → n + 1 < m → nat_eq m (n + 1) ≡ false
later_is n m h = grind (arith, nat_tests)

join_more : (n m : ℕ) (front : List (List ℕ)) (line : List ℕ) → m ≡ n + length front + 1 → join_with_byte 10 (front ++ line ∷ []) ≡ appended (nat_eq m (n + 1)) (join_with_byte 10 front) line
join_more n m [] line e = sym (ap (λ b. appended b [] line) (first_is n m (omega arith)))
join_more n m (x ∷ front) line e = join_later x front line ∙ sym (ap (λ b. appended b (join_with_byte 10 (x ∷ front)) line) (later_is n m (omega arith)))

bad_first : (b : Bool) (n m : ℕ) → m ≡ n + 0 → (if b then None else Some n) ≡ (if b then None else Some m)
bad_first true n m e = refl
bad_first false n m e = ap Some (omega arith)

bad_later : (b : Bool) (n : ℕ) (p q later : Option ℕ) → p ≡ option_or q later → (if b then p else Some n) ≡ option_or (if b then q else Some n) later
bad_later true n p q later e = e
bad_later false n p q later e = refl

bad_more : (n m : ℕ) (front : List (List ℕ)) (line : List ℕ) → m ≡ n + length front → first_bad n (front ++ line ∷ []) ≡ option_or (first_bad n front) (if is_utf8 line then None else Some m)
bad_more n m [] line e = bad_first (is_utf8 line) n m e
bad_more n m (x ∷ front) line e = bad_later (is_utf8 x) n _ _ _ (bad_more (n + 1) m front line (omega arith))

join_longer : (front more : List (List ℕ)) → length (join_with_byte 10 front) ≤ length (join_with_byte 10 (front ++ more))
join_longer [] more = omega arith
join_longer (x ∷ []) [] = omega arith
join_longer (x ∷ []) (y ∷ more) = omega (arith, length-append x (10 ∷ join_with_byte 10 (y ∷ more)))
join_longer (x ∷ y ∷ front) more =
    omega (arith, join_longer (y ∷ front) more, length-append x (10 ∷ join_with_byte 10 (y ∷ front)), length-append x (10 ∷ join_with_byte 10 (y ∷ front ++ more)))

-- ---- the answers

-- a text that was kept is the one of these lines, also with one more
kept_more : (n m : ℕ) (front : List (List ℕ)) (line text longer : List ℕ) → m ≡ n + length front + 1 → text ≡ join_with_byte 10 front
    → longer ≡ appended (nat_eq m (n + 1)) text line → longer ≡ join_with_byte 10 (front ++ line ∷ [])
kept_more n m front line text longer number text_is longer_is =
    longer_is ∙ ap (λ t. appended (nat_eq m (n + 1)) t line) text_is ∙ sym (join_more n m front line number)

-- nothing is read yet
pub begins_reading : (n : ℕ) (w bytes : List ℕ) → HasRead n w bytes n bytes [] None
begins_reading n w bytes = record {
  front = [];
  whole = keeps (lines_until w (lines_of bytes));
  fits = λ _. refl;
  long = λ h. absurd (omega arith);
  bad_is = refl;
  number = sym (add-zero n);
  within = omega arith;
  after = refl;
  shorter = omega arith;
}
  where
    keeps : (found : Option (List (List ℕ))) → found ≡ option_map (λ more. [] ++ more) found
    keeps None = refl
    keeps (Some more) = refl

until_more : (w line : List ℕ) (front after all : List (List ℕ)) → lines_until w all ≡ option_map (λ more. front ++ more) (lines_until w (line ∷ after)) → bytes_eq line w ≡ false
    → lines_until w all ≡ option_map (λ more. (front ++ line ∷ []) ++ more) (lines_until w after)
until_more w line front after all whole other =
    whole ∙ ap (option_map (λ more. front ++ more)) (until_later w line after other) ∙ map_front front line (lines_until w after)

kept_short : (b : Bool) (text line : List ℕ) → length text ≤ most_text → kept b text line ≡ appended b text line
kept_short b text line short =
    let e : nat_lt most_text (length text) ≡ false = grind (arith, nat_tests) in
    ap (λ c. if c then text else appended b text line) e

kept_long : (b : Bool) (text line : List ℕ) → most_text < length text → kept b text line ≡ text
kept_long b text line long =
    let e : nat_lt most_text (length text) ≡ true = grind (arith, nat_tests) in
    ap (λ c. if c then text else appended b text line) e

-- one more line is read, and kept where the text is not too long yet
pub reads_more : (n m k : ℕ) (w bytes rest later line text longer : List ℕ) (bad found : Option ℕ) → HasRead n w bytes m rest text bad
    → lines_of rest ≡ line ∷ lines_of later → bytes_eq line w ≡ false → k ≡ m + 1 → length later < length rest
    → longer ≡ kept (nat_eq k (n + 1)) text line → found ≡ option_or bad (if is_utf8 line then None else Some k)
    → HasRead n w bytes k later longer found
reads_more n m k w bytes rest later line text longer bad found r next other number shorter longer_is bad_is =
    let keeps : length text ≤ most_text → longer ≡ appended (nat_eq k (n + 1)) text line = λ short. longer_is ∙ kept_short (nat_eq k (n + 1)) text line short in
    let joined : length text ≤ most_text → longer ≡ join_with_byte 10 (r.front ++ line ∷ []) =
    λ short. kept_more n k r.front line text longer (omega (arith, r.number)) (r.fits short) (keeps short) in
    record {
      front = r.front ++ line ∷ [];
      whole = until_more w line r.front (lines_of later) (lines_of bytes) (r.whole ∙ ap (λ ls. option_map (λ more. r.front ++ more) (lines_until w ls)) next) other;
      fits = λ short. fits_more (nat_le (length text) most_text) refl joined short;
      long = λ long. long_more (nat_le (length text) most_text) refl joined long;
      bad_is = bad_is ∙ ap (λ b. option_or b (if is_utf8 line then None else Some k)) r.bad_is ∙ sym (bad_more (n + 1) k r.front line (omega (arith, r.number)));
      number = omega (arith, r.number, length-append r.front (line ∷ []));
      within = one_more (length r.front) _ (lines_of bytes) (sym r.after ∙ next) (length-append r.front (line ∷ []));
      after = after_one _ _ _ _ (sym r.after ∙ next) (length-append r.front (line ∷ []));
      shorter = omega (arith, r.shorter);
    }
  where
    after_one : (all tail : List (List ℕ)) (i j : ℕ) → drop i all ≡ line ∷ tail → j ≡ i + 1 → tail ≡ drop j all
    after_one all tail i j e f = sym (ap (λ k. drop k all) f ∙ sym (drop-drop 1 i all) ∙ ap (drop 1) e)

    one_more : (i j : ℕ) (all : List (List ℕ)) → drop i all ≡ line ∷ lines_of later → j ≡ i + 1 → j ≤ length all
    one_more i j all e f = omega (arith, length-drop i all, ap length e)

    fits_more : (b : Bool) → nat_le (length text) most_text ≡ b → (length text ≤ most_text → longer ≡ join_with_byte 10 (r.front ++ line ∷ []))
        → length longer ≤ most_text → longer ≡ join_with_byte 10 (r.front ++ line ∷ [])
    fits_more true e joined short = joined (grind (arith, nat_tests))
    fits_more false e joined short =
        let above : most_text < length text = grind (arith, nat_tests) in
        absurd (omega (arith, ap length (longer_is ∙ kept_long (nat_eq k (n + 1)) text line above)))

    long_more : (b : Bool) → nat_le (length text) most_text ≡ b → (length text ≤ most_text → longer ≡ join_with_byte 10 (r.front ++ line ∷ []))
        → most_text < length longer → most_text < length (join_with_byte 10 (r.front ++ line ∷ []))
    long_more true e joined long =
        let short : length text ≤ most_text = grind (arith, nat_tests) in
        omega (arith, ap length (joined short))
    long_more false e joined long =
        let above : most_text < length text = grind (arith, nat_tests) in
        omega (arith, r.long above, join_longer r.front (line ∷ []))

-- no line is left
pub reads_none : (n m k : ℕ) (w bytes rest text : List ℕ) (bad : Option ℕ) → HasRead n w bytes m rest text bad → lines_of rest ≡ [] → k ≡ m
    → long_text n w (lines_of bytes) ≡ Ok (Open, k - n)
reads_none n m k w bytes rest text bad r e here =
    ap (λ found. option_map_or (text_on n) found (Ok (Open, length (lines_of bytes)))) (r.whole ∙ ap (λ ls. option_map (λ more. r.front ++ more) (lines_until w ls)) e)
    ∙ ap (λ i. Ok (Open, i)) (omega (arith, r.number, r.within, length-drop (length r.front) (lines_of bytes), ap length (sym r.after ∙ e)))

pub goes_none : (n m k : ℕ) (w bytes rest later text : List ℕ) (bad : Option ℕ) → HasRead n w bytes m rest text bad → k ≡ m → later ≡ rest → Goes n bytes k later
goes_none n m k w bytes rest later text bad r number same = record {
  later = omega (arith, r.number);
  after = ap lines_of same ∙ r.after ∙ ap (λ i. drop i (lines_of bytes)) (omega (arith, r.number));
  shorter = omega (arith, r.shorter, ap length same);
}

until_found : (n m k : ℕ) (w bytes rest later line text : List ℕ) (bad : Option ℕ) (r : HasRead n w bytes m rest text bad)
    → lines_of rest ≡ line ∷ lines_of later → bytes_eq line w ≡ true → long_text n w (lines_of bytes) ≡ text_on n r.front
until_found n m k w bytes rest later line text bad r next here =
    ap (λ found. option_map_or (text_on n) found (Ok (Open, length (lines_of bytes)))) (r.whole ∙ ap (λ ls. option_map (λ more. r.front ++ more) (lines_until w ls)) next ∙ ap (option_map (λ more. r.front ++ more)) (until_here w line (lines_of later) here))
    ∙ ap (text_on n) (append-nil r.front)

-- the text has ended, and is too long
pub reads_too_much : (n m k : ℕ) (w bytes rest later line text : List ℕ) (bad : Option ℕ) → HasRead n w bytes m rest text bad
    → lines_of rest ≡ line ∷ lines_of later → bytes_eq line w ≡ true → most_text < length text
    → long_text n w (lines_of bytes) ≡ fail n TooLong
reads_too_much n m k w bytes rest later line text bad r next here long =
    let e : nat_lt most_text (length (join_with_byte 10 r.front)) ≡ true = above _ (r.long long) in
    until_found n m k w bytes rest later line text bad r next here
    ∙ ap (λ b. if b then fail n TooLong else Ok (Given (join_with_byte 10 r.front) (first_bad (n + 1) r.front), length r.front + 1)) e
  where
    above : (i : ℕ) → most_text < i → nat_lt most_text i ≡ true
    above i h = grind (arith, nat_tests)

-- the text has ended
pub reads_all : (n m k : ℕ) (w bytes rest later line text : List ℕ) (bad : Option ℕ) → HasRead n w bytes m rest text bad
    → lines_of rest ≡ line ∷ lines_of later → bytes_eq line w ≡ true → k ≡ m + 1 → length text ≤ most_text
    → long_text n w (lines_of bytes) ≡ Ok (Given text bad, k - n)
reads_all n m k w bytes rest later line text bad r next here number short =
    let text_is = r.fits short in
    let e : nat_lt most_text (length (join_with_byte 10 r.front)) ≡ false = below _ (omega (arith, ap length text_is)) in
    until_found n m k w bytes rest later line text bad r next here
    ∙ ap (λ b. if b then fail n TooLong else Ok (Given (join_with_byte 10 r.front) (first_bad (n + 1) r.front), length r.front + 1)) e
    ∙ ap (λ t. Ok (Given t (first_bad (n + 1) r.front), length r.front + 1)) (sym text_is)
    ∙ ap (λ found. Ok (Given text found, length r.front + 1)) (sym r.bad_is)
    ∙ ap (λ i. Ok (Given text bad, i)) (omega (arith, r.number))
  where
    below : (i : ℕ) → i ≤ most_text → nat_lt most_text i ≡ false
    below i h = grind (arith, nat_tests)

pub goes_past : (n m k : ℕ) (w bytes rest later line text : List ℕ) (bad : Option ℕ) → HasRead n w bytes m rest text bad
    → lines_of rest ≡ line ∷ lines_of later → k ≡ m + 1 → length later < length rest → Goes n bytes k later
goes_past n m k w bytes rest later line text bad r next number shorter = record {
  later = omega (arith, r.number);
  after = after_one (lines_of bytes) (lines_of later) (length r.front) (k - n) (sym r.after ∙ next) (omega (arith, r.number));
  shorter = omega (arith, r.shorter);
}
  where
    after_one : (all tail : List (List ℕ)) (i j : ℕ) → drop i all ≡ line ∷ tail → j ≡ i + 1 → tail ≡ drop j all
    after_one all tail i j e f = sym (ap (λ k. drop k all) f ∙ sym (drop-drop 1 i all) ∙ ap (drop 1) e)
