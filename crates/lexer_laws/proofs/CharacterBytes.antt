-- The bytes of a character, and bytes that begin a text.
use Rattle.std.proofs.Common.{◌≡◌, ◌≢◌, ℕ, ◌+◌, ◌-◌, ◌*◌, ◌/◌, ◌≤◌, ◌<◌, List, [], ◌∷◌, ◌++◌, length, get_or, Bool, true, false, cond, ◌&&◌, ◌⊎◌, inl, inr, refl, sym, ap, subst, ◌∙◌, ⊎_elim, arith}
use Rattle.std.specs.Prelude.{nat_le, ◌==◌}
use Rattle.std.specs.Int.{is_in_range}
use Rattle.std.specs.Char.{IsScalar}
use Rattle.std.specs.Str.{IsUtf8}
use Rattle.std.specs.Str.Lossy.{second_byte_min, second_byte_max}
use Rattle.std.proofs.lemmas.Str.{IsUtf8-encode, encode_ascii}
use Rattle.std.proofs.lemmas.Bool.{ltb-true, leb-true, leb-false, eqb-true, eqb-false, le-ltb, lt-ltb, le-leb}
use lib.Dec.{ltb, leb, nltb→le}
use lib.Utf8.{scalar, scalars, next, encode, encodes, scalar_cases, low_scalar}
use Rattle.lexer_laws.specs.FirstFault.{BeginsText}

-- ---- tests and the values that they choose between

pub cond_by : {A : Type 0} (P : A → Type 0) (b : Bool) (x y : A) → (b ≡ true → P x) → (b ≡ false → P y) → P (cond b x y)
cond_by P true x y p q = p refl
cond_by P false x y p q = q refl

pub not_both : {b : Bool} → b ≡ true → b ≡ false → ⊥
not_both p q = cc

pub order : (m n : ℕ) → (m < n) ⊎ (n ≤ m)
order m n = by_test (ltb m n) refl
  where
    by_test : (b : Bool) → ltb m n ≡ b → (m < n) ⊎ (n ≤ m)
    by_test true e = inl (ltb-true m n e)
    by_test false e = inr (nltb→le m n (rw e tt))

both : (a b : Bool) → (a && b) ≡ true → (a ≡ true) × (b ≡ true)
both true b h = (refl, h)
both false b h = absurd (not_both h refl)

-- within a range, or below or above it
abbrev pub Ranges : Bool → ℕ → ℕ → ℕ → Type 0
Ranges true lo hi c = (lo ≤ c) × (c ≤ hi)
Ranges false lo hi c = (c < lo) ⊎ (hi < c)

ranges : (lo hi c : ℕ) → Ranges (is_in_range lo hi c) lo hi c
ranges lo hi c = by_tests (nat_le lo c) (nat_le c hi) refl refl
  where
    by_tests : (x y : Bool) → nat_le lo c ≡ x → nat_le c hi ≡ y → Ranges (x && y) lo hi c
    by_tests true true p q = (leb-true lo c p, leb-true c hi q)
    by_tests true false p q = inr (leb-false c hi q)
    by_tests false y p q = inl (leb-false lo c p)

pub in_range : (lo hi c : ℕ) → is_in_range lo hi c ≡ true → (lo ≤ c) × (c ≤ hi)
in_range lo hi c e = subst (λ b. Ranges b lo hi c) e (ranges lo hi c)

pub out_of_range : (lo hi c : ℕ) → is_in_range lo hi c ≡ false → (c < lo) ⊎ (hi < c)
out_of_range lo hi c e = subst (λ b. Ranges b lo hi c) e (ranges lo hi c)

-- ---- the bytes of a character

abbrev pub Follows : ℕ → Type 0
Follows b = (128 ≤ b) × (b < 192)

taken : {X : Type 0} (b : Bool) (x y : X) → b ≡ true → cond b x y ≡ x
taken b x y e = rw e refl

passed : {X : Type 0} (b : Bool) (x y : X) → b ≡ false → cond b x y ≡ y
passed b x y e = rw e refl

two : (c : ℕ) → 128 ≤ c → c < 2048 → encode c ≡ (192 + c / 64) ∷ next c ∷ []
unfolding encode
two c low high = passed (ltb c 128) _ _ (le-ltb c 128 low) ∙ taken (ltb c 2048) _ _ (lt-ltb c 2048 high)

three : (c : ℕ) → 2048 ≤ c → c < 65536 → encode c ≡ (224 + c / 4096) ∷ next (c / 64) ∷ next c ∷ []
unfolding encode
three c low high =
    passed (ltb c 128) _ _ (le-ltb c 128 (omega arith)) ∙ passed (ltb c 2048) _ _ (le-ltb c 2048 low)
    ∙ taken (ltb c 65536) _ _ (lt-ltb c 65536 high)

four : (c : ℕ) → 65536 ≤ c → encode c ≡ (240 + c / 262144) ∷ next (c / 4096) ∷ next (c / 64) ∷ next c ∷ []
unfolding encode
four c low =
    passed (ltb c 128) _ _ (le-ltb c 128 (omega arith)) ∙ passed (ltb c 2048) _ _ (le-ltb c 2048 (omega arith))
    ∙ passed (ltb c 65536) _ _ (le-ltb c 65536 low)

-- what a text of n bytes that begins with x, y, z, w has to meet
pub record Ranged (n x y z w : ℕ) : Type 0 where
  pub second : 128 ≤ x → (194 ≤ x) × (1 < n) × Follows y
  pub third : 224 ≤ x → (2 < n) × Follows z
  pub in_three : 224 ≤ x → x < 240 → let high : ℕ = (x - 224) * 64 + (y - 128) in (32 ≤ high) × ((high < 864) ⊎ (896 ≤ high))
  pub fourth : 240 ≤ x → (3 < n) × Follows w × (let high : ℕ = (x - 240) * 64 + (y - 128) in (16 ≤ high) × (high < 272))

abbrev pub RangedAt : List ℕ → Type 0
RangedAt t = Ranged (length t) (get_or t 0 0) (get_or t 1 0) (get_or t 2 0) (get_or t 3 0)

abbrev Scalar : ℕ → Type 0
Scalar c = (c < 55296) ⊎ ((57344 ≤ c) × (c < 1114112))

char_is_ranged : (c : ℕ) (rest : List ℕ) → Scalar c → RangedAt (encode c ++ rest)
char_is_ranged c rest s = by_width (order c 128) (order c 2048) (order c 65536)
  where
    by_width : (c < 128) ⊎ (128 ≤ c) → (c < 2048) ⊎ (2048 ≤ c) → (c < 65536) ⊎ (65536 ≤ c) → RangedAt (encode c ++ rest)
    by_width (inl h) _ _ = subst (λ p. RangedAt (p ++ rest)) (sym (encode_ascii c h)) (record {
      second = λ t. absurd (omega arith);
      third = λ t. absurd (omega arith);
      in_three = λ t v. absurd (omega arith);
      fourth = λ t. absurd (omega arith);
    })
    by_width (inr l) (inl h) _ = subst (λ p. RangedAt (p ++ rest)) (sym (two c l h)) (record {
      second = λ t. (omega arith, omega arith, (omega arith, omega arith));
      third = λ t. absurd (omega arith);
      in_three = λ t v. absurd (omega arith);
      fourth = λ t. absurd (omega arith);
    })
    by_width (inr _) (inr l) (inl h) = subst (λ p. RangedAt (p ++ rest)) (sym (three c l h)) (record {
      second = λ t. (omega arith, omega arith, (omega arith, omega arith));
      third = λ t. (omega arith, (omega arith, omega arith));
      in_three = λ t v. (omega arith, ⊎_elim (λ p. inl (omega arith)) (λ p. inr (omega arith)) s);
      fourth = λ t. absurd (omega arith);
    })
    by_width (inr _) (inr _) (inr l) = subst (λ p. RangedAt (p ++ rest)) (sym (four c l)) (record {
      second = λ t. (omega arith, omega arith, (omega arith, omega arith));
      third = λ t. (omega arith, (omega arith, omega arith));
      in_three = λ t v. absurd (⊎_elim (λ p. omega arith) (λ p. omega arith) s);
      fourth = λ t. (omega arith, (omega arith, omega arith), ⊎_elim (λ p. absurd (omega arith)) (λ p. (omega arith, omega arith)) s);
    })

pub text_is_ranged : (t : List ℕ) → 0 < length t → IsUtf8 t → RangedAt t
text_is_ranged t some (cs, (s, e)) = by_chars cs s e
  where
    by_chars : (cs : List ℕ) → scalars cs ≡ true → encodes cs ≡ t → RangedAt t
    by_chars [] s e = absurd (omega (arith, ap length e))
    by_chars (c ∷ cs) s e = subst RangedAt e (char_is_ranged c (encodes cs) (scalar_cases c (both (scalar c) (scalars cs) s).0))

-- ---- bytes in the ranges of a character begin a text

-- what the second byte of a character has to meet
pub record Second (x y : ℕ) : Type 0 where
  pub follows : Follows y
  pub after_e0 : x ≡ 224 → 160 ≤ y
  pub after_ed : x ≡ 237 → y < 160
  pub after_f0 : x ≡ 240 → 144 ≤ y
  pub after_f4 : x ≡ 244 → y < 144

-- the least and the greatest second byte, by its first
pub min_cases : (x : ℕ) (P : ℕ → Type 0) → (x ≡ 224 → P 160) → (x ≡ 240 → P 144) → (x ≢ 224 → x ≢ 240 → P 128) → P (second_byte_min x)
min_cases x P p q r = cond_by P (x == 224) 160 (cond (x == 240) 144 128)
    (λ e. p (eqb-true x 224 e))
    (λ ne. cond_by P (x == 240) 144 128 (λ e. q (eqb-true x 240 e)) (λ nf. r (eqb-false x 224 ne) (eqb-false x 240 nf)))

pub max_cases : (x : ℕ) (P : ℕ → Type 0) → (x ≡ 237 → P 159) → (x ≡ 244 → P 143) → (x ≢ 237 → x ≢ 244 → P 191) → P (second_byte_max x)
max_cases x P p q r = cond_by P (x == 237) 159 (cond (x == 244) 143 191)
    (λ e. p (eqb-true x 237 e))
    (λ ne. cond_by P (x == 244) 143 191 (λ e. q (eqb-true x 244 e)) (λ nf. r (eqb-false x 237 ne) (eqb-false x 244 nf)))

pub second_of : (x y : ℕ) → second_byte_min x ≤ y → y ≤ second_byte_max x → Second x y
second_of x y low high = record {
  follows = (
    min_cases x (λ m. m ≤ y → 128 ≤ y) (λ e h. omega arith) (λ e h. omega arith) (λ a b h. h) low,
    max_cases x (λ m. y ≤ m → y < 192) (λ e h. omega arith) (λ e h. omega arith) (λ a b h. omega arith) high,
  );
  after_e0 = λ e. min_cases x (λ m. m ≤ y → 160 ≤ y) (λ _ h. h) (λ f h. omega arith) (λ a b h. absurd (a e)) low;
  after_ed = λ e. max_cases x (λ m. y ≤ m → y < 160) (λ _ h. omega arith) (λ f h. omega arith) (λ a b h. absurd (a e)) high;
  after_f0 = λ e. min_cases x (λ m. m ≤ y → 144 ≤ y) (λ f h. omega arith) (λ _ h. h) (λ a b h. absurd (b e)) low;
  after_f4 = λ e. max_cases x (λ m. y ≤ m → y < 144) (λ f h. omega arith) (λ _ h. omega arith) (λ a b h. absurd (b e)) high;
}

-- the least second byte is one
least_second : (x : ℕ) → Second x (second_byte_min x)
least_second x = second_of x (second_byte_min x) (omega arith)
    (min_cases x (λ m. m ≤ second_byte_max x)
    (λ e. max_cases x (λ m. 160 ≤ m) (λ f. omega arith) (λ f. omega arith) (λ a b. omega arith))
    (λ e. max_cases x (λ m. 144 ≤ m) (λ f. omega arith) (λ f. omega arith) (λ a b. omega arith))
    (λ a b. max_cases x (λ m. 128 ≤ m) (λ f. omega arith) (λ f. omega arith) (λ a b. omega arith)))

high_scalar : (c : ℕ) → 57344 ≤ c → c < 1114112 → IsScalar c
high_scalar c low high = rw (le-ltb c 55296 (omega arith), le-leb 57344 c low, lt-ltb c 1114112 high) refl

pub two_are_text : (x y : ℕ) → 194 ≤ x → x < 224 → Follows y → IsUtf8 (x ∷ y ∷ [])
two_are_text x y low high f =
    let c = (x - 192) * 64 + (y - 128) in
    let p : 192 + c / 64 ≡ x = omega arith in
    let q : next c ≡ y = omega arith in
    subst IsUtf8 (two c (omega arith) (omega arith) ∙ (λ k. p k ∷ q k ∷ [])) (IsUtf8-encode c (low_scalar c (omega arith)))

pub three_are_text : (x y z : ℕ) → 224 ≤ x → x < 240 → Second x y → Follows z → IsUtf8 (x ∷ y ∷ z ∷ [])
three_are_text x y z low high s g =
    let c = (x - 224) * 4096 + (y - 128) * 64 + (z - 128) in
    let f = s.follows in
    let p : 224 + c / 4096 ≡ x = omega arith in
    let q : next (c / 64) ≡ y = omega arith in
    let r : next c ≡ z = omega arith in
    let least : 2048 ≤ c = ⊎_elim (λ a. let e = s.after_e0 (omega arith) in omega arith) (λ a. omega arith) (order x 225) in
    let valid : IsScalar c = ⊎_elim
    (λ a. low_scalar c (⊎_elim (λ b. omega arith) (λ b. let e = s.after_ed (omega arith) in omega arith) (order x 237)))
    (λ a. high_scalar c (omega arith) (omega arith)) (order x 238) in
    subst IsUtf8 (three c least (omega arith) ∙ (λ k. p k ∷ q k ∷ r k ∷ [])) (IsUtf8-encode c valid)

pub four_are_text : (x y z w : ℕ) → 240 ≤ x → x ≤ 244 → Second x y → Follows z → Follows w → IsUtf8 (x ∷ y ∷ z ∷ w ∷ [])
four_are_text x y z w low high s g h =
    let c = (x - 240) * 262144 + (y - 128) * 4096 + (z - 128) * 64 + (w - 128) in
    let f = s.follows in
    let p : 240 + c / 262144 ≡ x = omega arith in
    let q : next (c / 4096) ≡ y = omega arith in
    let r : next (c / 64) ≡ z = omega arith in
    let t : next c ≡ w = omega arith in
    let least : 65536 ≤ c = ⊎_elim (λ a. let e = s.after_f0 (omega arith) in omega arith) (λ a. omega arith) (order x 241) in
    let most : c < 1114112 = ⊎_elim (λ a. omega arith) (λ a. let e = s.after_f4 (omega arith) in omega arith) (order x 244) in
    subst IsUtf8 (four c least ∙ (λ k. p k ∷ q k ∷ r k ∷ t k ∷ [])) (IsUtf8-encode c (high_scalar c (omega arith) most))

pub begins_three : (x y z : ℕ) → 224 ≤ x → x ≤ 244 → Second x y → Follows z → BeginsText (x ∷ y ∷ z ∷ [])
begins_three x y z low high s g = ⊎_elim
    (λ h. ([], three_are_text x y z low h s g))
    (λ h. (128 ∷ [], four_are_text x y z 128 h high s g (omega arith, omega arith))) (order x 240)

pub begins_two : (x y : ℕ) → 194 ≤ x → x ≤ 244 → Second x y → BeginsText (x ∷ y ∷ [])
begins_two x y low high s = ⊎_elim
    (λ h. ([], two_are_text x y low h s.follows))
    (λ h. let r = begins_three x y 128 h high s (omega arith, omega arith) in (128 ∷ r.0, r.1)) (order x 224)

pub begins_one : (x : ℕ) → 194 ≤ x → x ≤ 244 → BeginsText (x ∷ [])
begins_one x low high = let r = begins_two x (second_byte_min x) low high (least_second x) in (second_byte_min x ∷ r.0, r.1)
