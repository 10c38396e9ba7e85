-- Places of characters, from the bytes that they take.
use Rattle.std.proofs.Common.{◌≡◌, ℕ, suc, zero, ◌+◌, ◌-◌, ◌<◌, ◌≤◌, List, [], ◌∷◌, length, take, get_or, refl, sym, ap, ◌∙◌, arith, length-append}
use Rattle.std.proofs.lemmas.Str.{length-encode, chars-encodes}
use Rattle.std.specs.Char.{len_utf8, encode_utf8}
use Rattle.std.specs.Str.{IsUtf8, chars, encode_utf8_all}
use Rattle.js_lexer.specs.Letters.{Text}
use Rattle.js_lexer.specs.Tokens.{byte_len}
use Rattle.js_lexer.specs.Places.{places_from}

pub byte_len-cons : (c : ℕ) (t : Text) → byte_len (c ∷ t) ≡ len_utf8 c + byte_len t
byte_len-cons c t = length-append (encode_utf8 c) (encode_utf8_all t) ∙ ap (λ (n : ℕ). n + byte_len t) (length-encode c)

pub length-places_from : (n : ℕ) (t : Text) → length (places_from n t) ≡ length t + 1
length-places_from n [] = refl
length-places_from n (c ∷ t) = let e = length-places_from (n + len_utf8 c) t in omega (arith, e)

pub place_at : (n : ℕ) (t : Text) (k d : ℕ) → k ≤ length t → get_or (places_from n t) k d ≡ n + byte_len (take k t)
place_at n [] zero d le = omega arith
place_at n [] (suc k) d le = absurd (omega arith)
place_at n (c ∷ t) zero d le = omega arith
place_at n (c ∷ t) (suc k) d le =
    let e = place_at (n + len_utf8 c) t k d (omega arith) in
    omega (arith, e, byte_len-cons c (take k t))

-- the place of a text r with which t ends
pub place_found : (ps t r : List ℕ) (k : ℕ) → ps ≡ places_from 0 t → k ≡ length t - length r → get_or ps k 0 ≡ byte_len (take (length t - length r) t)
place_found ps t r k e is = rw (e, is) (let f = place_at 0 t (length t - length r) 0 (omega arith) in omega (arith, f))

pub place_within : (ps t r : List ℕ) (k : ℕ) → ps ≡ places_from 0 t → k ≡ length t - length r → k < length ps
place_within ps t r k e is = omega (arith, is, ap length e, length-places_from 0 t)

-- the characters of a text take its bytes
pub byte_len-chars : (bs : List ℕ) → IsUtf8 bs → byte_len (chars bs) ≡ length bs
byte_len-chars bs u =
    let same : chars bs ≡ u.0 = sym (ap chars u.1.1) ∙ chars-encodes u.0 u.1.0 in
    ap byte_len same ∙ ap length u.1.1
