-- A text is read in one way only.
use Rattle.std.proofs.Common.{◌≡◌, ℕ, List, Bool, false, ◌||◌, Ok, Err, refl, ap, subst}
use Rattle.std.specs.Str.{chars}
use Rattle.ivm_text.specs.declared.refusal.Refusal.{Refusal}
use Rattle.ivm_text.specs.declared.refusal.RefusalKind.{RefusalKind}
use Rattle.js_lexer.specs.declared.token.Token.{Token}
use Rattle.js_lexer.specs.Letters.{Text}
use Rattle.js_lexer.specs.Front.{ended, gap, token, fault}
use Rattle.js_lexer.specs.Tokens.{Reading, place_of, Reads, at_end, past_gap, past_token, at_fault, AreTokens, refusal, IsRefusal, not_utf8, first_fault, HasOneReading}
use Rattle.js_lexer.proofs.Steps.{one_front}

pub one_answer : {w : Text} {l : Bool} {t : Text} {r s : Reading} → Reads w l t r → Reads w l t s → r ≡ s
one_answer (at_end f) (at_end g) = refl
one_answer (at_end f) (past_gap {m = m} {u = u} g j) = absurd (let e : ended ≡ gap m u = one_front f g in cc)
one_answer (at_end f) (past_token {u = u} {kind = k} {units = us} {n = n} g j) = absurd (let e : ended ≡ token k us n u = one_front f g in cc)
one_answer (at_end f) (at_fault {at = at} {kind = k} g) = absurd (let e : ended ≡ fault k at = one_front f g in cc)
one_answer {w = w} {s = s} (past_gap {l = l} {m = m} {u = u} f i) (past_gap {m = m2} {u = v} g j) =
    let e : gap m u ≡ gap m2 v = one_front f g in
    let flag : m2 ≡ m = cc in
    let rest : v ≡ u = cc in
    one_answer i (subst (λ (x : Text). Reads w (l || m) x s) rest (subst (λ (b : Bool). Reads w (l || b) v s) flag j))
one_answer (past_gap {m = m} {u = u} f i) (at_end g) = absurd (let e : gap m u ≡ ended = one_front f g in cc)
one_answer (past_gap {m = m} {u = u} f i) (past_token {u = v} {kind = k} {units = us} {n = n} g j) = absurd (let e : gap m u ≡ token k us n v = one_front f g in cc)
one_answer (past_gap {m = m} {u = u} f i) (at_fault {at = at} {kind = k} g) = absurd (let e : gap m u ≡ fault k at = one_front f g in cc)
one_answer {w = w} (past_token {l = l} {t = t} {u = u} {kind = k} {units = us} {n = n} {r = r} f i) (past_token {u = v} {kind = k2} {units = us2} {n = n2} {r = s} g j) =
    let e : token k us n u ≡ token k2 us2 n2 v = one_front f g in
    let kinds : k ≡ k2 = cc in
    let units : us ≡ us2 = cc in
    let numbers : n ≡ n2 = cc in
    let rest : v ≡ u = cc in
    let deeper : r ≡ s = one_answer i (subst (λ (x : Text). Reads w false x s) rest j) in
    cc
one_answer (past_token {u = u} {kind = k} {units = us} {n = n} f i) (at_end g) = absurd (let e : token k us n u ≡ ended = one_front f g in cc)
one_answer (past_token {u = u} {kind = k} {units = us} {n = n} f i) (past_gap {m = m} {u = v} g j) = absurd (let e : token k us n u ≡ gap m v = one_front f g in cc)
one_answer (past_token {u = u} {kind = k} {units = us} {n = n} f i) (at_fault {at = at} {kind = k2} g) = absurd (let e : token k us n u ≡ fault k2 at = one_front f g in cc)
one_answer (at_fault {at = at} {kind = k} f) (at_fault {at = at2} {kind = k2} g) = let e : fault k at ≡ fault k2 at2 = one_front f g in cc
one_answer (at_fault {at = at} {kind = k} f) (at_end g) = absurd (let e : fault k at ≡ ended = one_front f g in cc)
one_answer (at_fault {at = at} {kind = k} f) (past_gap {m = m} {u = v} g j) = absurd (let e : fault k at ≡ gap m v = one_front f g in cc)
one_answer (at_fault {at = at} {kind = k} f) (past_token {u = u} {kind = k2} {units = us} {n = n} g j) = absurd (let e : fault k at ≡ token k2 us n u = one_front f g in cc)

one_refusal : {bytes : List ℕ} {r s : Refusal} → IsRefusal bytes r → IsRefusal bytes s → r ≡ s
one_refusal (not_utf8 never) (not_utf8 other) = refl
one_refusal (not_utf8 never) (first_fault u j) = absurd (never u)
one_refusal (first_fault u i) (not_utf8 never) = absurd (never u)
one_refusal (first_fault {bytes = bytes} {kind = k} {at = at} u i) (first_fault {kind = k2} {at = at2} v j) =
    let e : ◌≡◌ {A = Reading} (Err (k, at)) (Err (k2, at2)) = one_answer i j in
    let pair : ◌≡◌ {A = RefusalKind × Text} (k, at) (k2, at2) = cc in
    ap (λ (o : RefusalKind × Text). refusal o.0 (place_of (chars bytes) o.1)) pair

not_both : {bytes : List ℕ} {ts : List Token} {r : Refusal} → AreTokens bytes ts → IsRefusal bytes r → ⊥
not_both a (not_utf8 never) = never a.0
not_both {ts = ts} a (first_fault {kind = k} {at = at} u i) = let e : ◌≡◌ {A = Reading} (Ok ts) (Err (k, at)) = one_answer a.1 i in cc

pub has_one_reading : (bytes : List ℕ) → HasOneReading bytes
has_one_reading bytes = record {
  tokens = λ ts us a b. let e : ◌≡◌ {A = Reading} (Ok ts) (Ok us) = one_answer a.1 b.1 in cc;
  refusals = λ r s a b. one_refusal a b;
  either = λ ts r a b. not_both a b;
}
