-- Names that are compared byte by byte, and new ones.
use Rattle.std.proofs.Common.{None, cond, if◌then◌else◌, ◌≡◌, ℕ, Bool, true, false, List, [], ◌∷◌, ◌++◌, Some, refl, ap, sym}
use Rattle.std.specs.Str.{bytes_eq, is_utf8, IsUtf8}
use Rattle.std.proofs.lemmas.Str.{IsUtf8-from_is_utf8, is_utf8-from_IsUtf8}
use Rattle.std.proofs.lemmas.Slice.Eq.{bytes_eq-Decides}
use Rattle.std.specs.Map.{lookup}
use Rattle.indexmap.specs.IndexMap.{insert_entry}
use Rattle.host_script.specs.declared.names.Named.{Named}

not_true : (b : Bool) → (b ≡ true → ⊥) → b ≡ false
not_true true h = absurd (h refl)
not_true false h = refl

pub bytes_differ : (xs ys : List ℕ) → (xs ≡ ys → ⊥) → bytes_eq xs ys ≡ false
bytes_differ xs ys h = not_true _ (λ e. h ((bytes_eq-Decides xs ys).0 e))

pub bytes_agree : (xs ys : List ℕ) → xs ≡ ys → bytes_eq xs ys ≡ true
bytes_agree xs ys h = (bytes_eq-Decides xs ys).1 h

pub utf8_yes : (bs : List ℕ) → IsUtf8 bs → true ≡ is_utf8 bs
utf8_yes bs h = sym (is_utf8-from_IsUtf8 bs h)

pub utf8_no : (bs : List ℕ) → ¬ (IsUtf8 bs) → false ≡ is_utf8 bs
utf8_no bs h = sym (not_true _ (λ e. h (IsUtf8-from_is_utf8 bs e)))

-- a new name goes last
pub entered_last : (name : List ℕ) (names : List (List ℕ × Named)) (what : Named) → lookup (bytes_eq name) names ≡ None
    → insert_entry bytes_eq names name what ≡ names ++ (name, what) ∷ []
entered_last name [] what new = refl
entered_last name (e ∷ names) what new =
    elim (bytes_eq name e.0) as (λ b. cond b (Some e.1) (lookup (bytes_eq name) names) ≡ None → (if b then (e.0, what) ∷ names else e ∷ insert_entry bytes_eq names name what) ≡ e ∷ (names ++ (name, what) ∷ []))
    [ true ↦ (λ h. absurd (cc)) | false ↦ (λ h. ap (λ rest. e ∷ rest) (entered_last name names what h)) ] new
