-- A reading grows from the front.
use Rattle.std.proofs.Common.{◌≡◌, ℕ, List, [], ◌∷◌, ◌++◌, Bool, false, ◌||◌, Ok, Err, ℤ, refl, sym, ap, subst, ◌∙◌, append_assoc}
use Rattle.std.specs.Str.{IsUtf8, chars}
use Rattle.ivm_text.specs.Text.{fault_place}
use Rattle.ivm_text.specs.declared.refusal.RefusalKind.TheVariants.{BadUtf8}
use Rattle.std.proofs.lemmas.List.{append-nil}
use Rattle.ivm_text.specs.declared.refusal.RefusalKind.{RefusalKind}
use Rattle.js_lexer.specs.declared.token.Token.{Token}
use Rattle.js_lexer.specs.declared.token.TokenKind.{TokenKind}
use Rattle.js_lexer.specs.Letters.{Text}
use Rattle.js_lexer.specs.Front.{Front, ended, gap, token, fault}
use Rattle.js_lexer.specs.Tokens.{Reading, after, token_of, place_of, Reads, at_end, past_gap, past_token, at_fault, refusal, IsRefusal, not_utf8, first_fault}

pub after_nothing : (r : Reading) → after [] r ≡ r
after_nothing (Ok ts) = refl
after_nothing (Err f) = refl

pub after_twice : (ts us : List Token) (r : Reading) → after ts (after us r) ≡ after (ts ++ us) r
after_twice ts us (Ok vs) = ap (λ (ws : List Token). Ok ws) (sym (append_assoc ts us vs))
after_twice ts us (Err f) = refl

-- from the state at `t` the whole text is read
abbrev pub Goes : Text → Bool → Text → List Token → Type 0
Goes w l t ts = (r : Reading) → Reads w l t r → Reads w false w (after ts r)

pub begins : (w : Text) (ts : List Token) → ts ≡ [] → Goes w false w ts
begins w ts none r i = subst (λ (us : List Token). Reads w false w (after us r)) (sym none) (subst (Reads w false w) (sym (after_nothing r)) i)

pub over_gap : (w t u : Text) (l m : Bool) (ts : List Token) → Goes w l t ts → Front t (gap m u) → Goes w (l || m) u ts
over_gap w t u l m ts goes f r i = goes r (past_gap f i)

pub over_token : (w t u : Text) (l : Bool) (kind : TokenKind) (units : List ℕ) (n : ℤ) (ts all : List Token) → Goes w l t ts
    → Front t (token kind units n u) → all ≡ ts ++ token_of kind units n (place_of w t) l ∷ [] → Goes w false u all
over_token w t u l kind units n ts all goes f e r i =
    subst (λ (us : List Token). Reads w false w (after us r)) (sym e)
    (subst (Reads w false w) (after_twice ts (token_of kind units n (place_of w t) l ∷ []) r)
    (goes (after (token_of kind units n (place_of w t) l ∷ []) r) (past_token f i)))

pub ends_here : (w t : Text) (l : Bool) (ts : List Token) → Goes w l t ts → Front t ended → Reads w false w (Ok ts)
ends_here w t l ts goes f = subst (λ (us : List Token). Reads w false w (Ok us)) (append-nil ts) (goes (Ok []) (at_end f))

pub fails_here : (w t at : Text) (l : Bool) (kind : RefusalKind) (ts : List Token) → Goes w l t ts → Front t (fault kind at)
    → Reads w false w (Err (kind, at))
fails_here w t at l kind ts goes f = goes (Err (kind, at)) (at_fault f)

-- the fault of the characters is that of the bytes
pub fault_of_bytes : (bytes text : List ℕ) (kind : RefusalKind) (place : ℕ) → text ≡ bytes → IsUtf8 bytes
    → ((at : Text) × Reads (chars text) false (chars text) (Err (kind, at)) × (place ≡ place_of (chars text) at))
    → IsRefusal bytes (refusal kind place)
fault_of_bytes bytes text kind place same u (at, reads, is) =
    let i : IsRefusal bytes (refusal kind (place_of (chars bytes) at)) =
    first_fault u (subst (λ (t : List ℕ). Reads (chars t) false (chars t) (Err (kind, at))) same reads) in
    subst (λ (n : ℕ). IsRefusal bytes (refusal kind n)) (sym (is ∙ ap (λ (t : List ℕ). place_of (chars t) at) same)) i

pub bytes_are_no_text : (bytes : List ℕ) (place : ℕ) → ¬ (IsUtf8 bytes) → place ≡ fault_place bytes → IsRefusal bytes (refusal BadUtf8 place)
bytes_are_no_text bytes place none is = subst (λ (n : ℕ). IsRefusal bytes (refusal BadUtf8 n)) (sym is) (not_utf8 none)
