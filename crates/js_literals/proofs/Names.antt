-- A name that is there, and the form that it names.
use Rattle.std.proofs.Common.{◌≡◌, ℕ, List, Option, None, Some, Bor, refl, sym, ap, ◌∙◌}
use Rattle.std.specs.Prelude.{IsSome}
use Rattle.std.specs.Option.{option_copied}
use Rattle.js_literals.specs.Told.{form_of_name}
use Rattle.js_literals.specs.declared.argument.FormKind.{FormKind}

pub name_there : (o : Option (Bor (List ℕ))) (own told : Option (List ℕ)) (x : List ℕ) → option_copied o ≡ own → told ≡ own → told ≡ Some x → IsSome o
name_there None own told x e f g = absurd (let none : ⊥ = cc in none)
name_there (Some b) own told x e f g = refl

pub form_there : (o : Option (Bor (List ℕ))) (own told : Option (List ℕ)) (form : FormKind) → option_copied o ≡ own → told ≡ own → form_of_name told ≡ Some form → IsSome o
form_there None own told form e f g = absurd (let h = ap form_of_name (f ∙ sym e) in let none : ⊥ = cc in none)
form_there (Some b) own told form e f g = refl

pub name_is : (o : Option (Bor (List ℕ))) (w : Bor (List ℕ)) (own told : Option (List ℕ)) → o ≡ Some w → option_copied o ≡ own → told ≡ own → told ≡ Some w.now
name_is o w own told e f g = g ∙ sym f ∙ ap option_copied e

pub is_there : (o : Option FormKind) (form : FormKind) → o ≡ Some form → IsSome o
is_there None form e = absurd (let none : ⊥ = cc in none)
is_there (Some f) form e = refl
