-- One thing after another: three in a row, and a failure that stays.
use Rattle.std.proofs.Common.{◌≡◌, Result, Ok, Err, refl, ap}
use Rattle.charged_heap.specs.Store.{Store}
use Rattle.charged_heap.specs.declared.fault.Fail.{Fail}
use Rattle.charged_heap.specs.declared.fault.Fail.TheVariants.{NoMemory}
use Rattle.charged_heap.specs.Ends.{Ends, Meets, and_then}

-- three in a row group either way
pub and_then_then : {A B C : Type 0} (m : Ends A) (f : A → Store → Ends B) (g : B → Store → Ends C)
    → and_then (and_then m f) g ≡ and_then m (λ a s. and_then (f a s) g)
and_then_then (Ok a, s) f g = refl
and_then_then (Err fail, s) f g = refl

-- the second is not begun where the first failed
pub stopped : {A B : Type 0} (m : Ends A) (fail : Fail) (s : Store) (next : A → Store → Ends B)
    → Meets (Err fail) s m → Meets (Err fail) s (and_then m next)
stopped {A} {B} m fail s next first = λ memory. ap (λ one. and_then one next) (first (λ e. memory (same e)))
  where
    same : ◌≡◌ {A = Result A Fail} (Err fail) (Err NoMemory) → ◌≡◌ {A = Result B Fail} (Err fail) (Err NoMemory)
    same e = cc
