-- What holds of a script once all lines are read.
use Rattle.std.proofs.Common.{◌≡◌, ℕ, ◌<◌, ◌≤◌, ◌↔◌, Bool, true, false, IsErrOf, List, [], length, nat_lt, if◌then◌else◌, Result, Ok, refl, ap, ◌∙◌, sym, subst, arith}
use Rattle.std.proofs.lemmas.Bool.Decides.{nat_tests}
use Rattle.host_syntax.specs.declared.script.HostScript.{HostScript}
use Rattle.host_syntax.specs.Whole.{IsWhole}
use Rattle.host_script.specs.declared.draft.Draft.{Draft}
use Rattle.host_script.specs.declared.fault.HostFault.{HostFault}
use Rattle.host_script.specs.declared.fault.HostFault.TheVariants.{At}
use Rattle.host_script.specs.declared.fault.HostKind.TheVariants.{TooLong}
use Rattle.host_script.specs.Faults.{◌>>=◌, fail, Gives}
use Rattle.host_script.specs.Words.{lines_of}
use Rattle.host_script.specs.Commands.{no_lines}
use Rattle.host_script.specs.Script.{HasNames}
use Rattle.host_script.specs.HostText.{host_of, with_lines}
use Rattle.host_script.proofs.WholeLemmas.{IsSound}
use Rattle.host_script.proofs.RuleLemmas.{lines_sound, lines_late}

-- the lines that are left are none
all_read : (bytes rest : List ℕ) (n : ℕ) (draft : Draft) → with_lines n 0 draft (lines_of rest) ≡ with_lines 1 0 no_lines (lines_of bytes) → lines_of rest ≡ [] → IsSound draft
all_read bytes rest n draft whole none = lines_sound (lines_of bytes) draft (sym whole ∙ ap (with_lines n 0 draft) none)

pub read_whole : (bytes rest : List ℕ) (n : ℕ) (draft : Draft) → with_lines n 0 draft (lines_of rest) ≡ with_lines 1 0 no_lines (lines_of bytes) → lines_of rest ≡ [] → IsWhole draft.script
read_whole bytes rest n draft whole none = let sound = all_read bytes rest n draft whole none in sound.whole

pub read_names : (bytes rest : List ℕ) (n : ℕ) (draft : Draft) → with_lines n 0 draft (lines_of rest) ≡ with_lines 1 0 no_lines (lines_of bytes) → lines_of rest ≡ [] → HasNames draft.script
read_names bytes rest n draft whole none = let sound = all_read bytes rest n draft whole none in record { names = sound.names; distinct = sound.distinct }

too_long_only : (bytes : List ℕ) → host_of bytes ≡ fail 0 TooLong → 4194304 < length bytes
too_long_only bytes e = by (nat_lt 4194304 (length bytes)) refl
  where
    by : (b : Bool) → nat_lt 4194304 (length bytes) ≡ b → 4194304 < length bytes
    by true known = grind (arith, nat_tests)
    by false known = absurd (lines_late (lines_of bytes) (sym (ap (λ b. if b then fail 0 TooLong else (with_lines 1 0 no_lines (lines_of bytes) >>= λ draft. Ok draft.script)) known) ∙ e))

-- where the bytes aren't too many, no answer tells it
pub told_short : (bytes : List ℕ) (result : Result HostScript HostFault) → length bytes ≤ 4194304 → Gives (λ script. script) result (host_of bytes)
    → IsErrOf result (At 0 TooLong) ↔ (4194304 < length bytes)
told_short bytes result short gives = (λ e. too_long_only bytes (subst (λ r. Gives (λ script. script) r (host_of bytes)) e gives), λ long. absurd (omega arith))
