-- A line is read with the lines of its text, and the lines after them follow.
use Rattle.std.proofs.Common.{◌≡◌, ℕ, ◌+◌, ◌-◌, ◌≤◌, false, List, [], ◌∷◌, length, drop, suc, zero, nat_lt, if◌then◌else◌, Result, Ok, refl, ap, ◌∙◌, sym, arith, add-zero}
use Rattle.std.proofs.lemmas.Bool.Decides.{nat_tests}
use Rattle.host_script.specs.declared.draft.Draft.{Draft}
use Rattle.host_script.specs.declared.fault.HostFault.{HostFault}
use Rattle.host_script.specs.declared.fault.HostFault.TheVariants.{At, NoMemory}
use Rattle.host_script.specs.declared.fault.HostKind.TheVariants.{TooLong}
use Rattle.host_script.specs.Faults.{◌>>=◌, fail, Fails}
use Rattle.host_script.specs.Words.{lines_of}
use Rattle.host_script.specs.Commands.{no_lines}
use Rattle.host_script.specs.HostText.{host_of, with_line, with_lines}
use Rattle.host_script.specs.Steps.{Goes}

pub lines_inside : (n k : ℕ) (draft : Draft) (lines : List (List ℕ)) → with_lines n k draft lines ≡ with_lines (n + k) 0 draft (drop k lines)
lines_inside n k draft [] = sym (ap (with_lines (n + k) 0 draft) (none_left k))
  where
    none_left : (k : ℕ) → drop k (let none : List (List ℕ) = [] in none) ≡ []
    none_left zero = refl
    none_left (suc k) = refl
lines_inside n zero draft (line ∷ lines) = ap (λ m. with_lines m 0 draft (line ∷ lines)) (sym (add-zero n))
lines_inside n (suc k) draft (line ∷ lines) = lines_inside (n + 1) k draft lines ∙ ap (λ m. with_lines m 0 draft (drop k lines)) (omega arith)

-- a line and its text are read
pub line_read : (n m : ℕ) (draft next : Draft) (line rest later : List ℕ) (all : Result Draft HostFault) → with_lines n 0 draft (line ∷ lines_of rest) ≡ all
    → with_line n draft line (lines_of rest) ≡ Ok (next, m - n) → Goes n rest m later → with_lines (m + 1) 0 next (lines_of later) ≡ all
line_read n m draft next line rest later all so_far step goes =
    ap (λ ls. with_lines (m + 1) 0 next ls) goes.after
    ∙ ap (λ i. with_lines i 0 next (drop (m - n) (lines_of rest))) (omega (arith, goes.later))
    ∙ sym (lines_inside (n + 1) (m - n) next (lines_of rest))
    ∙ sym (ap (λ s. s >>= λ more. with_lines (n + 1) more.1 more.0 (lines_of rest)) step)
    ∙ so_far

pub line_refused : (n : ℕ) (draft : Draft) (line rest : List ℕ) (all : Result Draft HostFault) (fault : HostFault) → with_lines n 0 draft (line ∷ lines_of rest) ≡ all
    → Fails fault (with_line n draft line (lines_of rest)) → Fails fault all
line_refused n draft line rest all NoMemory so_far f = tt
line_refused n draft line rest all (At number kind) so_far f =
    sym so_far ∙ ap (λ s. s >>= λ more. with_lines (n + 1) more.1 more.0 (lines_of rest)) f

-- a fault of the lines is the script's
pub lines_refused : (lines : Result Draft HostFault) (fault : HostFault) → Fails fault lines → Fails fault (lines >>= λ draft. Ok draft.script)
lines_refused lines NoMemory f = tt
lines_refused lines (At number kind) f = ap (λ (r : Result Draft HostFault). r >>= λ draft. Ok draft.script) f

pub host_is : (bytes : List ℕ) → length bytes ≤ 4194304 → host_of bytes ≡ (with_lines 1 0 no_lines (lines_of bytes) >>= λ draft. Ok draft.script)
host_is bytes short =
    let e : nat_lt 4194304 (length bytes) ≡ false = grind (arith, nat_tests) in
    ap (λ b. if b then fail 0 TooLong else (with_lines 1 0 no_lines (lines_of bytes) >>= λ draft. Ok draft.script)) e
