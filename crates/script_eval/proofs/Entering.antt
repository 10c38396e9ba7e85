-- What a node comes to whose tick is due.
use Rattle.std.proofs.Common.{◌≡◌, ◌≢◌, ℕ, zero, suc, ◌-◌, List, Err, refl, arith}
use Rattle.std.proofs.Math.Numerals.{sub-one}
use Rattle.charged_heap.specs.Store.{Store}
use Rattle.charged_heap.specs.declared.builtin.Builtin.{Builtin}
use Rattle.charged_heap.specs.declared.values.Value.{Value}
use Rattle.script_meaning.specs.Evaluates.{evaluated, node_by, too_deep}
use Rattle.script_meaning.specs.Functions.{builtin_rule, builtin_outcome}
use Rattle.script_meaning.specs.Outcome.{of_heap}
use Rattle.script_meaning.specs.Places.{ScriptList, form_at}
use Rattle.script_meaning.specs.declared.completion.Abrupt.TheVariants as abrupt
use Rattle.script_meaning.specs.declared.completion.StopCause.TheVariants.{Timeout}
use Rattle.script_steps.specs.After.{with_left}
use Rattle.script_steps.specs.declared.frame.Inner.{Inner}
use Rattle.script_eval.specs.Rest.{inner_out}

-- without a tick left the run stops
pub tick-missing : (scripts : ScriptList) (room : ℕ) (inner : Inner) (heap : Store) (left : ℕ) → left ≡ 0 → inner_out scripts room inner (with_left heap left) ≡ (Err (abrupt.Stop Timeout), with_left heap left)
unfolding evaluated
tick-missing scripts zero inner heap zero none = refl
tick-missing scripts (suc room) inner heap zero none = refl
tick-missing scripts room inner heap (suc left) none = absurd (omega arith)

-- where no node may be in evaluation any more, an error is thrown
pub room-missing : (scripts : ScriptList) (room : ℕ) (inner : Inner) (heap : Store) (left : ℕ) → room ≡ 0 → left ≢ 0 → inner_out scripts room inner (with_left heap left) ≡ too_deep (with_left heap (left - 1))
unfolding evaluated
room-missing scripts zero inner heap zero none some = absurd (some refl)
room-missing scripts zero inner heap (suc left) none some = rw sub-one refl
room-missing scripts (suc room) inner heap left none some = absurd (omega arith)

-- and else the rule of its form is followed
pub room-there : (scripts : ScriptList) (room : ℕ) (inner : Inner) (heap : Store) (left : ℕ) → room ≢ 0 → left ≢ 0 → inner_out scripts room inner (with_left heap left) ≡ node_by inner.role scripts (evaluated scripts (room - 1)) (form_at scripts inner.site.script inner.node) inner.site (with_left heap (left - 1))
unfolding evaluated
room-there scripts zero inner heap left there some = absurd (there refl)
room-there scripts (suc room) inner heap zero there some = absurd (some refl)
room-there scripts (suc room) inner heap (suc left) there some = rw (sub-one, sub-one) refl

-- a call of a built-in function without a tick left stops the run
pub call-missing : (which : Builtin) (receiver : Value) (arguments : List Value) (heap : Store) (left : ℕ) → left ≡ 0 → builtin_rule which receiver arguments (with_left heap left) ≡ (Err (abrupt.Stop Timeout), with_left heap left)
unfolding builtin_rule
call-missing which receiver arguments heap zero none = refl
call-missing which receiver arguments heap (suc left) none = absurd (omega arith)

-- and else the function is called
pub call-there : (which : Builtin) (receiver : Value) (arguments : List Value) (heap : Store) (left : ℕ) → left ≢ 0 → builtin_rule which receiver arguments (with_left heap left) ≡ of_heap (with_left heap (left - 1)) (builtin_outcome which receiver arguments heap)
unfolding builtin_rule
call-there which receiver arguments heap zero some = absurd (some refl)
call-there which receiver arguments heap (suc left) some = rw sub-one refl

pub ruleset entering = (tick-missing, room-missing, room-there)

pub ruleset calling = (call-missing, call-there)
