-- Forms by numbers: of a script that is there, and of none.
use Rattle.std.proofs.Common.{◌≡◌, ℕ, zero, suc, ◌<◌, ◌≤◌, true, false, List, [], Some, None, length, refl, sym, arith}
use Rattle.std.specs.Prelude.{slice_get, nat_lt}
use Rattle.std.proofs.lemmas.Option.{get_or_from_slice_get, unwrap_or-slice_get}
use Rattle.std.specs.Option.{unwrap_or}
use Rattle.js_syntax.specs.declared.node.Node.{Node}
use Rattle.js_syntax.specs.Tree.{Trees, nothing, tree}
use Rattle.js_trees.specs.Tree.{tree_of, absent, kid, kid_count}
use Rattle.script_meaning.specs.Places.{ScriptList, script_at, form_in}

-- a script that isn't there has no nodes
pub no_script : (scripts : ScriptList) (k : ℕ) → slice_get scripts k ≡ None → script_at scripts k ≡ []
no_script scripts k none = let e : unwrap_or (slice_get scripts k) [] ≡ script_at scripts k = unwrap_or-slice_get scripts k [] in rw none at (sym e)

pub a_script : (scripts : ScriptList) (k : ℕ) (nodes : List Node) → slice_get scripts k ≡ Some nodes → script_at scripts k ≡ nodes
a_script scripts k nodes some = get_or_from_slice_get scripts k nodes [] some

pub form_there : (nodes : List Node) (n : ℕ) → n < length nodes → form_in nodes n ≡ tree_of nodes n
form_there nodes n below = let e : nat_lt n (length nodes) ≡ true = grind arith in rw e refl

pub form_missing : (nodes : List Node) (n : ℕ) → length nodes ≤ n → form_in nodes n ≡ absent
form_missing nodes n past = let e : nat_lt n (length nodes) ≡ false = grind arith in rw e refl

-- there is no part from the count of parts on
pub kid_missing : (i : ℕ) (kids : Trees) → kid_count kids ≤ i → kid i kids ≡ absent
kid_missing i nothing past = refl
kid_missing zero (tree head kids rest) past = absurd (omega arith)
kid_missing (suc i) (tree head kids rest) past = let further : kid_count rest ≤ i = omega arith in kid_missing i rest further

pub ruleset forms = (no_script, a_script, form_there, form_missing, kid_missing)
