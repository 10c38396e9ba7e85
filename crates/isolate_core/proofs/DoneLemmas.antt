-- How a task goes on after a call over the heap, and which script is the last.
use Rattle.std.proofs.Common.{◌≡◌, ℕ, ◌+◌, ◌-◌, List, [], ◌∷◌, ◌++◌, length, Option, Some, Ok, Err, refl, ap, arith, length-append, subst, sym, ◌∙◌}
use Rattle.std.specs.Prelude.{slice_index_or}
use Rattle.std.proofs.lemmas.List.{get_or-append-add}
use Rattle.charged_heap.specs.Store.{Store}
use Rattle.charged_heap.specs.declared.fault.Fail.{Fail}
use Rattle.charged_heap.specs.declared.fault.Fail.TheVariants as fail
use Rattle.js_syntax.specs.declared.node.Node.{Node}
use Rattle.charged_heap.specs.Ends.{Ends}
use Rattle.script_meaning.specs.Places.{ScriptList, script_at}
use Rattle.isolate_meaning.specs.State.{Contents}
use Rattle.isolate_meaning.specs.Tasks.{Done, going_on, with_store}
use Rattle.isolate_core.specs.Done.{refused_done}

-- it goes on with what was given
pub given : {A : Type 0} (contents : Contents) (ends : Ends A) (a : A) (s : Store) (go : A → Store → Option Done) → ends ≡ (Ok a, s) → going_on contents ends go ≡ go a s
given {A} contents ends a s go is = ap (λ (e : Ends A). going_on contents e go) is

-- or it is refused
pub refusal : {A : Type 0} (contents : Contents) (ends : Ends A) (failed : Fail) (s : Store) (go : A → Store → Option Done) → ends ≡ (Err failed, s) → going_on contents ends go ≡ refused_done (with_store contents s) failed
refusal {A} contents ends failed s go is = ap (λ (e : Ends A). going_on contents e go) is ∙ by failed
  where
    by : (one : Fail) → going_on contents (Err one, s) go ≡ refused_done (with_store contents s) one
    by (fail.Throw v) = refl
    by (fail.Over told) = refl
    by fail.NoMemory = refl

-- the script that was put last
pub last_script : (scripts : ScriptList) (nodes : List Node) → script_at (scripts ++ nodes ∷ []) (length (scripts ++ nodes ∷ []) - 1) ≡ nodes
last_script scripts nodes =
    let last : length (scripts ++ nodes ∷ []) - 1 ≡ length scripts + 0 = omega (arith, length-append scripts (nodes ∷ [])) in
    ap (script_at (scripts ++ nodes ∷ [])) last ∙ get_or-append-add scripts (nodes ∷ []) 0 []

pub ruleset dones = (given, refusal)
