-- What became of the commands that make contexts.
use Rattle.std.proofs.Common.{◌≡◌, ℕ, suc, zero, ◌<◌, ◌≤◌, List, [], ◌∷◌, ◌++◌, length, true, nat_le, Option, Some, None, refl, subst, sym, ap, ◌∙◌, arith, ◌⊎◌, inl, inr, slice_get, slice_index_or, length-append}
use Rattle.task_history.specs.Lists.{posts, is_gone}
use Rattle.task_history.specs.declared.task.Own.TheVariants.{Disposed}
use Rattle.task_history.specs.declared.task.Task.{Task}
use Rattle.task_history.specs.declared.task.TaskKind.{TaskKind}
use Rattle.task_history.specs.declared.task.TaskKind.TheVariants as kind
use Rattle.task_history.specs.declared.outcome.Out.{Out}
use Rattle.task_history.specs.declared.record.Settlement.TheVariants as how
use Rattle.task_history.specs.declared.record.Event.{Event}
use Rattle.task_history.specs.declared.record.Event.TheVariants.{Post, Recv, Ask, Settle}
use Rattle.host_syntax.specs.declared.script.HostScript.{HostScript}
use Rattle.host_syntax.specs.declared.script.Command.{Command}
use Rattle.host_syntax.specs.declared.script.What.{What}
use Rattle.host_syntax.specs.declared.script.What.TheVariants as what
use Rattle.host_syntax.specs.Whole.{context_of}
use Rattle.host_meaning.specs.declared.moves.Held.{Held}
use Rattle.host_meaning.specs.declared.moves.Held.TheVariants as held
use Rattle.host_meaning.specs.Stand.{Stand, place, drawn, number_of}
use Rattle.host_meaning.specs.Machine.{Request, asks_task, asks_stop, request, default_budget, most_calls, turn, task_of, drawing, passing, received, hearing, settling, held_by, replies_of, HostRun}
use Rattle.host_laws.proofs.Turns.{turn_cases_shown, MayPass, MayPost, IsAsked, IsRefused, GoesTo, received_cases, run_keeps}
use Rattle.host_laws.proofs.Lists.{slice_get-append_left, slice_get-append_here, posts_more, posts_post_here, still_gone}
use Rattle.host_laws.proofs.Accounted.{last_or, drawn_drawing, length_set}

-- ---- an element of a list with one more

get_or-push_old : {A : Type 0} (xs : List A) (x d : A) (k : ℕ) → k < length xs → slice_index_or (xs ++ x ∷ []) k d ≡ slice_index_or xs k d
get_or-push_old [] x d k below = absurd (grind (arith, below))
get_or-push_old (y ∷ xs) x d zero below = refl
get_or-push_old (y ∷ xs) x d (suc k) below = get_or-push_old xs x d k (grind (arith, below))

get_or-push_here : {A : Type 0} (xs : List A) (x d : A) → slice_index_or (xs ++ x ∷ []) (length xs) d ≡ x
get_or-push_here [] x d = refl
get_or-push_here (y ∷ xs) x d = get_or-push_here xs x d

-- ---- a command that makes a context

pub context_request : (stand : Stand) (wanted : What) (isolate : ℕ) → context_of wanted ≡ Some isolate → request stand wanted ≡ asks_task (Some isolate) default_budget (Some kind.Context)
context_request stand what.Declare isolate is = cc
context_request stand (what.Context i) isolate is = let same : i ≡ isolate = cc in ap (λ x. asks_task (Some x) default_budget (Some kind.Context)) same
context_request stand (what.Eval context budget want text) isolate is = cc
context_request stand (what.Get target key want) isolate is = cc
context_request stand (what.Set target key value) isolate is = cc
context_request stand (what.Dispose i) isolate is = cc
context_request stand (what.Wait target) isolate is = cc

-- the task of call n, which makes a context, was posted to the isolate
pub record PostsContext (history : List Event) (isolate n : ℕ) : Type 0 where
  pub place : ℕ
  pub task : Task
  pub at : slice_get (posts isolate history) place ≡ Some task
  pub named : task.call ≡ Some n
  pub makes : task.kind ≡ kind.Context

-- what became of a command that makes a context: it drew no number since all were drawn, or its isolate was gone, or its task was posted
abbrev pub ContextFate : Stand → ℕ → Option ℕ → Type 0
ContextFate stand isolate None = nat_le most_calls (drawn stand) ≡ true
ContextFate stand isolate (Some n) = (is_gone isolate stand.history ≡ true) ⊎ PostsContext stand.history isolate n

-- so it is with every such command that is done
abbrev pub ContextsHaveFates : Stand → Type 0
ContextsHaveFates stand = (k isolate : ℕ) (command : Command) → slice_get stand.script.commands k ≡ Some command → context_of command.what ≡ Some isolate → k < place stand → ContextFate stand isolate (number_of stand k)

fate_moves : (stand next : Stand) (isolate : ℕ) (number : Option ℕ)
    → drawn stand ≤ drawn next
    → (is_gone isolate stand.history ≡ true → is_gone isolate next.history ≡ true)
    → ((n : ℕ) → PostsContext stand.history isolate n → PostsContext next.history isolate n)
    → ContextFate stand isolate number → ContextFate next isolate number
fate_moves stand next isolate None more gone posted fate = full (drawn stand) (drawn next) most_calls more fate
  where
    full : (a b most : ℕ) → a ≤ b → nat_le most a ≡ true → nat_le most b ≡ true
    full a b most le is = grind (arith, le, is)
fate_moves stand next isolate (Some n) more gone posted (inl is) = inl (gone is)
fate_moves stand next isolate (Some n) more gone posted (inr is) = inr (posted n is)

still_posts : (history more : List Event) (isolate n : ℕ) → PostsContext history isolate n → PostsContext (history ++ more) isolate n
still_posts history more isolate n is = record {
  place = is.place;
  task = is.task;
  at = subst (λ x. slice_get x is.place ≡ Some is.task) (sym (posts_more isolate history more)) (slice_get-append_left (posts isolate history) (posts isolate more) is.place is.task is.at);
  named = is.named;
  makes = is.makes;
}

-- a command that draws no number
fates_passing : (stand : Stand) → MayPass stand → ContextsHaveFates stand → ContextsHaveFates (passing stand)
fates_passing stand may kept k isolate command at makes below =
    let more = length-append stand.numbers (None ∷ []) in
    elim (last_or k (place stand) (grind (arith, below, more))) as (λ x. ContextFate (passing stand) isolate (number_of (passing stand) k)) [
      | inl old ↦ subst (ContextFate (passing stand) isolate) (sym (get_or-push_old stand.numbers None None k old)) (same_fate (number_of stand k) (kept k isolate command at makes old))
      | inr last ↦ subst (λ j. ContextFate (passing stand) isolate (number_of (passing stand) j)) (sym last)
          (subst (ContextFate (passing stand) isolate) (sym (get_or-push_here stand.numbers None None))
          (full (subst (λ j. slice_get stand.script.commands j ≡ Some command) last at)))
    ]
  where
    same_fate : (number : Option ℕ) → ContextFate stand isolate number → ContextFate (passing stand) isolate number
    same_fate number fate = fate_moves stand (passing stand) isolate number (grind arith) (λ gone. gone) (λ n is. is) fate

    full : slice_get stand.script.commands (place stand) ≡ Some command → nat_le most_calls (drawn stand) ≡ true
    full here =
        let same : may.command ≡ command = cc (here, may.at) in
        elim may.why as (λ x. nat_le most_calls (drawn stand) ≡ true) [
          | inl nothing ↦ (let is : request stand may.command.what ≡ asks_task (Some isolate) default_budget (Some kind.Context) = ap (λ (c : Command). request stand c.what) same ∙ context_request stand command.what isolate makes in cc)
          | inr is ↦ is
        ]

-- a command that draws one
fates_drawing : (stand : Stand) (settled : Option Held) (stops : List ℕ) (event : Event)
    → ((isolate : ℕ) (command : Command) → slice_get stand.script.commands (place stand) ≡ Some command → context_of command.what ≡ Some isolate → ContextFate (drawing stand settled stops event) isolate (Some (drawn stand)))
    → ContextsHaveFates stand → ContextsHaveFates (drawing stand settled stops event)
fates_drawing stand settled stops event new kept k isolate command at makes below =
    let next : Stand = drawing stand settled stops event in
    let more = length-append stand.numbers (Some (drawn stand) ∷ []) in
    elim (last_or k (place stand) (grind (arith, below, more))) as (λ x. ContextFate (drawing stand settled stops event) isolate (number_of (drawing stand settled stops event) k)) [
      | inl old ↦ subst (ContextFate next isolate) (sym (get_or-push_old stand.numbers (Some (drawn stand)) None k old))
          (fate_moves stand next isolate (number_of stand k)
          (let d = drawn_drawing stand settled stops event in grind (arith, d))
          (still_gone isolate stand.history (event ∷ []))
          (still_posts stand.history (event ∷ []) isolate)
          (kept k isolate command at makes old))
      | inr last ↦ subst (λ j. ContextFate next isolate (number_of next j)) (sym last)
          (subst (ContextFate next isolate) (sym (get_or-push_here stand.numbers (Some (drawn stand)) None))
          (new isolate command (subst (λ j. slice_get stand.script.commands j ≡ Some command) last at) makes))
    ]

-- the request of the command at the place, where that makes a context
asked_context : (stand : Stand) (wanted : Request) (isolate : ℕ) (command : Command) → IsAsked stand wanted → slice_get stand.script.commands (place stand) ≡ Some command → context_of command.what ≡ Some isolate → wanted ≡ asks_task (Some isolate) default_budget (Some kind.Context)
asked_context stand wanted isolate command asked at makes =
    let same : asked.command ≡ command = cc (at, asked.at) in
    sym asked.is ∙ ap (λ (c : Command). request stand c.what) same ∙ context_request stand command.what isolate makes

fate_refused : (stand : Stand) (event : Event) → IsRefused stand → (isolate : ℕ) (command : Command) → slice_get stand.script.commands (place stand) ≡ Some command → context_of command.what ≡ Some isolate
    → is_gone isolate (stand.history ++ event ∷ []) ≡ true
fate_refused stand event refused isolate command at makes =
    let is = asked_context stand refused.wanted isolate command refused.asked at makes in
    let same : isolate ≡ refused.isolate = subst (λ w. GoesTo w refused.isolate) is refused.to in
    still_gone isolate stand.history (event ∷ []) (subst (λ i. is_gone i stand.history ≡ true) (sym same) refused.gone)

fate_posted : (stand : Stand) (i budget : ℕ) (made : TaskKind) → MayPost stand i budget made → (isolate : ℕ) (command : Command) → slice_get stand.script.commands (place stand) ≡ Some command → context_of command.what ≡ Some isolate
    → PostsContext (stand.history ++ Post i (task_of stand budget made) ∷ []) isolate (drawn stand)
fate_posted stand i budget made may isolate command at makes =
    let is = asked_context stand (asks_task (Some i) budget (Some made)) isolate command may.asked at makes in
    let same : i ≡ isolate = cc in
    subst (λ j. PostsContext (stand.history ++ Post i (task_of stand budget made) ∷ []) j (drawn stand)) same
    (record {
      place = length (posts i stand.history);
      task = task_of stand budget made;
      at = subst (λ x. slice_get x (length (posts i stand.history)) ≡ Some (task_of stand budget made)) (sym (posts_post_here i stand.history (task_of stand budget made)))
          (slice_get-append_here (posts i stand.history) [] (task_of stand budget made));
      named = refl;
      makes = cc;
    })

fates_turn : (stand : Stand) → ContextsHaveFates stand → ContextsHaveFates (turn stand).1
fates_turn stand kept = turn_cases_shown stand (λ m. ContextsHaveFates m.1)
    kept
    (λ _. kept)
    (λ may. fates_passing stand may kept)
    (λ refused. fates_drawing stand (Some held.Nothing) [] (Settle (drawn stand) (how.Own Disposed)) (λ isolate command at makes. inl (fate_refused stand (Settle (drawn stand) (how.Own Disposed)) refused isolate command at makes)) kept)
    (λ i budget made may. fates_drawing stand None [] (Post i (task_of stand budget made)) (λ isolate command at makes. inr (fate_posted stand i budget made may isolate command at makes)) kept)
    (λ i may. fates_drawing stand (Some held.Nothing) (drawn stand ∷ []) (Ask i)
    (λ isolate command at makes. let is = asked_context stand (asks_stop i) isolate command may.asked at makes in let no : ⊥ = cc in absurd no)
    kept)

fates_received : (stand : Stand) (i : ℕ) (out : Out) → ContextsHaveFates stand → ContextsHaveFates (received stand i out)
fates_received stand i out kept = received_cases stand i out ContextsHaveFates
    (λ _ k isolate command at makes below.
    fate_moves stand (hearing stand i out) isolate (number_of stand k) (grind arith) (still_gone isolate stand.history (Recv i out ∷ [])) (still_posts stand.history (Recv i out ∷ []) isolate) (kept k isolate command at makes below))
    (λ m outcome _ _ k isolate command at makes below.
    let more : List Event = Recv i out ∷ Settle m (how.Entry i (replies_of i stand.history)) ∷ [] in
    fate_moves stand (settling stand i out m outcome) isolate (number_of stand k)
    (let d = length_set stand.calls m (Some (held_by outcome)) in grind (arith, d))
    (still_gone isolate stand.history more) (still_posts stand.history more isolate) (kept k isolate command at makes below))

pub contexts_have_fates : (script : HostScript) (stand : Stand) → HostRun script stand → ContextsHaveFates stand
contexts_have_fates script = run_keeps script ContextsHaveFates (λ k isolate command at makes below. absurd (grind (arith, below)))
    (λ s _ kept. fates_turn s kept)
    (λ s i out _ kept. fates_received s i out kept)
