-- A host that is finished, beside isolates that have done all that was posted to them: the record is lawful.
use Rattle.std.proofs.Common.{◌≡◌, ◌≢◌, ℕ, suc, zero, ◌+◌, ◌<◌, ◌≤◌, List, [], ◌∷◌, ◌++◌, length, Bool, true, false, not, ◌&&◌, ◌||◌, ◌==◌, nat_le, if◌then◌else◌, Option, Some, None, refl, subst, sym, ap, ◌∙◌, arith, inl, inr, append_assoc, slice_get, slice_index_or}
use Rattle.std.proofs.lemmas.Bool.{or_cases, eqb-true, cases_lt}
use Rattle.std.proofs.lemmas.List.{get_or_past}
use Rattle.std.proofs.lemmas.List.Folds.{list_any-append}
use Rattle.std.specs.List.{Contains, list_all, list_any}
use Rattle.task_history.specs.declared.task.Task.{Task}
use Rattle.task_history.specs.declared.task.Own.TheVariants.{Disposed}
use Rattle.task_history.specs.declared.outcome.Out.{Out}
use Rattle.task_history.specs.declared.record.Entry.{Entry}
use Rattle.task_history.specs.declared.record.Event.{Event}
use Rattle.task_history.specs.declared.record.Event.TheVariants.{Post, Recv, Ask, Release, Settle}
use Rattle.task_history.specs.declared.record.Settlement.TheVariants as how
use Rattle.task_history.specs.Lists.{posts, receives, tasks, outs, replies, post_of, receive_of, asks_it, is_asked, has_ended, tells_end, tells_disposal, is_disposal, has_disposal, journal_at}
use Rattle.isolate_meaning.specs.State.{State, Isolate, fresh}
use Rattle.isolate_meaning.specs.Does.{DoesTo, acts, refuses}
use Rattle.isolate_meaning.specs.Replay.{Replay, Stands}
use Rattle.isolate_meaning.specs.Laws.{calls}
use Rattle.isolate_meaning.proofs.Replies.{replies_of_journal}
use Rattle.host_syntax.specs.declared.script.HostScript.{HostScript}
use Rattle.host_syntax.specs.declared.script.IsolateDecl.{IsolateDecl}
use Rattle.host_syntax.specs.Whole.{IsWhole}
use Rattle.host_meaning.specs.declared.moves.Held.{Held}
use Rattle.host_meaning.specs.Stand.{Stand, drawn, place, is_there, is_settled, all_settled}
use Rattle.host_meaning.specs.Machine.{HostRun, turn, task_of, received, replies_of, MayReceive, has_answered, have_answered, is_finished, NoneLeft}
use Rattle.host_meaning.specs.Settlement.{IsOfItsRun}
use Rattle.host_meaning.specs.Lawful.{IsLawful, LimitIs}
use Rattle.host_laws.specs.Finished.{HasDone, AllHaveDone}
use Rattle.host_laws.proofs.Turns.{turn_cases, received_cases, run_keeps_heard, script_run}
use Rattle.host_laws.proofs.Lists.{by_quiet, other_if, is_asked_more}
use Rattle.host_laws.proofs.Settled.{times_of_settled}
use Rattle.host_laws.proofs.Accounted.{last_or}
use Rattle.host_laws.proofs.Told.{told}
use Rattle.host_laws.proofs.Entries.{run_at}
use Rattle.host_laws.proofs.Causes.{caused_none}
use Rattle.host_laws.proofs.Targets.{MovesTo, turn_within}

-- ---- truth values

and_left : (a b : Bool) → (a && b) ≡ true → a ≡ true
and_left true b is = refl
and_left false b is = cc

and_right : (a b : Bool) → (a && b) ≡ true → b ≡ true
and_right true b is = is
and_right false b is = cc

or_false : (a : Bool) → (a || false) ≡ a
or_false true = refl
or_false false = refl

-- ---- a history names isolates of the script alone

record IsOfScript (n : ℕ) (history : List Event) : Type 0 where
  pub none_posted : (i : ℕ) → n ≤ i → posts i history ≡ []
  pub none_received : (i : ℕ) → n ≤ i → receives i history ≡ []
  pub asked : (i : ℕ) → is_asked i history ≡ true → i < n

of_push : (n : ℕ) (history : List Event) (event : Event) → ((i : ℕ) → n ≤ i → post_of i event ≡ []) → ((i : ℕ) → n ≤ i → receive_of i event ≡ [])
    → ((i : ℕ) → asks_it i event ≡ true → i < n) → IsOfScript n history → IsOfScript n (history ++ event ∷ [])
of_push n history event no_post no_receipt within kept = record {
  none_posted = λ i past. by_quiet (post_of i) history event (no_post i past) ∙ kept.none_posted i past;
  none_received = λ i past. by_quiet (receive_of i) history event (no_receipt i past) ∙ kept.none_received i past;
  asked = λ i is. (elim (or_cases (is_asked i history) (is_asked i (event ∷ [])) (sym (is_asked_more i history (event ∷ [])) ∙ is)) as (λ x. i < n) [
    | inl before ↦ kept.asked i before
    | inr now ↦ within i (sym (or_false (asks_it i event)) ∙ now)
  ]);
}

other_than : (i j n : ℕ) → n ≤ i → j < n → i ≢ j
other_than i j n past l e = grind (arith, past, l, e)

never : (i n : ℕ) → false ≡ true → i < n
never i n is = let no : ⊥ = cc in absurd no

of_turn : (script : HostScript) (stand : Stand) → IsWhole stand.script → IsOfScript (length stand.script.isolates) stand.history → IsOfScript (length stand.script.isolates) (turn stand).1.history
of_turn script stand whole kept =
    turn_cases stand (λ m. MovesTo n m.0 → IsOfScript n m.1.history)
    (λ _. kept)
    (λ _. kept)
    (λ _. kept)
    (λ _. of_push n stand.history (Settle (drawn stand) (how.Own Disposed)) (λ i past. refl) (λ i past. refl) (λ i is. never i n is) kept)
    (λ j budget kind _ l. of_push n stand.history (Post j (task_of stand budget kind)) (λ i past. other_if i j (task_of stand budget kind ∷ []) [] (other_than i j n past l)) (λ i past. refl) (λ i is. never i n is) kept)
    (λ j _ l. of_push n stand.history (Ask j) (λ i past. refl) (λ i past. refl) (λ i is. let same : i ≡ j = eqb-true i j is in subst (λ k. k < n) (sym same) l) kept)
    (turn_within stand whole)
  where
    n : ℕ
    n = length stand.script.isolates

of_heard : (n : ℕ) (stand : Stand) (j : ℕ) (out : Out) → j < n → IsOfScript n stand.history → IsOfScript n (received stand j out).history
of_heard n stand j out l kept =
    let heard : IsOfScript n (stand.history ++ Recv j out ∷ []) =
    of_push n stand.history (Recv j out) (λ i past. refl) (λ i past. other_if i j (out ∷ []) [] (other_than i j n past l)) (λ i is. never i n is) kept in
    received_cases stand j out (λ s. IsOfScript n s.history) (λ _. heard)
    (λ m outcome _ _. subst (IsOfScript n) (append_assoc stand.history (Recv j out ∷ []) (Settle m (how.Entry j (replies_of j stand.history)) ∷ []))
    (of_push n (stand.history ++ Recv j out ∷ []) (Settle m (how.Entry j (replies_of j stand.history))) (λ i past. refl) (λ i past. refl) (λ i is. never i n is) heard))

of_script : (script : HostScript) → IsWhole script → (stand : Stand) → HostRun script stand → IsOfScript (length script.isolates) stand.history
of_script script whole =
    run_keeps_heard script (λ s. IsOfScript (length script.isolates) s.history)
    (record { none_posted = λ i past. refl; none_received = λ i past. refl; asked = λ i is. never i (length script.isolates) is })
    (λ s run kept.
    let same : s.script ≡ script = script_run script s run in
    subst (λ (x : HostScript). IsOfScript (length x.isolates) (turn s).1.history) same
    (of_turn script s (subst IsWhole (sym same) whole) (subst (λ (x : HostScript). IsOfScript (length x.isolates) s.history) (sym same) kept)))
    (λ s i out run may kept. of_heard (length script.isolates) s i out (subst (λ (x : HostScript). i < length x.isolates) (script_run script s run) may.0) kept)

-- ---- what finished says

each_there : (held : List (Option Held)) → list_all is_there held ≡ true → (n : ℕ) → n < length held → is_there (slice_index_or held n None) ≡ true
each_there [] all n l = absurd (grind (arith, l))
each_there (x ∷ held) all zero l = and_left (is_there x) (list_all is_there held) all
each_there (x ∷ held) all (suc n) l = each_there held (and_right (is_there x) (list_all is_there held) all) n (grind (arith, l))

answered_at : (history : List Event) (n : ℕ) → have_answered history n ≡ true → (i : ℕ) → i < n → has_answered history i ≡ true
answered_at history zero all i l = absurd (grind (arith, l))
answered_at history (suc n) all i l =
    elim (last_or i n (grind (arith, l))) as (λ x. has_answered history i ≡ true) [
      | inl before ↦ answered_at history n (and_left (have_answered history n) (has_answered history n) all) i before
      | inr last ↦ subst (λ k. has_answered history k ≡ true) (sym last) (and_right (have_answered history n) (has_answered history n) all)
    ]

asked_ended : (asked over : Bool) → (not asked || over) ≡ true → asked ≡ true → over ≡ true
asked_ended true over is asked = is
asked_ended false over is asked = cc

-- ---- ends that are told

tells_by : (i : ℕ) (event : Event) → list_any tells_disposal (receive_of i event) ≡ tells_end i event
tells_by i (Post j task) = refl
tells_by i (Recv j out) =
    elim (i == j) as (λ b. list_any tells_disposal (if b then out ∷ [] else []) ≡ (if b then tells_disposal out else false)) [
      | true ↦ or_false (tells_disposal out)
      | false ↦ refl
    ]
tells_by i (Ask j) = refl
tells_by i (Release call) = refl
tells_by i (Settle call how) = refl

-- an isolate's end was received where a reply that was received from it tells a disposal
pub ended_by_replies : (i : ℕ) (history : List Event) → list_any tells_disposal (receives i history) ≡ has_ended i history
ended_by_replies i [] = refl
ended_by_replies i (event ∷ history) =
    list_any-append tells_disposal (receive_of i event) (receives i history)
    ∙ ap (λ x. x || list_any tells_disposal (receives i history)) (tells_by i event)
    ∙ ap (λ x. tells_end i event || x) (ended_by_replies i history)

told_by_deed : (task : Task) (old new : State) (entry : Entry) → DoesTo task old new entry → list_any tells_disposal entry.outs ≡ is_disposal entry.outcome
told_by_deed task old new entry (acts {done = done} deed) = or_false (is_disposal done.out)
told_by_deed task old new entry refuses = refl

told_by_entry : (task : Option Task) (old new : Isolate) (entry : Entry) → Stands task old new entry → list_any tells_disposal entry.outs ≡ is_disposal entry.outcome
told_by_entry None old new entry stop = ap (λ (e : Entry). list_any tells_disposal e.outs) stop.noted ∙ sym (ap (λ (e : Entry). is_disposal e.outcome) stop.noted)
told_by_entry (Some task) old new entry deed = told_by_deed task old.state new.state entry deed.does

-- a journal that replays tells each disposal that it holds
pub disposals_told : (first last : Isolate) (journal : List Entry) → Replay first journal last → list_any tells_disposal (outs journal) ≡ has_disposal journal
disposals_told first last [] whole = refl
disposals_told first last (entry ∷ journal) whole =
    list_any-append tells_disposal entry.outs (outs journal)
    ∙ ap (λ x. x || list_any tells_disposal (outs journal)) (told_by_entry entry.task first whole.0 entry whole.1)
    ∙ ap (λ x. is_disposal entry.outcome || x) (disposals_told whole.0 last journal whole.2)

-- ---- one isolate that has done all

done_calls : (i limit : ℕ) (history : List Event) (journal : List Entry) → HasDone i limit history journal → replies (receives i history) ≡ calls journal
done_calls i limit history journal has =
    ap replies (sym has.told) ∙ replies_of_journal (fresh i limit) has.replays.0 journal has.replays.1

pub done_ended : (i limit : ℕ) (history : List Event) (journal : List Entry) → HasDone i limit history journal → has_disposal journal ≡ has_ended i history
done_ended i limit history journal has =
    sym (disposals_told (fresh i limit) has.replays.0 journal has.replays.1) ∙ ap (list_any tells_disposal) has.told ∙ ended_by_replies i history

done_none : (i : ℕ) (history : List Event) → posts i history ≡ [] → receives i history ≡ [] → HasDone i 0 history []
done_none i history no_posts no_receipts = record { replays = (fresh i 0, refl); posted = sym no_posts; told = sym no_receipts; caused = caused_none i [] history }

get_there : (decls : List IsolateDecl) (i : ℕ) → i < length decls → (decl : IsolateDecl) × (slice_get decls i ≡ Some decl)
get_there [] i l = absurd (grind (arith, l))
get_there (decl ∷ decls) zero l = (decl, refl)
get_there (decl ∷ decls) (suc i) l = get_there decls i (grind (arith, l))

-- ---- all of them

module _ (script : HostScript) (stand : Stand) (journals : List (List Entry)) (whole : IsWhole script) (run : HostRun script stand) (finished : is_finished stand ≡ true)
    (count : length journals ≡ length script.isolates) (all : AllHaveDone script stand.history journals) where
  of : IsOfScript (length script.isolates) stand.history
  of = of_script script whole stand run

  -- each isolate has done all, and so has one that isn't there
  done_at : (i : ℕ) → (limit : ℕ) × HasDone i limit stand.history (journal_at journals i)
  done_at i =
      elim (cases_lt i (length script.isolates)) as (λ x. (limit : ℕ) × HasDone i limit stand.history (journal_at journals i)) [
        | inl l ↦ (let found = get_there script.isolates i l in (found.0.limit, all i found.0.limit (found.0, found.1, refl)))
        | inr past ↦ (
          0,
          subst (λ j. HasDone i 0 stand.history j) (sym (get_or_past journals i [] (subst (λ n. n ≤ i) (sym count) past)))
              (done_none i stand.history (of.none_posted i past) (of.none_received i past)),
        )
      ]

  -- no command is left and every call is settled, and each isolate has answered
  done_and_settled : (place stand == length stand.script.commands && all_settled stand) ≡ true
  done_and_settled = and_left (place stand == length stand.script.commands && all_settled stand) (have_answered stand.history (length stand.script.isolates)) finished

  answered : have_answered stand.history (length stand.script.isolates) ≡ true
  answered = and_right (place stand == length stand.script.commands && all_settled stand) (have_answered stand.history (length stand.script.isolates)) finished

  none_left : NoneLeft stand
  none_left = sym (eqb-true (place stand) (length stand.script.commands) (and_left (place stand == length stand.script.commands) (all_settled stand) done_and_settled))

  each_settled : (n : ℕ) → n < drawn stand → is_settled stand n ≡ true
  each_settled n l = each_there stand.calls (and_right (place stand == length stand.script.commands) (all_settled stand) done_and_settled) n l

  of_its_run : IsOfItsRun journals stand.history
  of_its_run n i p there =
      let has = done_at i in
      run_at (journal_at journals i) p n
      (subst (λ x. slice_get x p ≡ Some (Some n)) (done_calls i has.0 stand.history (journal_at journals i) has.1) (told script stand run n i p there))

  ended : (i : ℕ) → is_asked i stand.history ≡ true → has_disposal (journal_at journals i) ≡ true
  ended i asked =
      let has = done_at i in
      let same : script ≡ stand.script = sym (script_run script stand run) in
      let l : i < length stand.script.isolates = subst (λ (s : HostScript). i < length s.isolates) same (of.asked i asked) in
      let here : has_answered stand.history i ≡ true = answered_at stand.history (length stand.script.isolates) answered i l in
      done_ended i has.0 stand.history (journal_at journals i) has.1
      ∙ asked_ended (is_asked i stand.history) (has_ended i stand.history)
      (and_right (nat_le (length (posts i stand.history)) (replies_of i stand.history)) (not (is_asked i stand.history) || has_ended i stand.history) here) asked

  pub finished_lawful : IsLawful script (record { host = stand.history; isolates = journals })
  finished_lawful = record {
    stand = stand;
    run = run;
    history = refl;
    whole = none_left;
    journals = count;
    posted = λ i. (done_at i).1.posted;
    received = λ i. sym (done_at i).1.told;
    replays = λ i limit is. (all i limit is).replays;
    caused = λ i. (done_at i).1.caused;
    settled = λ n l. times_of_settled script stand run n (each_settled n l);
    of_its_run = of_its_run;
    ended = ended;
  }
