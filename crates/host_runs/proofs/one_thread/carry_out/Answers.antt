use Rattle.std.proofs.Common.{◌≡◌, ℕ, [], length, refl, ap, subst, sym, ◌∙◌, arith}
use Rattle.task_history.specs.declared.task.Task.{Task}
use Rattle.host_meaning.specs.declared.moves.Move.{Move}
use Rattle.host_meaning.specs.declared.moves.Move.TheVariants.{Own, Post, Ask}
use Rattle.host_meaning.specs.Machine.{DoesCommand}
use Rattle.host_laws.specs.Driving.{fresh_cells, outs_at}
use Rattle.host_laws.proofs.Driven.{begin_cells, cell_there, post_index, ask_index, within_next, post_fits, after_own, after_post, after_ask, fewer_commands, has_target, ends_lawful, ends_with_script}
use Rattle.host_runs.proofs.one_thread.carry_out.Goals as goal

posts_on : (m : Move) (i : ℕ) (task : Task) → m ≡ Post i task → DoesCommand m
posts_on m i task is = subst DoesCommand (sym is) tt

own_on : (m : Move) → m ≡ Own → DoesCommand m
own_on m is = subst DoesCommand (sym is) tt

asks_on : (m : Move) (i : ℕ) → m ≡ Ask i → DoesCommand m
asks_on m i is = subst DoesCommand (sym is) tt

-- ---- the beginning

pub commands-init : goal.commands-init
commands-init c =
    begin_cells c.args.script c.in_ok-host.host c.in_ok-cells.cells.items c.in_ok-host.ensures (c.in_ok-cells.ensures ∙ ap (fresh_cells 0) c.as_slice.ensures.items)

-- ---- no call is without its target

pub unreachable-requires : goal.unreachable-requires
unreachable-requires c =
    has_target c.args.script c.commands.host c.commands.cells.items c.requires c.commands.invariant c.step.new.self c.in_ok-step.field-0 c.in_ok-step.ensures.ok c.in-NoTarget.is

-- ---- the host's own move

pub commands-preserved-in-Own : goal.commands-preserved-in-Own
commands-preserved-in-Own c = after_own c.args.script c.commands.host c.commands.cells.items c.commands.invariant c.step.new.self c.in_ok-step.field-0 c.in_ok-step.ensures.ok c.in-Own.is

pub commands-smaller-in-Own : goal.commands-smaller-in-Own
commands-smaller-in-Own c =
    fewer_commands c.args.script c.commands.host c.commands.cells.items c.requires c.commands.invariant c.step.new.self c.step.new.self c.in_ok-step.field-0 0 [] c.in_ok-step.ensures.ok
    (own_on c.in_ok-step.field-0 c.in-Own.is) refl

-- ---- a post

pub index_mut-requires : goal.index_mut-requires
index_mut-requires c =
    let l = post_index c.args.script c.commands.host c.commands.cells.items c.requires c.commands.invariant c.step.new.self c.in_ok-step.field-0 c.in-Post.isolate c.in-Post.task c.in_ok-step.ensures.ok c.in-Post.is in
    let ok = c.commands.cells.ok in
    grind (arith, l, ok)

pub perform-requires-clause-within : goal.perform-requires-clause-within
perform-requires-clause-within c =
    within_next c.args.script c.commands.host c.commands.cells.items c.requires c.commands.invariant c.step.new.self c.in_ok-step.field-0 c.in-Post.isolate c.in_ok-step.ensures.ok
    (post_index c.args.script c.commands.host c.commands.cells.items c.requires c.commands.invariant c.step.new.self c.in_ok-step.field-0 c.in-Post.isolate c.in-Post.task c.in_ok-step.ensures.ok c.in-Post.is)

pub perform-requires-clause-fits : goal.perform-requires-clause-fits
perform-requires-clause-fits c =
    post_fits c.args.script c.commands.host c.commands.cells.items c.requires c.commands.invariant c.step.new.self c.in_ok-step.field-0 c.in-Post.isolate c.in-Post.task c.index_mut.result.now c.in_ok-step.ensures.ok c.in-Post.is
    (cell_there c.commands.cells.items c.in-Post.isolate c.index_mut.result.now
    (post_index c.args.script c.commands.host c.commands.cells.items c.requires c.commands.invariant c.step.new.self c.in_ok-step.field-0 c.in-Post.isolate c.in-Post.task c.in_ok-step.ensures.ok c.in-Post.is)
    c.index_mut.ensures.value)

pub commands-preserved-in-Continue-branch-5 : goal.commands-preserved-in-Continue-branch-5
commands-preserved-in-Continue-branch-5 c =
    after_post c.args.script c.commands.host c.commands.cells.items c.commands.invariant c.step.new.self c.perform.new.host c.in_ok-step.field-0 c.in-Post.isolate c.in-Post.task c.index_mut.result.now c.perform.new.cell
    c.in_ok-step.ensures.ok c.in-Post.is
    (cell_there c.commands.cells.items c.in-Post.isolate c.index_mut.result.now
    (post_index c.args.script c.commands.host c.commands.cells.items c.requires c.commands.invariant c.step.new.self c.in_ok-step.field-0 c.in-Post.isolate c.in-Post.task c.in_ok-step.ensures.ok c.in-Post.is)
    c.index_mut.ensures.value)
    c.in_ok-perform-in-Post.ensures.cell c.in_ok-perform-in-Post.ensures.host

pub commands-smaller-in-Continue-branch-5 : goal.commands-smaller-in-Continue-branch-5
commands-smaller-in-Continue-branch-5 c =
    fewer_commands c.args.script c.commands.host c.commands.cells.items c.requires c.commands.invariant c.step.new.self c.perform.new.host c.in_ok-step.field-0 c.in-Post.isolate
    (outs_at c.perform.new.cell.journal (length c.index_mut.result.now.journal)) c.in_ok-step.ensures.ok (posts_on c.in_ok-step.field-0 c.in-Post.isolate c.in-Post.task c.in-Post.is) c.in_ok-perform-in-Post.ensures.host

-- ---- an ask

pub index_mut-requires-in-Ask : goal.index_mut-requires-in-Ask
index_mut-requires-in-Ask c =
    let l = ask_index c.args.script c.commands.host c.commands.cells.items c.requires c.commands.invariant c.step.new.self c.in_ok-step.field-0 c.in-Ask.isolate c.in_ok-step.ensures.ok c.in-Ask.is in
    let ok = c.commands.cells.ok in
    grind (arith, l, ok)

pub stop-requires : goal.stop-requires
stop-requires c = record {
  within =
      within_next c.args.script c.commands.host c.commands.cells.items c.requires c.commands.invariant c.step.new.self c.in_ok-step.field-0 c.in-Ask.isolate c.in_ok-step.ensures.ok
      (ask_index c.args.script c.commands.host c.commands.cells.items c.requires c.commands.invariant c.step.new.self c.in_ok-step.field-0 c.in-Ask.isolate c.in_ok-step.ensures.ok c.in-Ask.is);
}

pub commands-preserved : goal.commands-preserved
commands-preserved c =
    after_ask c.args.script c.commands.host c.commands.cells.items c.commands.invariant c.step.new.self c.stop.new.host c.in_ok-step.field-0 c.in-Ask.isolate c.index_mut-in-Ask.result.now c.stop.new.cell
    c.in_ok-step.ensures.ok c.in-Ask.is
    (cell_there c.commands.cells.items c.in-Ask.isolate c.index_mut-in-Ask.result.now
    (ask_index c.args.script c.commands.host c.commands.cells.items c.requires c.commands.invariant c.step.new.self c.in_ok-step.field-0 c.in-Ask.isolate c.in_ok-step.ensures.ok c.in-Ask.is)
    c.index_mut-in-Ask.ensures.value)
    c.stop.ensures.cell c.in_ok-stop-in-Ask.ensures.host

pub commands-smaller : goal.commands-smaller
commands-smaller c =
    fewer_commands c.args.script c.commands.host c.commands.cells.items c.requires c.commands.invariant c.step.new.self c.stop.new.host c.in_ok-step.field-0 c.in-Ask.isolate
    (outs_at c.stop.new.cell.journal (length c.index_mut-in-Ask.result.now.journal)) c.in_ok-step.ensures.ok (asks_on c.in_ok-step.field-0 c.in-Ask.isolate c.in-Ask.is) c.in_ok-stop-in-Ask.ensures.host

-- ---- the end

pub returns-clause-script : goal.returns-clause-script
returns-clause-script c =
    ends_with_script c.args.script c.commands.host c.commands.cells.items c.requires c.commands.invariant c.step.new.self c.in_ok-step.field-0 c.into_parts-script.result.0
    c.in_ok-step.ensures.ok c.in-Blocked.is c.into_parts-script.ensures.script

pub returns-clause-lawful : goal.returns-clause-lawful
returns-clause-lawful c =
    ends_lawful c.args.script c.commands.host c.commands.cells.items c.commands.invariant c.requires c.step.new.self c.in_ok-step.field-0 c.into_parts-script.result.1 c.in_ok-isolates.isolates
    c.in_ok-step.ensures.ok c.in-Blocked.is c.into_parts-script.ensures.history c.in_ok-isolates.ensures
