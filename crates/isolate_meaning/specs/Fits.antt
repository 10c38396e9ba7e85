-- Tasks that an isolate can carry out.
-- This project's own; docs/MAP.md, "One isolate".
use Rattle.std.specs.Prelude.{◌≡◌, ◌<◌, ◌≤◌, [], length}
use Rattle.ivm_text.specs.declared.copies.Leaf.{Leaf}
use Rattle.ivm_text.specs.declared.copies.Leaf.TheVariants.{Undefined, Null, Bool, Num, Node}
use Rattle.ivm_text.specs.declared.copies.Passed.{Passed}
use Rattle.ivm_text.specs.declared.copies.Passed.TheVariants as passed
use Rattle.ivm_text.specs.declared.copies.Want.TheVariants.{Value}
use Rattle.task_history.specs.declared.task.Act.{Act}
use Rattle.task_history.specs.declared.task.Act.TheVariants.{Get, Set, Apply, CopyOut}
use Rattle.task_history.specs.declared.task.Task.{Task}
use Rattle.task_history.specs.declared.task.TaskKind.{TaskKind}
use Rattle.task_history.specs.declared.task.TaskKind.TheVariants as kind
use Rattle.isolate_meaning.specs.State.{Contents, State, live, ended}

-- ---- what the task alone decides; other tasks, wants and values aren't built yet

-- the leaf is no node of a copy
abbrev pub IsPlainLeaf : Leaf → Type 0
IsPlainLeaf Undefined = Unit {0}
IsPlainLeaf Null = Unit {0}
IsPlainLeaf (Bool b) = Unit {0}
IsPlainLeaf (Num n) = Unit {0}
IsPlainLeaf (Node n) = ⊥

-- a primitive: no string, array, object or error
abbrev pub IsPrimitive : Passed → Type 0
IsPrimitive (passed.Copy copy) = (copy.nodes ≡ []) × IsPlainLeaf copy.root
IsPrimitive (passed.External copy) = ⊥
IsPrimitive (passed.Ref handle) = ⊥
IsPrimitive (passed.Deref handle) = ⊥
IsPrimitive (passed.Callback number) = ⊥

abbrev pub IsSoundAct : Act → Type 0
IsSoundAct (Get key want) = want ≡ Value
IsSoundAct (Set key value) = IsPrimitive value
IsSoundAct (Apply receiver args want) = ⊥
IsSoundAct CopyOut = ⊥

abbrev pub IsSoundKind : TaskKind → Type 0
IsSoundKind kind.Context = Unit {0}
IsSoundKind (kind.Compile text) = ⊥
IsSoundKind (kind.Run script context want) = ⊥
IsSoundKind (kind.Eval context text want) = want ≡ Value
IsSoundKind (kind.Act row act) = IsSoundAct act
IsSoundKind (kind.Resume promise answer) = ⊥

-- its values are whole, and its budget is 1 to 100,000,000 ticks
pub record IsSound (task : Task) : Type 0 where
  pub kind : IsSoundKind task.kind
  pub some : 1 ≤ task.budget
  pub most : task.budget ≤ 100000000

-- ---- what the state has to have

-- the context or the row that it names is there
abbrev pub NamesIn : Contents → TaskKind → Type 0
NamesIn contents kind.Context = Unit {0}
NamesIn contents (kind.Compile text) = Unit {0}
NamesIn contents (kind.Run script context want) = context < length contents.contexts
NamesIn contents (kind.Eval context text want) = context < length contents.contexts
NamesIn contents (kind.Act row act) = row < length contents.rows
NamesIn contents (kind.Resume promise answer) = Unit {0}

-- a task of a live isolate is sound and names what is there; an ended isolate takes any
abbrev pub Fits : State → Task → Type 0
Fits (live contents) task = IsSound task × NamesIn contents task.kind
Fits (ended by) task = Unit {0}
