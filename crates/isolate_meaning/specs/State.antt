-- The state of an isolate, without lock, queue or thread.
-- This project's own, after isolated-vm's isolate, context and script; docs/MAP.md, "One isolate".
use Rattle.std.specs.Prelude.{ℕ, List, [], Bool, true, false}
use Rattle.std.specs.List.{All}
use Rattle.charged_heap.specs.Closed.{IsClosed as IsClosedStore}
use Rattle.charged_heap.specs.Price.{charge_of}
use Rattle.charged_heap.specs.Store.{Store, IsAt, IsPlain, IsScope}
use Rattle.charged_heap.specs.declared.item.ItemKind.{ItemKind}
use Rattle.charged_heap.specs.declared.item.ItemKind.TheVariants as kind
use Rattle.script_laws.specs.Scripts.{ScriptsAreThere}
use Rattle.script_meaning.specs.Places.{ScriptList}
use Rattle.task_history.specs.declared.outcome.By.{By}

-- a context, by numbers of items: the scope that is the record of its names, and its global object
pub record Context : Type 0 where
  pub names : ℕ
  pub global : ℕ

-- what a live isolate has: its items, its contexts, the scripts that it was charged for, and its rows, each by the
-- number of its item
pub record Contents : Type 0 where
  pub store : Store
  pub contexts : List Context
  pub scripts : ScriptList
  pub rows : List ℕ

pub data State : Type 0 where
  live : Contents → State
  ended : By → State

-- an isolate: its number, its limit in cells, and its state
pub record Isolate : Type 0 where
  pub number : ℕ
  pub limit : ℕ
  pub state : State

-- nothing, with this limit in cells
abbrev pub empty : ℕ → Contents
empty limit = record { store = record { items = []; limit = limit }; contexts = []; scripts = []; rows = [] }

-- an isolate that has carried out nothing
abbrev pub fresh : ℕ → ℕ → Isolate
fresh number limit = record { number = number; limit = limit; state = live (empty limit) }

abbrev pub is_ended : State → Bool
is_ended (live contents) = false
is_ended (ended by) = true

-- the cells that are charged
abbrev pub cells_of : Contents → ℕ
cells_of contents = charge_of contents.store.items

-- those of a state; one that has ended has no items
abbrev pub charge_in : State → ℕ
charge_in (live contents) = cells_of contents
charge_in (ended by) = 0

-- ---- closed

abbrev pub IsRow : ItemKind → Type 0
IsRow kind.Row = Unit {0}
IsRow _ = ⊥

-- a context's names are a scope and its global object is a plain one
pub record IsClosedContext (s : Store) (context : Context) : Type 0 where
  pub names : IsAt IsScope s context.names
  pub global : IsAt IsPlain s context.global

-- every number in these contents names an item of the kind that its place asks for
pub record AreClosed (contents : Contents) : Type 0 where
  pub store : IsClosedStore contents.store
  pub contexts : All (IsClosedContext contents.store) contents.contexts
  pub rows : All (IsAt IsRow contents.store) contents.rows

abbrev pub HeapIsClosed : State → Type 0
HeapIsClosed (live contents) = AreClosed contents
HeapIsClosed (ended by) = Unit {0}

-- what the items name of the isolate's scripts is there
abbrev pub ScriptsAre : State → Type 0
ScriptsAre (live contents) = ScriptsAreThere contents.scripts contents.store
ScriptsAre (ended by) = Unit {0}

-- all that a state names is there
abbrev pub IsClosed : State → Type 0
IsClosed state = HeapIsClosed state × ScriptsAre state
