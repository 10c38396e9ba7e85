-- What holds of every host script that was read from bytes.
-- This project's own; docs/HOST.md, "Commands" and "Limits".
use Rattle.std.specs.Prelude.{◌≡◌, ℕ, ◌+◌, ◌<◌, ◌≤◌, List, [], ◌∷◌, length, sum, map, Bool, true, false, Option, None, Some, slice_get}
use Rattle.std.specs.List.{AllByRecursion}
use Rattle.ivm_text.specs.declared.copies.Copy.{Copy}
use Rattle.ivm_text.specs.declared.copies.Leaf.{Leaf}
use Rattle.ivm_text.specs.declared.copies.Leaf.TheVariants.{Undefined, Null, Bool as Boolean, Num, Node}
use Rattle.ivm_text.specs.declared.copies.Want.TheVariants.{Value}
use Rattle.host_syntax.specs.declared.script.HostScript.{HostScript}
use Rattle.host_syntax.specs.declared.script.IsolateDecl.{IsolateDecl}
use Rattle.host_syntax.specs.declared.script.Command.{Command}
use Rattle.host_syntax.specs.declared.script.HostArgument.{HostArgument}
use Rattle.host_syntax.specs.declared.script.HostArgument.TheVariants.{Literal}
use Rattle.host_syntax.specs.declared.script.What.{What}
use Rattle.host_syntax.specs.declared.script.What.TheVariants.{Declare, Context, Eval, Get, Set, Dispose, Wait}

-- a declaration and a `wait` are no calls
abbrev pub is_call : What → Bool
is_call Declare = false
is_call (Context isolate) = true
is_call (Eval context budget want text) = true
is_call (Get target key want) = true
is_call (Set target key value) = true
is_call (Dispose isolate) = true
is_call (Wait target) = false

-- a command has a label exactly where it is a call
abbrev pub HasItsLabel : Command → Type 0
HasItsLabel command = (is_call command.what ≡ true → (label : List ℕ) × (command.label ≡ Some label)) × (is_call command.what ≡ false → command.label ≡ None)

-- the isolate in which a command makes a context
abbrev pub context_of : What → Option ℕ
context_of Declare = None
context_of (Context isolate) = Some isolate
context_of (Eval context budget want text) = None
context_of (Get target key want) = None
context_of (Set target key value) = None
context_of (Dispose isolate) = None
context_of (Wait target) = None

-- command n, before command k, makes a context
abbrev pub MakesContext : List Command → ℕ → ℕ → Type 0
MakesContext commands k n = (command : Command) × (isolate : ℕ) × (n < k) × (slice_get commands n ≡ Some command) × (context_of command.what ≡ Some isolate)

-- command n, before command k, is a call
abbrev pub IsCall : List Command → ℕ → ℕ → Type 0
IsCall commands k n = (command : Command) × (n < k) × (slice_get commands n ≡ Some command) × (is_call command.what ≡ true)

-- a primitive alone
abbrev pub IsPrimitiveLeaf : Leaf → Type 0
IsPrimitiveLeaf Undefined = Unit {0}
IsPrimitiveLeaf Null = Unit {0}
IsPrimitiveLeaf (Boolean b) = Unit {0}
IsPrimitiveLeaf (Num n) = Unit {0}
IsPrimitiveLeaf (Node n) = ⊥

abbrev pub IsPrimitive : Copy → Type 0
IsPrimitive copy = (copy.nodes ≡ []) × IsPrimitiveLeaf copy.root

abbrev pub IsArgument : HostArgument → Type 0
IsArgument (Literal copy) = IsPrimitive copy

-- what command k names is there: an isolate of the script, a context or a call of an earlier line
abbrev pub NamesEarlier : HostScript → ℕ → What → Type 0
NamesEarlier script k Declare = Unit {0}
NamesEarlier script k (Context isolate) = isolate < length script.isolates
NamesEarlier script k (Eval context budget want text) = MakesContext script.commands k context × (1 ≤ budget) × (budget ≤ 100000000) × (want ≡ Value) × (length text ≤ 65536)
NamesEarlier script k (Get target key want) = MakesContext script.commands k target × (want ≡ Value)
NamesEarlier script k (Set target key value) = MakesContext script.commands k target × IsArgument value
NamesEarlier script k (Dispose isolate) = isolate < length script.isolates
NamesEarlier script k (Wait None) = Unit {0}
NamesEarlier script k (Wait (Some target)) = IsCall script.commands k target

-- a command at its place, counted from 0
pub record IsInPlace (script : HostScript) (k : ℕ) (command : Command) : Type 0 where
  pub labelled : HasItsLabel command
  pub names : NamesEarlier script k command.what

-- what holds of every script that was read
pub record IsWhole (script : HostScript) : Type 0 where
  pub few : length script.isolates ≤ 64
  pub limits : AllByRecursion (λ (decl : IsolateDecl). (1000 ≤ decl.limit) × (decl.limit ≤ 4000000)) script.isolates
  pub together : sum (map (λ (decl : IsolateDecl). decl.limit) script.isolates) ≤ 16000000
  pub in_place : (k : ℕ) (command : Command) → slice_get script.commands k ≡ Some command → IsInPlace script k command
