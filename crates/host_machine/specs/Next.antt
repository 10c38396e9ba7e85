-- What the next command comes to. No caller needs this.
-- This project's own; docs/HOST.md, "What the host does".
use Rattle.std.specs.Prelude.{ℕ, ◌<◌, if◌then◌else◌}
use Rattle.host_syntax.specs.declared.script.What.{What}
use Rattle.host_meaning.specs.declared.moves.Move.{Move}
use Rattle.host_meaning.specs.declared.moves.Move.TheVariants as move
use Rattle.host_meaning.specs.Stand.{Stand}
use Rattle.host_meaning.specs.Machine.{is_blocked, doing, request, passing, refusing, posting, asking}
use Rattle.host_machine.specs.declared.host.Next.{Next}
use Rattle.host_machine.specs.declared.host.Next.TheVariants.{Blocked, Pass, Refuse, Post, Ask, NoTarget}

-- what is told, and where the host stands then
abbrev pub done : Stand → Next → Move × Stand
done stand Blocked = (move.Blocked, stand)
done stand Pass = (move.Own, passing stand)
done stand Refuse = (move.Own, refusing stand)
done stand (Post isolate task) = (move.Post isolate task, posting stand isolate task)
done stand (Ask isolate) = (move.Ask isolate, asking stand isolate)
done stand NoTarget = (move.NoTarget, stand)

-- its isolate is one of so many
abbrev pub IsWithinNext : ℕ → Next → Type 0
IsWithinNext isolates Blocked = Unit {0}
IsWithinNext isolates Pass = Unit {0}
IsWithinNext isolates Refuse = Unit {0}
IsWithinNext isolates (Post isolate task) = isolate < isolates
IsWithinNext isolates (Ask isolate) = isolate < isolates
IsWithinNext isolates NoTarget = Unit {0}

-- the next command asks for this
abbrev pub by_what : Stand → What → Move × Stand
by_what stand what = if is_blocked stand what then (move.Blocked, stand) else doing stand (request stand what)
