-- What the contents that a cell holds are.
-- This project's own; docs/MAP.md, "One isolate".
use Rattle.isolate_core.specs.declared.contents.Contents.{Contents as Held}
use Rattle.isolate_meaning.specs.State.{Contents}

-- the heap is its store, and the lists are as they are
abbrev pub contents_of : Held → Contents
contents_of held = record { store = held.heap; contexts = held.contexts; scripts = held.scripts; rows = held.rows }
