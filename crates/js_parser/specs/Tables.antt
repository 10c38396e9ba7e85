-- The tables of the code, as lists of entries. No caller needs this.
-- This project's own; docs/SCRIPTS.md, "Reserved words".
use Rattle.std.specs.Prelude.{ℕ, List, map}
use Rattle.std.specs.Borrow.{Bor}
use Rattle.parser_rules.specs.declared.class.Class.{Class}
use Rattle.parser_rules.specs.Classes.{Entry, entry}

abbrev pub entries : List (Bor (List ℕ) × Class) → List Entry
entries table = map (λ (p : Bor (List ℕ) × Class). entry p.0.now p.1) table
