-- One name that a list declares. No caller needs this.
-- This project's own.
use Rattle.std.specs.Prelude.{ℕ, Bool, true, false, List}
use Rattle.js_trees.specs.declared.declaration.Declaration.{Declaration}
use Rattle.js_trees.specs.declared.declaration.Declaration.TheVariants.{Variable, Constant}

-- a name of a `const`, or of a `let`
abbrev pub declared_name : Bool → List ℕ → Declaration
declared_name true name = Constant name
declared_name false name = Variable name
