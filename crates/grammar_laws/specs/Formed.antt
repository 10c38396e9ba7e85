-- That each node of a tree has what its kind asks for.
-- This project's own; docs/SCRIPTS.md, "Nodes and places".
use Rattle.std.specs.Prelude.{◌≡◌, ℕ, List, length}
use Rattle.js_syntax.specs.Tree.{Head, Trees, nothing, tree}
use Rattle.js_trees.specs.Forms.{HasForm}
use Rattle.js_lexer.specs.declared.token.Token.{Token}
use Rattle.js_grammar.specs.Exactly.{Derivation}

-- a head with these parts has what its kind asks for, and as many places as names
pub record IsFormedTree (head : Head) (kids : Trees) : Type 0 where
  pub form : HasForm (head.kind) (record { head = head; kids = kids })
  pub places : length (head.places) ≡ length (head.names)

-- each of these trees is formed, and each tree under it
unfoldable pub AreFormed : Trees → Type 0
AreFormed nothing = Unit {0}
AreFormed (tree head kids rest) = IsFormedTree head kids × AreFormed kids × AreFormed rest

-- each text of these derives a formed tree
abbrev pub GivesFormed : Derivation → Type 0
GivesFormed Derived =
    (levels : ℕ) (tokens : List Token) (t : Trees) → Derived levels tokens t → AreFormed t
