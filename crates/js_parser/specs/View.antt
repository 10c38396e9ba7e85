-- The work that a builder holds: the trees of its nodes, and its open forms as frames.
-- This project's own; docs/SCRIPTS.md, "Nodes and places".
use Rattle.std.specs.Prelude.{ℕ, ◌-◌, Bool, true, ◌&&◌, List, [], ◌∷◌, ◌++◌, length, slice_index_or, nat_lt}
use Rattle.std.specs.List.{list_all}
use Rattle.js_syntax.specs.declared.node.Node.{Node}
use Rattle.js_syntax.specs.declared.kind.Kind.TheVariants as kinds
use Rattle.js_syntax.specs.Tree.{Head, Trees, nothing, tree}
use Rattle.js_syntax.specs.Tree as syntax
use Rattle.js_lexer.specs.declared.token.Token.{Token}
use Rattle.parser_rules.specs.Work.{Part, Frame, Work, fresh, head_of}
use Rattle.js_parser.specs.declared.draft.Piece.{Piece}
use Rattle.js_parser.specs.declared.draft.Draft.{Draft}

-- a tree: what its root has, and the trees below
pub record Root : Type 0 where
  pub head : Head
  pub kids : Trees

abbrev pub none_there : Root
none_there = record { head = head_of 0 (fresh kinds.Absent 0); kids = nothing }

abbrev pub root_at : List Root → ℕ → Root
root_at made n = slice_index_or made n none_there

-- the trees with these numbers, and then those
abbrev pub trees_then : List Root → List ℕ → Trees → Trees
trees_then made [] after = after
trees_then made (n ∷ ns) after = tree (root_at made n).head (root_at made n).kids (trees_then made ns after)

abbrev pub root_of : List Root → Node → Root
root_of made node = record { head = syntax.head_of (length made) node; kids = trees_then made node.kids nothing }

-- the tree under each node, whose kids stand before it
unfoldable pub grown : List Root → List Node → List Root
grown made [] = made
grown made (n ∷ ns) = grown (made ++ root_of made n ∷ []) ns

-- the tree under the root, which is the last node
abbrev pub tree_of : List Node → Trees
tree_of nodes = trees_then (grown [] nodes) ((length nodes - 1) ∷ []) nothing

-- ---- open forms

abbrev pub part_at : List Root → Piece → Part
part_at made p = record { start = p.start; head = (root_at made p.node).head; kids = (root_at made p.node).kids }

-- the last one first
unfoldable pub parts_then : List Root → List Piece → List Part → List Part
parts_then made [] before = before
parts_then made (p ∷ ps) before = parts_then made ps (part_at made p ∷ before)

abbrev pub frame_of : List Root → Draft → Frame
frame_of made d = record {
  kind = d.kind;
  name = d.name;
  name_place = d.name_place;
  names = d.names;
  places = d.places;
  value = d.number;
  place = d.place;
  cover = d.cover;
  parts = parts_then made d.pieces [];
}

-- the last one first
unfoldable pub frames_then : List Root → List Draft → List Frame → List Frame
frames_then made [] before = before
frames_then made (d ∷ ds) before = frames_then made ds (frame_of made d ∷ before)

-- the work on these tokens, with these nodes and open forms
abbrev pub work_of : List Token → List Node → Draft → List Draft → Work
work_of rest nodes top below = let made = grown [] nodes in record {
  rest = rest;
  made = length nodes;
  top = frame_of made top;
  below = frames_then made below [];
}

-- ---- numbers

-- each part is one of the first n nodes
abbrev pub known : ℕ → List Piece → Bool
known n ps = list_all (λ p. nat_lt p.node n) ps

unfoldable pub all_known : ℕ → List Draft → Bool
all_known n [] = true
all_known n (d ∷ ds) = known n d.pieces && all_known n ds
