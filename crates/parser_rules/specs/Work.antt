-- Forms under construction: what has been read of each form that is open.
-- This project's own; docs/SCRIPTS.md, "Nodes and places".
use Rattle.std.specs.Prelude.{◌≡◌, ℕ, ◌+◌, ◌-◌, ℤ, pos, Bool, true, false, ◌&&◌, List, [], ◌∷◌, ◌++◌, length, slice_get, nat_eq, Option, None, Some, if◌then◌else◌}
use Rattle.std.specs.Fmt.{signed_decimal}
use Rattle.js_syntax.specs.declared.kind.Kind.{Kind}
use Rattle.js_syntax.specs.declared.kind.Kind.TheVariants as kinds
use Rattle.js_syntax.specs.Tree.{Head, Trees, nothing, tree}
use Rattle.js_lexer.specs.declared.token.Token.{Token}
use Rattle.js_lexer.specs.declared.token.TokenKind.{TokenKind}
use Rattle.js_lexer.specs.declared.token.TokenKind.TheVariants as tokens
use Rattle.parser_rules.specs.declared.form.Cover.{Cover}
use Rattle.parser_rules.specs.declared.form.Cover.TheVariants as covers
use Rattle.parser_rules.specs.declared.form.Why.{Why}

-- a form that was read: its tree, and where it starts, with the parentheses around it
pub record Part : Type 0 where
  pub start : ℕ
  pub head : Head
  pub kids : Trees

-- a form that is open: what its node will have, and its parts so far, the last one first
pub record Frame : Type 0 where
  pub kind : Kind
  pub name : Option (List ℕ)
  pub name_place : ℕ
  pub names : List (List ℕ)
  pub places : List ℕ
  pub value : ℤ
  pub place : ℕ
  pub cover : Cover
  pub parts : List Part

-- the tokens that are left, how many nodes were made, the innermost open form, and those around it
-- from the inside out
pub record Work : Type 0 where
  pub rest : List Token
  pub made : ℕ
  pub top : Frame
  pub below : List Frame

-- reading goes on, or stands at a token that is refused
pub data State : Type 0 where
  going : Work → State
  stuck : Why → List Token → State

abbrev pub fresh : Kind → ℕ → Frame
fresh kind place = record {
  kind = kind;
  name = None;
  name_place = 0;
  names = [];
  places = [];
  value = pos 0;
  place = place;
  cover = covers.Names;
  parts = [];
}

-- ---- nodes

abbrev pub place_of : List Token → ℕ
place_of [] = 0
place_of (t ∷ ts) = t.place

-- the trees of parts, the last one first, and then these
abbrev pub onto : List Part → Trees → Trees
onto [] after = after
onto (p ∷ ps) after = onto ps (tree p.head p.kids after)

abbrev pub head_of : ℕ → Frame → Head
head_of number f = record {
  number_of_node = number;
  kind = f.kind;
  name = f.name;
  name_place = f.name_place;
  names = f.names;
  places = f.places;
  value = f.value;
  place = f.place;
}

-- the node that a form is, once it is whole
abbrev pub part_of : ℕ → Frame → Part
part_of number f = record { start = f.place; head = head_of number f; kids = onto f.parts nothing }

abbrev pub with_part : Part → Frame → Frame
with_part p f = record f { parts = p ∷ f.parts }

-- a form begins, at a place
abbrev pub opened_at : Kind → ℕ → Work → Work
opened_at kind place w = record w { top = fresh kind place; below = w.top ∷ w.below }

abbrev pub opened : Kind → Work → Work
opened kind w = opened_at kind (place_of w.rest) w

-- the innermost form has one more part
abbrev pub pushed : Part → Work → Work
pushed p w = record w { top = with_part p w.top }

-- a form that is whole is the last part of the innermost open one
abbrev pub added : Frame → Work → Work
added f w = record w { made = w.made + 1; top = with_part (part_of w.made f) w.top }

-- a form begins with the part that was read last, where that one starts
abbrev pub preceded_by : Kind → List Part → Work → Work
preceded_by kind [] w = w
preceded_by kind (p ∷ ps) w = pushed p (opened_at kind p.start (record w { top = record (w.top) { parts = ps } }))

abbrev pub preceded : Kind → Work → Work
preceded kind w = preceded_by kind w.top.parts w

-- the innermost form is whole, and a part of the one around it
abbrev pub closed_in : List Frame → Work → Work
closed_in [] w = w
closed_in (outer ∷ outers) w = added w.top (record w { top = outer; below = outers })

abbrev pub closed : Work → Work
closed w = closed_in w.below w

-- the last two parts are one node, which starts where the first of them starts
abbrev pub pair_of : Kind → Part → Part → Frame
pair_of kind a b = record (fresh kind a.start) { parts = b ∷ a ∷ [] }

abbrev pub paired_of : Kind → List Part → Work → Work
paired_of kind [] w = w
paired_of kind (b ∷ []) w = w
paired_of kind (b ∷ a ∷ ps) w = added (pair_of kind a b) (record w { top = record (w.top) { parts = ps } })

abbrev pub paired : Kind → Work → Work
paired kind w = paired_of kind w.top.parts w

-- the innermost form was only parentheses: its part belongs to the form around it, and starts at
-- the `(`
abbrev pub unwrapped_in : List Part → List Frame → Work → Work
unwrapped_in [] fs w = w
unwrapped_in (p ∷ ps) [] w = w
unwrapped_in (p ∷ ps) (outer ∷ outers) w = pushed (record p { start = w.top.place }) (record w { top = outer; below = outers })

abbrev pub unwrapped : Work → Work
unwrapped w = unwrapped_in w.top.parts w.below w

-- ---- names

abbrev pub with_own_name : List ℕ → ℕ → Work → Work
with_own_name name place w = record w { top = record (w.top) { name = Some name; name_place = place } }

abbrev pub with_name : List ℕ → ℕ → Frame → Frame
with_name name place f = record f { names = f.names ++ name ∷ []; places = f.places ++ place ∷ [] }

abbrev pub with_one_name : List ℕ → ℕ → Work → Work
with_one_name name place w = record w { top = with_name name place w.top }

abbrev pub with_value : ℤ → Work → Work
with_value n w = record w { top = record (w.top) { value = n } }

abbrev pub is_number : TokenKind → Bool
is_number tokens.Num = true
is_number _ = false

-- the key that a word, a string or a number is
abbrev pub key_of : TokenKind → List ℕ → ℤ → List ℕ
key_of kind text n = if is_number kind then signed_decimal n else text

-- the form's name, one more of its names, one more key, and its value are those of the token in
-- view
abbrev pub named_by : List Token → Work → Work
named_by [] w = w
named_by (t ∷ ts) w = with_own_name t.text t.place w

abbrev pub declared_by : List Token → Work → Work
declared_by [] w = w
declared_by (t ∷ ts) w = with_one_name t.text t.place w

abbrev pub keyed_by : List Token → Work → Work
keyed_by [] w = w
keyed_by (t ∷ ts) w = with_one_name (key_of t.kind t.text t.number) t.place w

abbrev pub valued_by : List Token → Work → Work
valued_by [] w = w
valued_by (t ∷ ts) w = with_value t.number w

abbrev pub leaf_name : List ℕ → ℕ → Frame
leaf_name name place = record (fresh kinds.Name place) { name = Some name; name_place = place }

-- a name with its place, where there are both
abbrev pub with_place : Option (List ℕ) → Option ℕ → Option (List ℕ × ℕ)
with_place None place = None
with_place (Some name) None = None
with_place (Some name) (Some place) = Some (name, place)

abbrev pub last_name : List (List ℕ) → List ℕ → Option (List ℕ × ℕ)
last_name names places = with_place (slice_get names (length names - 1)) (slice_get places (length names - 1))

abbrev pub shorthand_of : Option (List ℕ × ℕ) → Work → Work
shorthand_of None w = w
shorthand_of (Some p) w = added (leaf_name p.0 p.1) w

-- `{ x }`: the value of the last key is the name that the key is
abbrev pub shorthanded : Work → Work
shorthanded w = shorthand_of (last_name w.top.names w.top.places) w

-- ---- behind a `(`

abbrev pub is_name : Kind → Bool
is_name kinds.Name = true
is_name _ = false

abbrev pub bare_of : ℕ → Head → Option (List ℕ × ℕ)
bare_of start head = if is_name head.kind && nat_eq start head.place then with_place head.name (Some head.place) else None

-- the name that a part is, where nothing is around it
abbrev pub bare_name : Part → Option (List ℕ × ℕ)
bare_name p = bare_of p.start p.head

abbrev pub only_expressions : Work → Work
only_expressions w = record w { top = record (w.top) { cover = covers.Expressions } }

abbrev pub offered_as : Option (List ℕ × ℕ) → Work → Work
offered_as None w = only_expressions w
offered_as (Some p) w = with_one_name p.0 p.1 w

-- the part read last may be a parameter where it is a bare name; else the parentheses hold
-- expressions
abbrev pub offered_part : List Part → Work → Work
offered_part [] w = w
offered_part (p ∷ ps) w = offered_as (bare_name p) w

abbrev pub offered : Work → Work
offered w = offered_part w.top.parts w

-- nothing but parameters stand in the parentheses
abbrev pub only_parameters : Work → Work
only_parameters w = record w { top = record (w.top) { cover = covers.Parameters } }

-- the parameters are no parts of the arrow function
abbrev pub cleared : Work → Work
cleared w = record w { top = record (w.top) { parts = [] } }

-- ---- what is left out

abbrev pub omitted : Work → Work
omitted w = added (fresh kinds.Absent 0) w
