-- The words in which the grammar is said by cases: from here, this is read, up to there.
-- This project's own, in the manner of ECMA-262's Grammar Notation; docs/SCRIPTS.md, "The grammar
-- by cases".
use Rattle.std.specs.Prelude.{◌≡◌, ℕ, ◌+◌, ℤ, pos, Bool, true, false, not, ◌&&◌, List, [], ◌∷◌, map, Option, None, Some}
use Rattle.js_syntax.specs.declared.kind.Kind.{Kind}
use Rattle.js_syntax.specs.declared.kind.Kind.TheVariants as kinds
use Rattle.js_syntax.specs.Tree.{Trees, nothing, tree}
use Rattle.js_lexer.specs.declared.token.Token.{Token}
use Rattle.parser_rules.specs.declared.class.Class.{Class}
use Rattle.parser_rules.specs.Classes.{class_of, is_one_of}
use Rattle.parser_rules.specs.Work.{Part, place_of, key_of}
use Rattle.parser_rules.specs.Rules.{is_line}

-- where reading stands: the tokens that are left, and how many nodes were made
pub record Spot : Type 0 where
  pub rest : List Token
  pub made : ℕ

abbrev pub spot : List Token → ℕ → Spot
spot rest made = record { rest = rest; made = made }

-- from one spot, something is read, up to another
abbrev pub Reading : Type 0 → Type 1
Reading A = Spot → A → Spot → Type 0

-- behind a part that was read, up to a spot, more is read, and makes it another part
abbrev pub Tail : Type 1
Tail = Part → Spot → Part → Spot → Type 0

-- ---- the token in view

abbrev pub is : Class → List Token → Bool
is c ts = is_one_of (class_of ts) (c ∷ [])

abbrev pub among : List Class → List Token → Bool
among cs ts = is_one_of (class_of ts) cs

abbrev pub other_than : List Class → List Token → Bool
other_than cs ts = not (is_one_of (class_of ts) cs)

-- it is of one of these classes, and no line terminator stands before it
abbrev pub on_line : List Class → List Token → Bool
on_line cs ts = is_one_of (class_of ts) cs && not (is_line ts)

abbrev pub Sees : (List Token → Bool) → Spot → Type 0
Sees test p = test p.rest ≡ true

abbrev pub SeesNot : (List Token → Bool) → Spot → Type 0
SeesNot test p = test p.rest ≡ false

-- the token in view passes a test, and is read
pub data Takes (test : List Token → Bool) : Spot → Spot → Type 0 where
  takes : {t : Token} {ts : List Token} {n : ℕ} → test (t ∷ ts) ≡ true → Takes test (spot (t ∷ ts) n) (spot ts n)

-- what the token in view says
abbrev pub text_of : List Token → List ℕ
text_of [] = []
text_of (t ∷ ts) = t.text

abbrev pub number_of : List Token → ℤ
number_of [] = pos 0
number_of (t ∷ ts) = t.number

abbrev pub key_at : List Token → List ℕ
key_at [] = []
key_at (t ∷ ts) = key_of t.kind t.text t.number

-- a name or a key, and where it stands
abbrev pub Named : Type 0
Named = List ℕ × ℕ

abbrev pub named_at : Spot → Named
named_at p = (text_of p.rest, place_of p.rest)

abbrev pub keyed_at : Spot → Named
keyed_at p = (key_at p.rest, place_of p.rest)

-- ---- nodes

-- one more node was made
abbrev pub one_more : Spot → Spot
one_more p = spot p.rest (p.made + 1)

-- the trees of parts, in order
abbrev pub trees_of : List Part → Trees
trees_of [] = nothing
trees_of (x ∷ xs) = tree x.head x.kids (trees_of xs)

-- a node of a kind that starts at a place, with these parts, and whose last part ends at a spot;
-- its number is how many were made before
abbrev pub node_at : Kind → ℕ → List Part → Spot → Part
node_at kind place parts end = record {
  start = place;
  head = record {
    number_of_node = end.made;
    kind = kind;
    name = None;
    name_place = 0;
    names = [];
    places = [];
    value = pos 0;
    place = place;
  };
  kids = trees_of parts;
}

-- it starts at the token in view
abbrev pub node : Kind → Spot → List Part → Spot → Part
node kind p parts end = node_at kind (place_of p.rest) parts end

-- it starts where a part starts, with the parentheses around that one
abbrev pub node_from : Kind → Part → List Part → Spot → Part
node_from kind x parts end = node_at kind x.start parts end

abbrev pub with_name : Named → Part → Part
with_name n x = record x { head = record (x.head) { name = Some n.0; name_place = n.1 } }

abbrev pub with_name_if_any : Option Named → Part → Part
with_name_if_any None x = x
with_name_if_any (Some n) x = with_name n x

abbrev pub with_names : List Named → Part → Part
with_names ns x = record x { head = record (x.head) { names = map (λ (n : Named). n.0) ns; places = map (λ (n : Named). n.1) ns } }

abbrev pub with_value : ℤ → Part → Part
with_value n x = record x { head = record (x.head) { value = n } }

-- the node of a name that is read at a spot
abbrev pub name_node : Spot → Spot → Part
name_node p end = with_name (named_at p) (node kinds.Name p [] end)

-- what is left out; it stands at no token
abbrev pub absent : Spot → Part
absent end = node_at kinds.Absent 0 [] end

-- parentheses make no node, but what is in them starts at the `(` where it is part of a larger form
abbrev pub from_paren : Spot → Part → Part
from_paren p x = record x { start = place_of p.rest }

-- ---- several

-- one after another, as long as the token in view passes a test
pub data Many {A : Type 0} (goes_on : List Token → Bool) (One : Reading A) : Spot → List A → Spot → Type 0 where
  no_more : {p : Spot} → SeesNot goes_on p → Many goes_on One p [] p
  then_more : {p a q : Spot} {x : A} {xs : List A} → Sees goes_on p → One p x a → Many goes_on One a xs q → Many goes_on One p (x ∷ xs) q

-- one with a `,` behind it, which may be missing in front of what closes the list
pub data Followed {A : Type 0} (comma : List Token → Bool) (closing : List Token → Bool) (One : Reading A) : Spot → A → Spot → Type 0 where
  by_comma : {p a q : Spot} {x : A} → One p x a → Takes comma a q → Followed comma closing One p x q
  by_closing : {p q : Spot} {x : A} → One p x q → SeesNot comma q → Sees closing q → Followed comma closing One p x q

-- operators that lean to the left: each makes one part of what was read before and what stands
-- behind it
pub data Chain (goes_on : List Token → Bool) (Step : Tail) : Part → Spot → Part → Spot → Type 0 where
  chain_end : {x : Part} {p : Spot} → SeesNot goes_on p → Chain goes_on Step x p x p
  chain_step : {x y z : Part} {p a q : Spot} → Sees goes_on p → Step x p y a → Chain goes_on Step y a z q → Chain goes_on Step x p z q

-- one after the other
pub data Then (First Second : Tail) : Part → Spot → Part → Spot → Type 0 where
  and_then : {x y z : Part} {p a q : Spot} → First x p y a → Second y a z q → Then First Second x p z q

-- nothing at all
pub data Nothing : Part → Spot → Part → Spot → Type 0 where
  none_behind : {x : Part} {p : Spot} → Nothing x p x p
