-- What a part that was read is: formed, and all under it. Lists and tails of parts.
use Rattle.std.proofs.Common.{◌≡◌, ℕ, suc, ◌≤◌, Bool, true, List, [], ◌∷◌, length, map, None, refl, sym, ap, subst, arith}
use Rattle.js_syntax.specs.declared.kind.Kind.{Kind}
use Rattle.js_syntax.specs.Shape.{Shape, HasName, Counts, shape_of, leaf}
use Rattle.js_trees.specs.Tree.{kid_count}
use Rattle.js_lexer.specs.declared.token.Token.{Token}
use Rattle.parser_rules.specs.Work.{Part}
use Rattle.js_grammar.specs.Spots.{Spot, Reading, Tail, Named, Takes, takes, Many, no_more, then_more, Followed, by_comma, by_closing, Chain, chain_end, chain_step, Then, and_then, Nothing, none_behind, trees_of, node_at}
use Rattle.grammar_laws.specs.Formed.{IsFormedTree, AreFormed}

-- the part is formed, and each node under it
pub record IsPart (x : Part) : Type 0 where
  pub formed : IsFormedTree (x.head) (x.kids)
  pub under : AreFormed (x.kids)

-- so is each of these parts
pub data AreParts : List Part → Type 0 where
  none : AreParts []
  also : {x : Part} {xs : List Part} → IsPart x → AreParts xs → AreParts (x ∷ xs)

pub trees_formed : (xs : List Part) → AreParts xs → AreFormed (trees_of xs)
unfolding AreFormed
trees_formed _ none = tt
trees_formed _ (also {x = x} {xs = xs} h are) = (h.formed, h.under, trees_formed xs are)

-- ---- counts

pub at_least_none : (n : ℕ) → 0 ≤ n
at_least_none n = omega arith

pub one_at_least : (n : ℕ) → 1 ≤ suc n
one_at_least n = omega arith

pub trees_count : (xs : List Part) → kid_count (trees_of xs) ≡ length xs
trees_count [] = refl
trees_count (x ∷ xs) = ap (λ (n : ℕ). suc n) (trees_count xs)

-- as many places as names
pub places_count : (ns : List Named) → length (map (λ (n : Named). n.1) ns) ≡ length (map (λ (n : Named). n.0) ns)
places_count [] = refl
places_count (n ∷ ns) = ap (λ (k : ℕ). suc k) (places_count ns)

abbrev pub names_of : List (Named × Part) → List Named
names_of es = map (λ (e : Named × Part). e.0) es

abbrev pub parts_of : List (Named × Part) → List Part
parts_of es = map (λ (e : Named × Part). e.1) es

-- as many parts as names
pub entries_count : (es : List (Named × Part)) → kid_count (trees_of (parts_of es)) ≡ length (map (λ (n : Named). n.0) (names_of es))
entries_count [] = refl
entries_count (e ∷ es) = ap (λ (k : ℕ). suc k) (entries_count es)

-- ---- nodes

-- a node without a name and without names, whose kind asks for as many parts as it has
pub plain : (kind : Kind) (place : ℕ) (xs : List Part) (end : Spot) → shape_of kind ≡ leaf (length xs) → AreParts xs → IsPart (node_at kind place xs end)
plain kind place xs end e are = record {
  formed = record {
    form = record {
      name = subst (λ (s : Shape). HasName s.name None) (sym e) refl;
      names = subst (λ (s : Shape). Counts s.names 0 0) (sym e) refl;
      kids = subst (λ (s : Shape). Counts s.kids 0 (kid_count (trees_of xs))) (sym e) (trees_count xs);
    };
    places = refl;
  };
  under = trees_formed xs are;
}

-- ---- lists

pub many_parts : {goes_on : List Token → Bool} {One : Reading Part} → ((p : Spot) (x : Part) (q : Spot) → One p x q → IsPart x)
    → (p : Spot) (xs : List Part) (q : Spot) → Many goes_on One p xs q → AreParts xs
many_parts f p _ _ (no_more s) = none
many_parts f p _ q (then_more {a = a} {x = x} {xs = xs} s r m) = also (f p x a r) (many_parts f a xs q m)

pub many_entries : {goes_on : List Token → Bool} {One : Reading (Named × Part)} → ((p : Spot) (e : Named × Part) (q : Spot) → One p e q → IsPart e.1)
    → (p : Spot) (es : List (Named × Part)) (q : Spot) → Many goes_on One p es q → AreParts (parts_of es)
many_entries f p _ _ (no_more s) = none
many_entries f p _ q (then_more {a = a} {x = e} {xs = es} s r m) = also (f p e a r) (many_entries f a es q m)

pub followed : {A : Type 0} {P : A → Type 0} {comma closing : List Token → Bool} {One : Reading A} → ((p : Spot) (x : A) (q : Spot) → One p x q → P x)
    → (p : Spot) (x : A) (q : Spot) → Followed comma closing One p x q → P x
followed f p x q (by_comma {a = a} r t) = f p x a r
followed f p x q (by_closing r s t) = f p x q r

-- ---- tails

-- behind a part that is formed, the tail makes another that is formed
pub record Keeps (T : Tail) : Type 0 where
  pub keeps : (x : Part) (p : Spot) (y : Part) (q : Spot) → T x p y q → IsPart x → IsPart y

pub chain_keeps : {goes_on : List Token → Bool} {Step : Tail} → Keeps Step → Keeps (Chain goes_on Step)
chain_keeps {goes_on} {Step} k = record { keeps = along }
  where
    along : (x : Part) (p : Spot) (y : Part) (q : Spot) → Chain goes_on Step x p y q → IsPart x → IsPart y
    along x p _ _ (chain_end s) h = h
    along x p z q (chain_step {y = y} {a = a} s t c) h = along y a z q c (k.keeps x p y a t h)

pub then_keeps : {First Second : Tail} → Keeps First → Keeps Second → Keeps (Then First Second)
then_keeps {First} {Second} f g = record { keeps = along }
  where
    along : (x : Part) (p : Spot) (y : Part) (q : Spot) → Then First Second x p y q → IsPart x → IsPart y
    along x p z q (and_then {y = y} {a = a} r s) h = g.keeps y a z q s (f.keeps x p y a r h)

pub nothing_keeps : Keeps Nothing
nothing_keeps = record { keeps = along }
  where
    along : (x : Part) (p : Spot) (y : Part) (q : Spot) → Nothing x p y q → IsPart x → IsPart y
    along x p _ _ none_behind h = h

-- ---- tokens

-- a token that was taken passed the test
pub passed : {test : List Token → Bool} {p q : Spot} → Takes test p q → test p.rest ≡ true
passed (takes h) = h
