-- Parts in order and parts that stand the last one first are the same kids.
use Rattle.std.proofs.Common.{◌≡◌, ℕ, List, [], ◌∷◌, ◌++◌, map, refl, ap, ◌∙◌, append_assoc, append-nil}
use Rattle.js_syntax.specs.Tree.{Trees, nothing, tree}
use Rattle.parser_rules.specs.Work.{Part, Frame, onto}
use Rattle.js_grammar.specs.Spots.{Named, trees_of}
use Rattle.js_grammar.proofs.Same.{a_part, a_name, an_entry, each}

-- the parts, the last one first, in front of those that were there
abbrev pub stacked : List Part → List Part → List Part
stacked [] ps = ps
stacked (x ∷ xs) ps = stacked xs (x ∷ ps)

-- the trees of parts in order, and then these
abbrev pub trees_then : List Part → Trees → Trees
trees_then [] after = after
trees_then (x ∷ xs) after = tree x.head x.kids (trees_then xs after)

pub then_nothing : (xs : List Part) → trees_then xs nothing ≡ trees_of xs
then_nothing [] = refl
then_nothing (x ∷ xs) = ap (λ (t : Trees). tree x.head x.kids t) (then_nothing xs)

pub onto_stacked : (xs ps : List Part) (after : Trees) → onto (stacked xs ps) after ≡ onto ps (trees_then xs after)
onto_stacked [] ps after = refl
onto_stacked (x ∷ xs) ps after = onto_stacked xs (x ∷ ps) after

-- what a form has after several parts
pub parts_given : (f : Frame) (xs : List Part) → each a_part f xs ≡ record f { parts = stacked xs f.parts }
parts_given f [] = refl
parts_given f (x ∷ xs) = parts_given (a_part f x) xs

-- the kids of a form that began without a part, behind these parts
pub kids_given : (xs : List Part) → onto (stacked xs []) nothing ≡ trees_of xs
kids_given xs = onto_stacked xs [] nothing ∙ then_nothing xs

pub kids_behind : (x : Part) (xs : List Part) → onto (stacked xs (x ∷ [])) nothing ≡ trees_of (x ∷ xs)
kids_behind x xs = onto_stacked xs (x ∷ []) nothing ∙ ap (λ (t : Trees). tree x.head x.kids t) (then_nothing xs)

-- what a form has after several names
abbrev pub names_of : List Named → List (List ℕ)
names_of ns = map (λ (n : Named). n.0) ns

abbrev pub places_of : List Named → List ℕ
places_of ns = map (λ (n : Named). n.1) ns

pub names_given : (f : Frame) (ns : List Named) → each a_name f ns ≡ record f { names = f.names ++ names_of ns; places = f.places ++ places_of ns }
names_given f [] = rw (append-nil f.names, append-nil f.places) refl
names_given f (n ∷ ns) = names_given (a_name f n) ns ∙ rw (append_assoc f.names (n.0 ∷ []) (names_of ns), append_assoc f.places (n.1 ∷ []) (places_of ns)) refl

-- what a form has after several entries
abbrev pub entry_names : List (Named × Part) → List Named
entry_names es = map (λ (e : Named × Part). e.0) es

abbrev pub entry_parts : List (Named × Part) → List Part
entry_parts es = map (λ (e : Named × Part). e.1) es

pub entries_given : (f : Frame) (es : List (Named × Part)) →
    each an_entry f es ≡ record f { names = f.names ++ names_of (entry_names es); places = f.places ++ places_of (entry_names es); parts = stacked (entry_parts es) f.parts }
entries_given f [] = rw (append-nil f.names, append-nil f.places) refl
entries_given f (e ∷ es) = entries_given (an_entry f e) es ∙ rw (append_assoc f.names (e.0.0 ∷ []) (names_of (entry_names es)), append_assoc f.places (e.0.1 ∷ []) (places_of (entry_names es))) refl
