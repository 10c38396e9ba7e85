-- What the parts from one on declare.
use Rattle.std.proofs.Common.{◌≡◌, ℕ, suc, ◌+◌, ◌<◌, ◌≤◌, List, ◌++◌, ap, sym, ◌∙◌, append_assoc, add-one}
use Rattle.std.proofs.lemmas.List.{append-nil}
use Rattle.js_syntax.specs.Tree.{Trees}
use Rattle.js_trees.specs.declared.declaration.Declaration.{Declaration}
use Rattle.js_trees.specs.Tree.{Tree, kid, kid_count, kids_from}
use Rattle.js_trees.specs.Declarations.{declared_by, declarations}
use Rattle.js_trees.proofs.PartLemmas.{kids_from-at, kids_from-past}

-- after part i the list has what the parts before the next one declare
pub declarations_from_more : (list more whole : List Declaration) (i : ℕ) (kids : Trees) (t : Tree)
    → i < kid_count kids → t ≡ kid i kids → more ≡ list ++ declared_by ((t.head).kind) (t.head)
    → list ++ declarations (kids_from i kids) ≡ whole
    → more ++ declarations (kids_from (i + 1) kids) ≡ whole
declarations_from_more list more whole i kids t within is gains so_far =
    let next = declarations (kids_from (suc i) kids) in
    let declared = λ (t : Tree). declared_by ((t.head).kind) (t.head) in
    rw (add-one i) (ap (λ l. l ++ next) (gains ∙ ap (λ (t : Tree). list ++ declared t) is)
    ∙ (append_assoc list (declared (kid i kids)) next
    ∙ (ap (λ (trees : Trees). list ++ declarations trees) (sym (kids_from-at i kids within)) ∙ so_far)))

-- behind the last part it has all of them
pub declarations_from_all : (list whole : List Declaration) (i : ℕ) (kids : Trees) → kid_count kids ≤ i
    → list ++ declarations (kids_from i kids) ≡ whole → list ≡ whole
declarations_from_all list whole i kids past so_far =
    sym (ap (λ (trees : Trees). list ++ declarations trees) (kids_from-past i kids past) ∙ append-nil list) ∙ so_far
