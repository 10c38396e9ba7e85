-- What is noted beside the nodes is what is told of their trees.
use Rattle.std.proofs.Common.{◌≡◌, ℕ, suc, ◌+◌, ◌-◌, ◌<◌, ◌≤◌, Bool, true, false, List, [], ◌∷◌, ◌++◌, length, Option, Some, None, slice_get, if◌then◌else◌, refl, ap, subst, sym, ◌∙◌, arith, inl, inr, length-append, IfSome, IfNone}
use Rattle.std.proofs.lemmas.List.{append-nil}
use Rattle.std.proofs.lemmas.Option.{slice_get_within, slice_get_cases}
use Rattle.js_syntax.specs.declared.kind.Kind.{Kind}
use Rattle.js_syntax.specs.declared.kind.Kind.TheVariants as kinds
use Rattle.js_syntax.specs.declared.node.Node.{Node}
use Rattle.js_syntax.specs.declared.around.Around.{Around}
use Rattle.js_syntax.specs.declared.fault.Fault.{Fault}
use Rattle.js_syntax.specs.declared.faults.Faults.{Faults}
use Rattle.js_syntax.specs.Shape.{AreBelow}
use Rattle.js_syntax.specs.Tree.{Trees, nothing, tree, AreTrees, no_trees, some_trees, head_of, IsTreeOf}
use Rattle.js_syntax.specs.Names.{named, own_name, declares, declared_in, is_body, is_block, body_list, block_list, catch_list, must_differ, may_share, twice}
use Rattle.js_syntax.specs.Faults.{bad_target, own_faults, faults_of, within, stray}
use Rattle.js_syntax.specs.Noted.{earlier_of, least, declares_found, declared_at, body_kids, body_at, block_kids, block_at, catch_at, differ_at, target_fault, target_at, fault_in, noted_fault, parts_fault, own_fault, fault_with, Tells, AreNoted}
use Rattle.js_syntax.specs.Early.{outside, HasEarlyFault, HasNoEarlyFault}
use Rattle.js_syntax.proofs.OrderLemmas.{earlier_assoc, least_append, least_none, least_is}
use Rattle.js_syntax.proofs.TreeLemmas.{get_less, get_last, trees_more, tree_unique}

-- ---- names

-- what a statement declares does not depend on its number
declares_numbered : (functions : Bool) (kind : Kind) (n m : ℕ) (node : Node)
    → declares functions kind (head_of n node) ≡ declares functions kind (head_of m node)
declares_numbered functions kinds.Let n m node = refl
declares_numbered functions kinds.FunctionDecl n m node = refl
declares_numbered functions _ n m node = refl

declared_trees : (functions : Bool) (nodes : List Node) {ns : List ℕ} {t : Trees}
    → AreTrees nodes ns t → declared_in functions t ≡ declared_at functions nodes ns
declared_trees functions nodes no_trees = refl
declared_trees functions nodes (some_trees {n = n} {ns = ns} {node = node} {rest = rs} here kids rest) =
    let e : declared_in functions rs ≡ declared_at functions nodes ns =
    declared_trees functions nodes rest in
    let f : declares functions (node.kind) (head_of n node) ≡ declares_found functions (slice_get nodes n) =
    rw here (declares_numbered functions (node.kind) n 0 node) in
    ap (λ a. a ++ declared_in functions rs) f
    ∙ ap (λ b. declares_found functions (slice_get nodes n) ++ b) e

choose_trees : (nodes : List Node) (b : Bool) (ns : List ℕ) (t : Trees) → AreTrees nodes ns t
    → AreTrees nodes (if b then ns else []) (if b then t else nothing)
choose_trees nodes true ns t a = a
choose_trees nodes false ns t a = no_trees

body_trees : (nodes : List Node) {ns : List ℕ} {t : Trees} → AreTrees nodes ns t
    → AreTrees nodes (body_at nodes ns) (body_list t)
body_trees nodes no_trees = no_trees
body_trees nodes (some_trees {n = n} {node = node} {kids = ks} here kids rest) =
    subst (λ (found : Option Node). AreTrees nodes (body_kids found) (if is_body (node.kind) then ks else nothing)) (sym here) (choose_trees nodes (is_body (node.kind)) (node.kids) ks kids)

block_trees : (nodes : List Node) {ns : List ℕ} {t : Trees} → AreTrees nodes ns t
    → AreTrees nodes (block_at nodes ns) (block_list t)
block_trees nodes no_trees = no_trees
block_trees nodes (some_trees {n = n} {node = node} {kids = ks} here kids rest) =
    subst (λ (found : Option Node). AreTrees nodes (block_kids found) (if is_block (node.kind) then ks else nothing)) (sym here) (choose_trees nodes (is_block (node.kind)) (node.kids) ks kids)

catch_trees : (nodes : List Node) {ns : List ℕ} {t : Trees} → AreTrees nodes ns t
    → AreTrees nodes (catch_at nodes ns) (catch_list t)
catch_trees nodes no_trees = no_trees
catch_trees nodes (some_trees here kids rest) = block_trees nodes rest

differ_trees : (kind : Kind) (nodes : List Node) (k : ℕ) (node : Node) (t : Trees)
    → AreTrees nodes (node.kids) t → must_differ kind (head_of k node) t ≡ differ_at kind nodes node
differ_trees kinds.Let nodes k node t a = refl
differ_trees kinds.Const nodes k node t a = refl
differ_trees kinds.Script nodes k node t a = declared_trees true nodes a
differ_trees kinds.Body nodes k node t a = declared_trees true nodes a
differ_trees kinds.Block nodes k node t a = declared_trees true nodes a
differ_trees kinds.FunctionDecl nodes k node t a =
    ap (λ b. named (node.names) (node.places) ++ b) (declared_trees false nodes (body_trees nodes a))
differ_trees kinds.FunctionExpr nodes k node t a =
    ap (λ b. named (node.names) (node.places) ++ b) (declared_trees false nodes (body_trees nodes a))
differ_trees kinds.Arrow nodes k node t a =
    ap (λ b. named (node.names) (node.places) ++ b) (declared_trees false nodes (body_trees nodes a))
differ_trees kinds.Try nodes k node t a =
    ap (λ b. own_name false (node.name) (node.name_place) ++ b) (declared_trees true nodes (catch_trees nodes a))
differ_trees _ nodes k node t a = refl

-- ---- faults of a node by itself

target_trees : (kind : Kind) (nodes : List Node) {ns : List ℕ} {t : Trees} → AreTrees nodes ns t
    → bad_target kind t ≡ target_at kind nodes ns
target_trees kind nodes no_trees = refl
target_trees kind nodes (some_trees {n = n} {node = node} here kids rest) =
    sym (ap (λ found. target_fault kind found) here)

own_told : (around : Around) (nodes : List Node) (k : ℕ) (node : Node) (t : Trees)
    → AreTrees nodes (node.kids) t
    → least (own_faults around (head_of k node) t) ≡ earlier_of (least (stray around (node.kind) (node.place))) (own_fault nodes node)
own_told around nodes k node t a =
    let strays = stray around (node.kind) (node.place) in
    let targets = target_at (node.kind) nodes (node.kids) in
    let names = twice (may_share (node.kind)) [] (differ_at (node.kind) nodes node) in
    let e : own_faults around (head_of k node) t ≡ strays ++ (targets ++ names) =
    ap (λ x. strays ++ (x ++ twice (may_share (node.kind)) [] (must_differ (node.kind) (head_of k node) t))) (target_trees (node.kind) nodes a)
    ∙ ap (λ x. strays ++ (targets ++ twice (may_share (node.kind)) [] x)) (differ_trees (node.kind) nodes k node t a) in
    ap least e
    ∙ (least_append strays (targets ++ names) ∙ ap (λ x. earlier_of (least strays) x) (least_append targets names))

-- ---- faults of the parts

-- trees for nodes that are noted, and what is told of them
record Told (nodes : List Node) (noted : List Faults) (ns : List ℕ) : Type 0 where
  pub trees : Trees
  pub are : AreTrees nodes ns trees
  pub told : (around : Around) → parts_fault noted around ns ≡ least (faults_of around trees)

-- below its length a list has an element
some_at : {A : Type 0} (xs : List A) (k : ℕ) → k < length xs → (x : A) × (slice_get xs k ≡ Some x)
some_at xs k within =
    elim (slice_get_cases xs k).1 [ inl found ↦ (found.0, found.2) | inr past ↦ absurd (omega arith) ]

forest_more : (nodes : List Node) (noted : List Faults) (k : ℕ) (ks : List ℕ) → AreNoted nodes noted
    → k < length nodes → Told nodes noted ks → Told nodes noted (k ∷ ks)
forest_more nodes noted k ks are within_nodes rest =
    let (node, e) = some_at nodes k within_nodes in
    let (faults, f) = some_at noted k (let len = are.len in omega arith) in
    let tells : Tells nodes k node faults = are.each k node faults e f in
    record {
      trees = tree (head_of k node) tells.0 (rest.trees);
      are = some_trees e tells.1 (rest.are);
      told = λ around.
          let inside : List Fault =
          own_faults around (head_of k node) tells.0 ++ faults_of (within around (node.kind)) tells.0 in
          ap (λ x. earlier_of (noted_fault x around) (parts_fault noted around ks)) f
          ∙ (ap (λ x. earlier_of x (parts_fault noted around ks)) (tells.2 around)
          ∙ (ap (λ x. earlier_of (least inside) x) (rest.told around)
          ∙ sym (least_append inside (faults_of around (rest.trees)))));
    }

forest : (nodes : List Node) (noted : List Faults) (ns : List ℕ) → AreNoted nodes noted
    → AreBelow ns (length nodes) → Told nodes noted ns
forest nodes noted [] are below = record { trees = nothing; are = no_trees; told = λ around. refl }
forest nodes noted (k ∷ ks) are below =
    forest_more nodes noted k ks are (below 0 k refl) (forest nodes noted ks are (λ i m at. below (suc i) m at))

-- ---- one more node

-- what is worked out for a node over what is noted of the others is what is told of its tree
tells_new : (nodes : List Node) (noted : List Faults) (node : Node) (faults : Faults)
    → AreNoted nodes noted → AreBelow (node.kids) (length nodes)
    → ((around : Around) → fault_in faults around ≡ fault_with nodes noted node around)
    → Tells nodes (length nodes) node faults
tells_new nodes noted node faults are below worked =
    let parts = forest nodes noted (node.kids) are below in
    let k = length nodes in (
      parts.trees,
      parts.are,
      λ around.
          let strays = least (stray around (node.kind) (node.place)) in
          let own = own_fault nodes node in
          let inner = faults_of (within around (node.kind)) (parts.trees) in
          worked around
          ∙ (ap (λ x. earlier_of strays (earlier_of own x)) (parts.told (within around (node.kind)))
          ∙ (sym (earlier_assoc strays own (least inner))
          ∙ (ap (λ x. earlier_of x (least inner)) (sym (own_told around nodes k node (parts.trees) (parts.are)))
          ∙ sym (least_append (own_faults around (head_of k node) (parts.trees)) inner)))),
    )

tells_more : (nodes more : List Node) (k : ℕ) (node : Node) (faults : Faults)
    → Tells nodes k node faults → Tells (nodes ++ more) k node faults
tells_more nodes more k node faults tells = (tells.0, trees_more nodes more tells.1, tells.2)

length_more : {A : Type 0} (xs : List A) (x : A) → length (xs ++ x ∷ []) ≡ length xs + 1
length_more xs x = length-append xs (x ∷ [])

noted_last : (nodes : List Node) (noted : List Faults) (node n : Node) (faults f : Faults) (k : ℕ)
    → length noted ≡ length nodes → k ≡ length nodes → slice_get (nodes ++ node ∷ []) k ≡ Some n
    → slice_get (noted ++ faults ∷ []) k ≡ Some f
    → Tells (nodes ++ node ∷ []) (length nodes) node faults → Tells (nodes ++ node ∷ []) k n f
noted_last nodes noted node n faults f k len last here beside tells =
    let at_node : Some node ≡ Some n =
    sym (get_last nodes node) ∙ (ap (λ i. slice_get (nodes ++ node ∷ []) i) (sym last) ∙ here) in
    let at_faults : Some faults ≡ Some f =
    sym (get_last noted faults)
    ∙ (ap (λ i. slice_get (noted ++ faults ∷ []) i) (len ∙ sym last) ∙ beside) in
    let same_node : node ≡ n = cc in
    let same_faults : faults ≡ f = cc in
    subst (λ (i : ℕ). Tells (nodes ++ node ∷ []) i n f) (sym last)
    (subst (λ (m : Node). Tells (nodes ++ node ∷ []) (length nodes) m f) same_node
    (subst (λ (g : Faults). Tells (nodes ++ node ∷ []) (length nodes) node g) same_faults tells))

pub noted_more : (nodes : List Node) (noted : List Faults) (node : Node) (faults : Faults)
    → AreNoted nodes noted → AreBelow (node.kids) (length nodes)
    → ((around : Around) → fault_in faults around ≡ fault_with nodes noted node around)
    → AreNoted (nodes ++ node ∷ []) (noted ++ faults ∷ [])
noted_more nodes noted node faults are below worked = record {
  len = length_more noted faults ∙ (ap (λ n. n + 1) (are.len) ∙ sym (length_more nodes node));
  each = λ k n f here beside.
      let len = are.len in
      let inside : k < length (nodes ++ node ∷ []) =
      slice_get_within (nodes ++ node ∷ []) k n here in
      let more = length_more nodes node in
      elim (slice_get_cases nodes k).1 [
        | inl found ↦
            let within_nodes : k < length nodes = found.1 in
            tells_more nodes (node ∷ []) k n f (are.each k n f (get_less nodes node k n here within_nodes) (get_less noted faults k f beside (omega arith)))
        | inr past ↦
            noted_last nodes noted node n faults f k len (let at_least : length nodes ≤ k = past.0 in omega arith) here beside
            (tells_more nodes (node ∷ []) (length nodes) node faults (tells_new nodes noted node faults are below worked))
      ];
}

-- ---- the root

told_of_root : (nodes : List Node) (noted : List Faults) (k : ℕ) (faults : Faults)
    → AreNoted nodes noted → k + 1 ≡ length nodes → slice_get noted k ≡ Some faults
    → (t : Trees) × IsTreeOf nodes t × (least (faults_of outside t) ≡ fault_in faults outside)
told_of_root nodes noted k faults are last beside =
    let (node, here) = some_at nodes k (omega arith) in
    let tells : Tells nodes k node faults = are.each k node faults here beside in
    let inside : List Fault =
    own_faults outside (head_of k node) tells.0 ++ faults_of (within outside (node.kind)) tells.0 in
    (tree (head_of k node) tells.0 nothing, (k, last, some_trees here tells.1 no_trees), ap least (append-nil inside) ∙ sym (tells.2 outside))

pub some_told : (nodes : List Node) (noted : List Faults) (k : ℕ) (faults : Faults) (told : Option Fault)
    → AreNoted nodes noted → k + 1 ≡ length nodes → slice_get noted k ≡ Some faults
    → told ≡ fault_in faults outside → IfSome told (HasEarlyFault nodes)
some_told nodes noted k faults None are last beside e = tt
some_told nodes noted k faults (Some fault) are last beside e =
    let (t, is, told) = told_of_root nodes noted k faults are last beside in
    (t, is, least_is (faults_of outside t) fault (told ∙ sym e))

pub none_told : (nodes : List Node) (noted : List Faults) (k : ℕ) (faults : Faults) (told : Option Fault)
    → AreNoted nodes noted → k + 1 ≡ length nodes → slice_get noted k ≡ Some faults
    → told ≡ fault_in faults outside → IfNone told (HasNoEarlyFault nodes)
none_told nodes noted k faults (Some fault) are last beside e = tt
none_told nodes noted k faults None are last beside e = λ t is.
    let (s, is_tree, told) = told_of_root nodes noted k faults are last beside in
    least_none (faults_of outside t) (ap (λ u. least (faults_of outside u)) (tree_unique nodes t s is is_tree) ∙ (told ∙ sym e))

pub root_tree : (nodes : List Node) (noted : List Faults) → AreNoted nodes noted → 0 < length nodes
    → (t : Trees) × IsTreeOf nodes t
root_tree nodes noted are some =
    let (faults, beside) = some_at noted (length nodes - 1) (let len = are.len in omega arith) in
    let told = told_of_root nodes noted (length nodes - 1) faults are (omega arith) beside in
    (told.0, told.1)
