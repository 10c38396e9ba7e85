-- The functions among the nodes of a script, and those that its lists declare.
use Rattle.std.proofs.Common.{◌≡◌, ◌∙◌, ℕ, zero, suc, ◌≤◌, ◌<◌, List, [], ◌∷◌, ◌++◌, length, map, Bool, true, false, Option, Some, None, refl, ap, sym, subst, arith, if◌then◌else◌}
use Rattle.std.specs.Prelude.{nat_lt, slice_index_or}
use Rattle.std.proofs.lemmas.List.{get_or_past}
use Rattle.js_syntax.specs.Tree.{Head, Trees, nothing, tree}
use Rattle.js_syntax.specs.declared.kind.Kind.{Kind}
use Rattle.js_syntax.specs.declared.kind.Kind.TheVariants as kinds
use Rattle.js_syntax.specs.declared.node.Node.{Node}
use Rattle.js_trees.specs.Declarations.{declarations, declared_by, function_of}
use Rattle.js_trees.specs.Forms.{is_function_kind}
use Rattle.js_trees.specs.Tree.{Tree, absent, kid, kids_from, node_at, only_below, tree_of, tree_within, trees_by, vacant}
use Rattle.js_trees.specs.declared.declaration.Declaration.{Declaration}
use Rattle.js_trees.specs.declared.declaration.Declaration.TheVariants as declaration
use Rattle.script_meaning.specs.Functions.{body_declares, is_body}
use Rattle.script_meaning.specs.Places.{ScriptList, form_at, form_in, script_at}
use Rattle.script_laws.specs.Scripts.{IsFunctionAt}
use Rattle.script_laws.proofs.Changes.{AreDeclared}

-- a node that is a function is one of this script
abbrev pub IsHead : ScriptList → ℕ → Head → Type 0
IsHead b script head = is_function_kind head.kind ≡ true → IsFunctionAt b script head.number_of_node

-- so are all nodes of these trees
abbrev pub AreForms : ScriptList → ℕ → Trees → Type 0
AreForms b script nothing = Unit {0}
AreForms b script (tree head kids rest) = IsHead b script head × AreForms b script kids × AreForms b script rest

-- and of this one
pub record IsForm (b : ScriptList) (script : ℕ) (t : Tree) : Type 0 where
  pub head : IsHead b script t.head
  pub kids : AreForms b script t.kids

-- ---- parts

absent_form : (b : ScriptList) (script : ℕ) → IsForm b script absent
absent_form b script = record { head = λ is. absurd (let never : ⊥ = cc in never); kids = tt }

pub kid_form : (b : ScriptList) (script i : ℕ) (kids : Trees) → AreForms b script kids → IsForm b script (kid i kids)
kid_form b script i nothing are = absent_form b script
kid_form b script zero (tree head kids rest) are = record { head = are.0; kids = are.1 }
kid_form b script (suc i) (tree head kids rest) are = kid_form b script i rest are.2

pub forms_from : (b : ScriptList) (script i : ℕ) (kids : Trees) → AreForms b script kids → AreForms b script (kids_from i kids)
forms_from b script zero kids are = are
forms_from b script (suc i) nothing are = tt
forms_from b script (suc i) (tree head kids rest) are = forms_from b script i rest are.2

-- ---- the tree of a node

-- no node stands past the end
past_end : (nodes : List Node) (n : ℕ) → length nodes ≤ n → node_at nodes n ≡ vacant
past_end nodes n past = get_or_past nodes n vacant past

function_in : (nodes : List Node) (n : ℕ) → is_function_kind (node_at nodes n).kind ≡ true → is_function_kind (form_in nodes n).head.kind ≡ true
unfolding tree_of tree_within
function_in nodes n is = by (nat_lt n (length nodes)) refl
  where
    by : (within : Bool) → within ≡ nat_lt n (length nodes) → is_function_kind (if within then tree_of nodes n else absent).head.kind ≡ true
    by true at = is
    by false at =
        let none : false ≡ true = sym (ap (λ (node : Node). is_function_kind node.kind) (past_end nodes n (grind (arith, sym at)))) ∙ is in
        none

below_form : (b : ScriptList) (script n : ℕ) (at : ℕ → Tree) → ((k : ℕ) → IsForm b script (at k)) → (k : ℕ) → IsForm b script (only_below n at k)
below_form b script n at each k = by (nat_lt k n)
  where
    by : (is : Bool) → IsForm b script (if is then at k else absent)
    by true = each k
    by false = absent_form b script

by_forms : (b : ScriptList) (script : ℕ) (at : ℕ → Tree) (numbers : List ℕ) → ((k : ℕ) → IsForm b script (at k)) → AreForms b script (trees_by at numbers)
by_forms b script at [] each = tt
by_forms b script at (n ∷ numbers) each = ((each n).head, (each n).kids, by_forms b script at numbers each)

within_form : (b : ScriptList) (script levels n : ℕ) → IsForm b script (tree_within levels (script_at b script) n)
unfolding tree_within
within_form b script zero n = absent_form b script
within_form b script (suc levels) n = record {
  head = λ is. function_in (script_at b script) n is;
  kids = by_forms b script (only_below n (tree_within levels (script_at b script))) (node_at (script_at b script) n).kids
      (below_form b script n (tree_within levels (script_at b script)) (λ k. within_form b script levels k));
}

-- a form that is asked for by its number is one of its script
pub number_form : (b : ScriptList) (script n : ℕ) → IsForm b script (form_at b script n)
unfolding tree_of
number_form b script n = by (nat_lt n (length (script_at b script)))
  where
    by : (is : Bool) → IsForm b script (if is then tree_of (script_at b script) n else absent)
    by true = within_form b script (suc n) n
    by false = absent_form b script

-- ---- what lists declare

declared_append : (b : ScriptList) (script : ℕ) (xs ys : List Declaration) → AreDeclared b script xs → AreDeclared b script ys → AreDeclared b script (xs ++ ys)
declared_append b script [] ys are more = more
declared_append b script (declaration.Variable name ∷ xs) ys are more = declared_append b script xs ys are more
declared_append b script (declaration.Constant name ∷ xs) ys are more = declared_append b script xs ys are more
declared_append b script (declaration.Function name node ∷ xs) ys are more = (are.0, declared_append b script xs ys are.1 more)

variables_declared : (b : ScriptList) (script : ℕ) (names : List (List ℕ)) → AreDeclared b script (map declaration.Variable names)
variables_declared b script [] = tt
variables_declared b script (name ∷ names) = variables_declared b script names

constants_declared : (b : ScriptList) (script : ℕ) (names : List (List ℕ)) → AreDeclared b script (map declaration.Constant names)
constants_declared b script [] = tt
constants_declared b script (name ∷ names) = constants_declared b script names

function_declared : (b : ScriptList) (script : ℕ) (name : Option (List ℕ)) (node : ℕ) → IsFunctionAt b script node → AreDeclared b script (function_of name node)
function_declared b script None node is = tt
function_declared b script (Some name) node is = (is, tt)

kind_declared : (b : ScriptList) (script : ℕ) (kind : Kind) (head : Head) → (is_function_kind kind ≡ true → IsFunctionAt b script head.number_of_node)
    → AreDeclared b script (declared_by kind head)
kind_declared b script kinds.Let head is = variables_declared b script head.names
kind_declared b script kinds.Const head is = constants_declared b script head.names
kind_declared b script kinds.FunctionDecl head is = function_declared b script head.name head.number_of_node (is refl)
kind_declared b script _ head is = tt

pub list_declared : (b : ScriptList) (script : ℕ) (kids : Trees) → AreForms b script kids → AreDeclared b script (declarations kids)
list_declared b script nothing are = tt
list_declared b script (tree head kids rest) are =
    declared_append b script (declared_by head.kind head) (declarations rest) (kind_declared b script head.kind head are.0) (list_declared b script rest are.2)

pub body_declared : (b : ScriptList) (script : ℕ) (body : Tree) → IsForm b script body → AreDeclared b script (body_declares body)
body_declared b script body is = by (is_body body.head.kind)
  where
    by : (block : Bool) → AreDeclared b script (if block then declarations body.kids else [])
    by true = list_declared b script body.kids is.kids
    by false = tt
