-- What a script notes beside its nodes. No caller needs this.
-- This project's own.
use Rattle.std.specs.Prelude.{◌≡◌, ℕ, Bool, true, false, ◌&&◌, ◌||◌, not, ltb, eqb, nat_eq, List, [], ◌∷◌, ◌++◌, length, slice_get, Option, None, Some, if◌then◌else◌}
use Rattle.std.specs.List.{list_any}
use lib.Pointwise.{pointwise}
use Rattle.js_syntax.specs.declared.kind.Kind.{Kind}
use Rattle.js_syntax.specs.declared.kind.Kind.TheVariants as kinds
use Rattle.js_syntax.specs.declared.node.Node.{Node}
use Rattle.js_syntax.specs.declared.around.Around.{Around}
use Rattle.js_syntax.specs.declared.fault.Fault.{Fault}
use Rattle.js_syntax.specs.declared.fault.FaultKind.TheVariants.{BadTarget, TwiceDeclared}
use Rattle.js_syntax.specs.declared.faults.Faults.{Faults}
use Rattle.js_syntax.specs.declared.listing.Declared.{Declared}
use Rattle.js_syntax.specs.Tree.{Trees, AreTrees, head_of}
use Rattle.js_syntax.specs.Names.{named, own_name, declares, is_body, is_block, may_share, twice}
use Rattle.js_syntax.specs.Faults.{has_target, is_target, own_faults, faults_of, within, stray}
use Rattle.js_syntax.specs.Order.{fault, number_of}

-- ---- the fault that is told

abbrev pub is_before : Fault → Fault → Bool
is_before a b =
    ltb (a.place) (b.place) || (eqb (a.place) (b.place) && ltb (number_of (a.kind)) (number_of (b.kind)))

-- of two faults that may be there
abbrev pub earlier_of : Option Fault → Option Fault → Option Fault
earlier_of None other = other
earlier_of (Some a) None = Some a
earlier_of (Some a) (Some b) = if is_before b a then Some b else Some a

-- of a list of them
abbrev pub least : List Fault → Option Fault
least [] = None
least (fault ∷ faults) = earlier_of (Some fault) (least faults)

-- ---- names, read from the nodes

abbrev pub own_name_of : Bool → Node → List Declared
own_name_of by_function node = own_name by_function (node.name) (node.name_place)

abbrev pub declares_node : Bool → Node → List Declared
declares_node functions node = declares functions (node.kind) (head_of 0 node)

abbrev pub declares_found : Bool → Option Node → List Declared
declares_found functions None = []
declares_found functions (Some node) = declares_node functions node

abbrev pub declares_at : Bool → List Node → ℕ → List Declared
declares_at functions nodes k = declares_found functions (slice_get nodes k)

abbrev pub declared_at : Bool → List Node → List ℕ → List Declared
declared_at functions nodes [] = []
declared_at functions nodes (k ∷ ks) =
    declares_at functions nodes k ++ declared_at functions nodes ks

abbrev pub body_kids : Option Node → List ℕ
body_kids None = []
body_kids (Some node) = if is_body (node.kind) then node.kids else []

abbrev pub body_at : List Node → List ℕ → List ℕ
body_at nodes [] = []
body_at nodes (k ∷ ks) = body_kids (slice_get nodes k)

abbrev pub block_kids : Option Node → List ℕ
block_kids None = []
block_kids (Some node) = if is_block (node.kind) then node.kids else []

abbrev pub block_at : List Node → List ℕ → List ℕ
block_at nodes [] = []
block_at nodes (k ∷ ks) = block_kids (slice_get nodes k)

abbrev pub catch_at : List Node → List ℕ → List ℕ
catch_at nodes [] = []
catch_at nodes (k ∷ ks) = block_at nodes ks

abbrev pub differ_at : Kind → List Node → Node → List Declared
differ_at kinds.Let nodes node = named (node.names) (node.places)
differ_at kinds.Const nodes node = named (node.names) (node.places)
differ_at kinds.Script nodes node = declared_at true nodes (node.kids)
differ_at kinds.Body nodes node = declared_at true nodes (node.kids)
differ_at kinds.Block nodes node = declared_at true nodes (node.kids)
differ_at kinds.FunctionDecl nodes node =
    named (node.names) (node.places) ++ declared_at false nodes (body_at nodes (node.kids))
differ_at kinds.FunctionExpr nodes node =
    named (node.names) (node.places) ++ declared_at false nodes (body_at nodes (node.kids))
differ_at kinds.Arrow nodes node =
    named (node.names) (node.places) ++ declared_at false nodes (body_at nodes (node.kids))
differ_at kinds.Try nodes node =
    own_name false (node.name) (node.name_place) ++ declared_at true nodes (catch_at nodes (node.kids))
differ_at _ nodes node = []

-- the faults of names, by the names that came before: those of functions and those of others
abbrev pub has_key : List (List ℕ) → List ℕ → Bool
has_key keys name = list_any (pointwise nat_eq name) keys

abbrev pub with_key : List (List ℕ) → List ℕ → List (List ℕ)
with_key keys name = if has_key keys name then keys else keys ++ name ∷ []

abbrev pub with_function : List (List ℕ) → Declared → List (List ℕ)
with_function functions it = if it.by_function then with_key functions (it.name) else functions

abbrev pub with_other : List (List ℕ) → Declared → List (List ℕ)
with_other others it = if it.by_function then others else with_key others (it.name)

abbrev pub clashes_keys : Bool → List (List ℕ) → List (List ℕ) → Declared → Bool
clashes_keys shared others functions it =
    has_key others (it.name) || (has_key functions (it.name) && not (shared && it.by_function))

abbrev pub twice_fault : Bool → List (List ℕ) → List (List ℕ) → Declared → List Fault
twice_fault shared others functions it =
    if clashes_keys shared others functions it then fault TwiceDeclared (it.place) ∷ [] else []

abbrev pub twice_keys : Bool → List (List ℕ) → List (List ℕ) → List Declared → List Fault
twice_keys shared others functions [] = []
twice_keys shared others functions (it ∷ later) =
    twice_fault shared others functions it
    ++ twice_keys shared (with_other others it) (with_function functions it) later

-- ---- faults, read from what is noted

abbrev pub target_fault : Kind → Option Node → List Fault
target_fault kind None = []
target_fault kind (Some target) =
    if has_target kind && not (is_target (target.kind)) then fault BadTarget (target.place) ∷ [] else []

abbrev pub target_at : Kind → List Node → List ℕ → List Fault
target_at kind nodes [] = []
target_at kind nodes (k ∷ ks) = target_fault kind (slice_get nodes k)

-- the fault that is told of a form and its parts, where it stands in such a place
abbrev pub fault_in : Faults → Around → Option Fault
fault_in faults around =
    if around.in_function then (if around.in_loop then faults.in_both else faults.in_function)
    else (if around.in_loop then faults.in_loop else faults.outside)

abbrev pub noted_fault : Option Faults → Around → Option Fault
noted_fault None around = None
noted_fault (Some faults) around = fault_in faults around

abbrev pub parts_fault : List Faults → Around → List ℕ → Option Fault
parts_fault noted around [] = None
parts_fault noted around (k ∷ ks) =
    earlier_of (noted_fault (slice_get noted k) around) (parts_fault noted around ks)

-- the fault that is told of a node's own names and targets
abbrev pub own_fault : List Node → Node → Option Fault
own_fault nodes node =
    earlier_of (least (target_at (node.kind) nodes (node.kids))) (least (twice (may_share (node.kind)) [] (differ_at (node.kind) nodes node)))

abbrev pub around_of : Bool → Bool → Around
around_of in_function in_loop = record { in_function = in_function; in_loop = in_loop }

-- the fault that is told of a node and its parts in such a place, where `own` is that of its own
-- names and targets
abbrev pub fault_over : List Faults → Node → Option Fault → Around → Option Fault
fault_over noted node own around =
    earlier_of (least (stray around (node.kind) (node.place))) (earlier_of own (parts_fault noted (within around (node.kind)) (node.kids)))

-- the fault that is told of a node and its parts, where it stands in such a place
abbrev pub fault_with : List Node → List Faults → Node → Around → Option Fault
fault_with nodes noted node around = fault_over noted node (own_fault nodes node) around

-- these are the faults that are worked out for a node over those of the nodes below it
abbrev pub AreWorkedOut : List Node → List Faults → Node → Faults → Type 0
AreWorkedOut nodes noted node faults =
    (around : Around) → fault_in faults around ≡ fault_with nodes noted node around

-- these are the faults that are told of this node and its parts, wherever it stands
abbrev pub Tells : List Node → ℕ → Node → Faults → Type 0
Tells nodes k node faults =
    (kids : Trees) × AreTrees nodes (node.kids) kids
    × ((around : Around) → fault_in faults around ≡ least (own_faults around (head_of k node) kids ++ faults_of (within around (node.kind)) kids))

-- each node's faults are noted
pub record AreNoted (nodes : List Node) (noted : List Faults) : Type 0 where
  pub len : length noted ≡ length nodes
  pub each : (k : ℕ) (node : Node) (faults : Faults) → slice_get nodes k ≡ Some node
      → slice_get noted k ≡ Some faults → Tells nodes k node faults
