-- The faults that are worked out for one node, put together.
use Rattle.std.proofs.Common.{◌≡◌, ℕ, Bool, true, false, List, [], Option, ap, ◌∙◌}
use Rattle.js_syntax.specs.declared.node.Node.{Node}
use Rattle.js_syntax.specs.declared.around.Around.{Around}
use Rattle.js_syntax.specs.declared.fault.Fault.{Fault}
use Rattle.js_syntax.specs.declared.faults.Faults.{Faults}
use Rattle.js_syntax.specs.declared.listing.Declared.{Declared}
use Rattle.js_syntax.specs.Names.{may_share, twice}
use Rattle.js_syntax.specs.Noted.{earlier_of, least, target_at, differ_at, fault_in, own_fault, fault_over, fault_with}

pub own_worked : (nodes : List Node) (node : Node) (kids : List ℕ) (list : List Declared) (shared : Bool) (own target names : Option Fault)
    → kids ≡ node.kids → list ≡ differ_at (node.kind) nodes node → shared ≡ may_share (node.kind)
    → target ≡ least (target_at (node.kind) nodes kids) → names ≡ least (twice shared [] list)
    → own ≡ earlier_of target names → own ≡ own_fault nodes node
own_worked nodes node kids list shared own target names is_kids is_list is_shared is_target is_names is_own =
    is_own
    ∙ (ap (λ x. earlier_of x names) (is_target ∙ ap (λ ks. least (target_at (node.kind) nodes ks)) is_kids)
    ∙ ap (λ x. earlier_of (least (target_at (node.kind) nodes (node.kids))) x)
    (is_names ∙ (ap (λ s. least (twice s [] list)) is_shared ∙ ap (λ l. least (twice (may_share (node.kind)) [] l)) is_list)))

pub all_worked : (nodes : List Node) (noted : List Faults) (node : Node) (own a b c d : Option Fault)
    → own ≡ own_fault nodes node
    → a ≡ fault_over noted node own (record { in_function = false; in_loop = false })
    → b ≡ fault_over noted node own (record { in_function = false; in_loop = true })
    → c ≡ fault_over noted node own (record { in_function = true; in_loop = false })
    → d ≡ fault_over noted node own (record { in_function = true; in_loop = true })
    → (around : Around)
    → fault_in (record { outside = a; in_loop = b; in_function = c; in_both = d }) around ≡ fault_with nodes noted node around
all_worked nodes noted node own a b c d is_own is_a is_b is_c is_d around =
    by (around.in_function) (around.in_loop)
  where
    by : (f l : Bool)
        → fault_in (record { outside = a; in_loop = b; in_function = c; in_both = d }) (record { in_function = f; in_loop = l }) ≡ fault_with nodes noted node (record { in_function = f; in_loop = l })
    by true true =
        is_d
        ∙ ap (λ o. fault_over noted node o (record { in_function = true; in_loop = true })) is_own
    by true false =
        is_c
        ∙ ap (λ o. fault_over noted node o (record { in_function = true; in_loop = false })) is_own
    by false true =
        is_b
        ∙ ap (λ o. fault_over noted node o (record { in_function = false; in_loop = true })) is_own
    by false false =
        is_a
        ∙ ap (λ o. fault_over noted node o (record { in_function = false; in_loop = false })) is_own
