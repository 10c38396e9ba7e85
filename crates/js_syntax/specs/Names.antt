-- The names that a list may declare once, and the faults of declaring one twice.
-- ECMA-262, Static Semantics: Early Errors of Block, FunctionBody, Try and LexicalDeclaration;
-- docs/SCRIPTS.md, "Early faults".
use Rattle.std.specs.Prelude.{ℕ, Bool, true, false, ◌&&◌, not, nat_eq, List, [], ◌∷◌, ◌++◌, Option, None, Some, if◌then◌else◌}
use Rattle.std.specs.List.{list_any}
use lib.Pointwise.{pointwise}
use Rattle.js_syntax.specs.declared.kind.Kind.{Kind}
use Rattle.js_syntax.specs.declared.kind.Kind.TheVariants as kinds
use Rattle.js_syntax.specs.declared.fault.Fault.{Fault}
use Rattle.js_syntax.specs.declared.fault.FaultKind.TheVariants.{TwiceDeclared}
use Rattle.js_syntax.specs.declared.listing.Declared.{Declared}
use Rattle.js_syntax.specs.Order.{fault}
use Rattle.js_syntax.specs.Tree.{Head, Trees, nothing, tree}

-- ---- what declares names

-- names with their places
abbrev pub named : List (List ℕ) → List ℕ → List Declared
named [] places = []
named (name ∷ names) [] = []
named (name ∷ names) (place ∷ places) =
    record { name = name; place = place; by_function = false } ∷ named names places

-- the name that a form may have of its own
abbrev pub own_name : Bool → Option (List ℕ) → ℕ → List Declared
own_name by_function None place = []
own_name by_function (Some name) place =
    record { name = name; place = place; by_function = by_function } ∷ []

-- what a statement declares in its list: the names of a `let` or `const`, and, where functions
-- count, that of a function
abbrev pub declares : Bool → Kind → Head → List Declared
declares functions kinds.Let head = named (head.names) (head.places)
declares functions kinds.Const head = named (head.names) (head.places)
declares functions kinds.FunctionDecl head =
    if functions then own_name true (head.name) (head.name_place) else []
declares functions _ head = []

-- what the statements of a list declare, in order
abbrev pub declared_in : Bool → Trees → List Declared
declared_in functions nothing = []
declared_in functions (tree head kids rest) = declares functions (head.kind) head ++ declared_in functions rest

-- ---- the lists

abbrev pub is_body : Kind → Bool
is_body kinds.Body = true
is_body _ = false

abbrev pub is_block : Kind → Bool
is_block kinds.Block = true
is_block _ = false

-- the statements of a function's body; an arrow may have an expression in its place
abbrev pub body_list : Trees → Trees
body_list nothing = nothing
body_list (tree head kids rest) = if is_body (head.kind) then kids else nothing

-- the statements of a form, where it is a block
abbrev pub block_list : Trees → Trees
block_list nothing = nothing
block_list (tree head kids rest) = if is_block (head.kind) then kids else nothing

-- the statements of the `catch` block, which stands behind the block of its `try`
abbrev pub catch_list : Trees → Trees
catch_list nothing = nothing
catch_list (tree tried kids rest) = block_list rest

-- the names that must differ in a form: those of one `let` or `const`; those that a list declares;
-- the parameters of a function with what `let` and `const` declare in its body; the name of a
-- `catch` with all that its block declares
abbrev pub must_differ : Kind → Head → Trees → List Declared
must_differ kinds.Let head kids = named (head.names) (head.places)
must_differ kinds.Const head kids = named (head.names) (head.places)
must_differ kinds.Script head kids = declared_in true kids
must_differ kinds.Body head kids = declared_in true kids
must_differ kinds.Block head kids = declared_in true kids
must_differ kinds.FunctionDecl head kids =
    named (head.names) (head.places) ++ declared_in false (body_list kids)
must_differ kinds.FunctionExpr head kids =
    named (head.names) (head.places) ++ declared_in false (body_list kids)
must_differ kinds.Arrow head kids =
    named (head.names) (head.places) ++ declared_in false (body_list kids)
must_differ kinds.Try head kids =
    own_name false (head.name) (head.name_place) ++ declared_in true (catch_list kids)
must_differ _ head kids = []

-- the lists in which functions may share a name: that of a script, and that of a function's body
abbrev pub may_share : Kind → Bool
may_share kinds.Script = true
may_share kinds.Body = true
may_share _ = false

-- ---- names declared twice

-- two declarations are of one name, and the list doesn't let them share it, as it may let two
-- functions
abbrev pub collide : Bool → Declared → Declared → Bool
collide shared it other =
    pointwise nat_eq (it.name) (other.name) && not (shared && (it.by_function && other.by_function))

-- a declaration collides with an earlier one
abbrev pub clashes : Bool → Declared → List Declared → Bool
clashes shared it earlier = list_any (λ other. collide shared it other) earlier

-- each declaration that collides with an earlier one is a fault at its own place
abbrev pub twice : Bool → List Declared → List Declared → List Fault
twice shared earlier [] = []
twice shared earlier (it ∷ later) =
    (if clashes shared it earlier then fault TwiceDeclared (it.place) ∷ [] else [])
    ++ twice shared (it ∷ earlier) later
