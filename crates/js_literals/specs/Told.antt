-- What texts of literals and of arguments stand for.
-- This project's own; docs/SCRIPTS.md, "Literals and arguments".
use Rattle.std.specs.Prelude.{◌≡◌, ℕ, Bool, true, false, List, [], ◌∷◌, Option, Some, None, codes, if◌then◌else◌}
use Rattle.std.specs.Str.{bytes_eq}
use Rattle.ivm_text.specs.declared.copies.Copy.{Copy}
use Rattle.js_syntax.specs.declared.kind.Kind.{Kind}
use Rattle.js_syntax.specs.declared.kind.Kind.TheVariants as kinds
use Rattle.js_syntax.specs.Tree.{Trees, nothing, tree}
use Rattle.js_grammar.specs.Derives.{DerivesLiteral, DerivesArguments}
use Rattle.js_parser.specs.Parsed.{HasTree}
use Rattle.js_literals.specs.Copies.{Tree, side_by_side, parts, IsCopyOf}
use Rattle.js_literals.specs.declared.argument.FormKind.{FormKind}
use Rattle.js_literals.specs.declared.argument.FormKind.TheVariants as forms
use Rattle.js_literals.specs.declared.argument.Argument.{Argument}
use Rattle.js_literals.specs.declared.argument.Argument.TheVariants as arguments

-- the trees below the root of a text's tree
abbrev pub parts_of_text : Trees → List Tree
parts_of_text nothing = []
parts_of_text (tree head kids rest) = side_by_side kids

-- ---- literals

-- the bytes are a text of tokens, the grammar has a tree for them, and the copy is that of its one
-- literal
pub record IsLiteral (bytes : List ℕ) (copy : Copy) : Type 0 where
  pub text_tree : Trees
  pub is_its_tree : HasTree DerivesLiteral bytes text_tree
  pub literal : Tree
  pub is_all : parts_of_text text_tree ≡ literal ∷ []
  pub is_copied : IsCopyOf literal copy

-- ---- arguments

-- what a word says is passed
abbrev pub form_named : List ℕ → Option FormKind
form_named word =
    if bytes_eq (codes "ref") word then Some forms.Ref
    else if bytes_eq (codes "deref") word then Some forms.Deref
    else if bytes_eq (codes "copy") word then Some forms.Copy
    else if bytes_eq (codes "into") word then Some forms.Into
    else if bytes_eq (codes "callback") word then Some forms.Callback
    else None

-- `W(N)` is a call
abbrev pub is_call : Kind → Bool
is_call kinds.Call = true
is_call _ = false

abbrev pub form_of_name : Option (List ℕ) → Option FormKind
form_of_name None = None
form_of_name (Some word) = form_named word

-- the call of a word that passes with a name
pub record Passes (call : Tree) (form : FormKind) (name : List ℕ) : Type 0 where
  pub callee : Tree
  pub passed : Tree
  pub are_parts : parts call ≡ callee ∷ passed ∷ []
  pub is_form : form_of_name callee.head.name ≡ Some form
  pub is_name : passed.head.name ≡ Some name

-- a call is a form, and all else a literal
abbrev pub IsArgument : Tree → Argument → Type 0
IsArgument t (arguments.Literal copy) = (is_call t.head.kind ≡ false) × IsCopyOf t copy
IsArgument t (arguments.Form form name) = (is_call t.head.kind ≡ true) × Passes t form name

-- each argument is that of its tree
abbrev pub AreEach : List Tree → List Argument → Type 0
AreEach [] [] = Unit {0}
AreEach [] (a ∷ rest) = ⊥
AreEach (t ∷ ts) [] = ⊥
AreEach (t ∷ ts) (a ∷ rest) = IsArgument t a × AreEach ts rest

-- the bytes are a text of tokens, the grammar has a tree for them, and these are its arguments
pub record AreArguments (bytes : List ℕ) (told : List Argument) : Type 0 where
  pub text_tree : Trees
  pub is_its_tree : HasTree DerivesArguments bytes text_tree
  pub are_told : AreEach (parts_of_text text_tree) told
