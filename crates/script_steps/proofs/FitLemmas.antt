-- A node that is a part of a form, the parts of loops, and forms whose kind is known.
use Rattle.std.specs.Prelude.{IfSome}
use Rattle.std.proofs.Common.{◌≡◌, ◌⊎◌, ℕ, Bool, Option, None, Some, inl, inr, refl, subst, sym}
use Rattle.js_syntax.specs.declared.kind.Kind.{Kind}
use Rattle.js_syntax.specs.declared.kind.Kind.TheVariants as kinds
use Rattle.js_ops.specs.declared.operators.Operator.{Operator}
use Rattle.js_trees.specs.Tree.{kid}
use Rattle.script_meaning.specs.Places.{ScriptList, form_at}
use Rattle.script_steps.specs.Fits.{Is, IsOperator, IsList, IsDeclaration, IsForm, IsPart, AreLoopParts}
use Rattle.script_steps.specs.declared.frame.LoopParts.{LoopParts}

-- ---- parts

-- so it is of a part that was looked up
pub a_part : (wanted : Kind → Type 0) (i : ℕ) (scripts : ScriptList) (script whole n : ℕ) → IsForm wanted scripts script whole
    → form_at scripts script n ≡ kid i ((form_at scripts script whole).kids) → IsPart wanted i scripts script n
a_part wanted i scripts script whole n fits part = record { whole = whole; is_form = fits; is_part = part }

-- and of one that may be left out
maybe_part : (wanted : Kind → Type 0) (i : ℕ) (scripts : ScriptList) (script whole : ℕ) (n : Option ℕ) → IsForm wanted scripts script whole
    → IfSome n (λ n. form_at scripts script n ≡ kid i ((form_at scripts script whole).kids)) → IfSome n (IsPart wanted i scripts script)
maybe_part wanted i scripts script whole None fits part = part
maybe_part wanted i scripts script whole (Some n) fits part = a_part wanted i scripts script whole n fits part

-- ---- loops

pub while_fits : (scripts : ScriptList) (script whole test body : ℕ) (fresh : Bool) → IsForm (Is kinds.While) scripts script whole
    → form_at scripts script test ≡ kid 0 ((form_at scripts script whole).kids)
    → form_at scripts script body ≡ kid 1 ((form_at scripts script whole).kids)
    → AreLoopParts scripts script (record { test = Some test; body = body; update = None; fresh = fresh })
while_fits scripts script whole test body fresh fits first second = inl (record {
  test = a_part (Is kinds.While) 0 scripts script whole test fits first;
  body = a_part (Is kinds.While) 1 scripts script whole body fits second;
  update = refl;
})

pub for_fits : (scripts : ScriptList) (script whole : ℕ) (test : Option ℕ) (body : ℕ) (update : Option ℕ) (fresh : Bool)
    → IsForm (Is kinds.For) scripts script whole
    → IfSome test (λ n. form_at scripts script n ≡ kid 1 ((form_at scripts script whole).kids))
    → form_at scripts script body ≡ kid 3 ((form_at scripts script whole).kids)
    → IfSome update (λ n. form_at scripts script n ≡ kid 2 ((form_at scripts script whole).kids))
    → AreLoopParts scripts script (record { test = test; body = body; update = update; fresh = fresh })
for_fits scripts script whole test body update fresh fits tested looped updated = inr (record {
  test = maybe_part (Is kinds.For) 1 scripts script whole test fits tested;
  update = maybe_part (Is kinds.For) 2 scripts script whole update fits updated;
  body = a_part (Is kinds.For) 3 scripts script whole body fits looped;
})

-- a round stands in its loop's script
pub loop_inside : (scripts : ScriptList) (script inside : ℕ) (parts : LoopParts) → inside ≡ script → AreLoopParts scripts script parts
    → AreLoopParts scripts inside parts
loop_inside scripts script inside parts same fits = subst (λ n. AreLoopParts scripts n parts) (sym same) fits

-- ---- kinds

pub list_form : (scripts : ScriptList) (script n : ℕ) (kind : Kind) → IsForm (Is kind) scripts script n → IsList kind
    → IsForm IsList scripts script n
list_form scripts script n kind is list = subst IsList (sym is) list

pub declaration_form : (scripts : ScriptList) (script n : ℕ) (kind : Kind) → IsForm (Is kind) scripts script n → IsDeclaration kind
    → IsForm IsDeclaration scripts script n
declaration_form scripts script n kind is declared = subst IsDeclaration (sym is) declared

pub operator_form : (scripts : ScriptList) (script n : ℕ) (kind : Kind) (operator : Operator) → IsForm (Is kind) scripts script n
    → IsOperator operator kind → IsForm (IsOperator operator) scripts script n
operator_form scripts script n kind operator is known = subst (IsOperator operator) (sym is) known

pub ruleset fits = (a_part)

pub ruleset loops = (while_fits, for_fits, loop_inside)

pub ruleset kinds_known = (list_form, declaration_form, operator_form)
