-- The expressions in which no node stands.
-- ECMA-262, Primary Expression; docs/SCRIPTS.md, "Evaluation".
use Rattle.js_syntax.specs.declared.kind.Kind.{Kind}
use Rattle.js_syntax.specs.declared.kind.Kind.TheVariants as kinds

abbrev pub IsLeaf : Kind → Type 0
IsLeaf kinds.Num = Unit {0}
IsLeaf kinds.Text = Unit {0}
IsLeaf kinds.Undefined = Unit {0}
IsLeaf kinds.Null = Unit {0}
IsLeaf kinds.True = Unit {0}
IsLeaf kinds.False = Unit {0}
IsLeaf kinds.This = Unit {0}
IsLeaf kinds.Name = Unit {0}
IsLeaf _ = ⊥
