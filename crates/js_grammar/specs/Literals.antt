-- Literals and arguments by cases.
-- This project's own, within ECMA-262's literals; docs/SCRIPTS.md, "Literals and arguments".
use Rattle.std.specs.Prelude.{List, [], ◌∷◌, map}
use Rattle.js_syntax.specs.declared.kind.Kind.TheVariants as kinds
use Rattle.parser_rules.specs.declared.class.Class.TheVariants.{End, Num, Text, Undefined, Null, True, False, BraceOpen, BraceClose, ParenOpen, ParenClose, BracketOpen, BracketClose, Minus, Colon, Comma}
use Rattle.parser_rules.specs.declared.form.Form.{Form}
use Rattle.parser_rules.specs.declared.form.Form.TheVariants as forms
use Rattle.parser_rules.specs.Work.{Part}
use Rattle.parser_rules.specs.Rules.{kind_passes, is_word_kind, is_key_kind, is_nonzero, is_passing}
use Rattle.js_grammar.specs.Spots.{Spot, Reading, Named, is, other_than, Sees, SeesNot, Takes, keyed_at, named_at, number_of, one_more, node, with_name, with_names, with_value, name_node, Many, Followed}

-- `inside` reads what stands one level further inside
module _ (inside : Form → Reading Part) where
  -- a key with its value
  pub data LiteralProperty : Spot → Named × Part → Spot → Type 0 where
    literal_property : {p a b q : Spot} {x : Part} → Takes (kind_passes is_key_kind) p a → Takes (is Colon) a b → inside forms.Literal b x q → LiteralProperty p (keyed_at p, x) q

  pub data LiteralForm : Spot → Part → Spot → Type 0 where
    number : {p q : Spot} → Takes (is Num) p q → LiteralForm p (with_value (number_of p.rest) (node kinds.Num p [] q)) (one_more q)
    text : {p q : Spot} → Takes (is Text) p q → LiteralForm p (with_name (named_at p) (node kinds.Text p [] q)) (one_more q)
    undefined : {p q : Spot} → Takes (is Undefined) p q → LiteralForm p (node kinds.Undefined p [] q) (one_more q)
    null : {p q : Spot} → Takes (is Null) p q → LiteralForm p (node kinds.Null p [] q) (one_more q)
    true_word : {p q : Spot} → Takes (is True) p q → LiteralForm p (node kinds.True p [] q) (one_more q)
    false_word : {p q : Spot} → Takes (is False) p q → LiteralForm p (node kinds.False p [] q) (one_more q)
    -- a number other than 0 behind a `-`: there is no -0
    negative : {p a q : Spot} → Takes (is Minus) p a → Takes is_nonzero a q →
        LiteralForm p (node kinds.Minus p (with_value (number_of a.rest) (node kinds.Num a [] q) ∷ []) (one_more q)) (one_more (one_more q))
    array : {p a b q : Spot} {xs : List Part} →
        Takes (is BracketOpen) p a → Many (other_than (BracketClose ∷ [])) (Followed (is Comma) (is BracketClose) (inside forms.Literal)) a xs b → Takes (is BracketClose) b q →
        LiteralForm p (node kinds.Array p xs q) (one_more q)
    object : {p a b q : Spot} {ps : List (Named × Part)} →
        Takes (is BraceOpen) p a → Many (other_than (BraceClose ∷ [])) (Followed (is Comma) (is BraceClose) LiteralProperty) a ps b → Takes (is BraceClose) b q →
        LiteralForm p (with_names (map (λ (e : Named × Part). e.0) ps) (node kinds.Object p (map (λ (e : Named × Part). e.1) ps) q)) (one_more q)

  -- a literal, or `W(N)`, where W says what is passed and N may be any word; it has the tree of a
  -- call
  pub data Argument : Spot → Part → Spot → Type 0 where
    literal : {p q : Spot} {x : Part} → SeesNot is_passing p → inside forms.Literal p x q → Argument p x q
    passing : {p a b c q : Spot} → Takes is_passing p a → Takes (is ParenOpen) (one_more a) b → Takes (kind_passes is_word_kind) b c → Takes (is ParenClose) (one_more c) q →
        Argument p (node kinds.Call p (name_node p a ∷ name_node b c ∷ []) q) (one_more q)

-- a text of one literal
pub data LiteralText (inside : Form → Reading Part) : Spot → List Part → Spot → Type 0 where
  literal_text : {p q : Spot} {x : Part} → inside forms.Literal p x q → Sees (is End) q → LiteralText inside p (x ∷ []) q

-- a text of arguments, maybe none
abbrev pub ArgumentsText : (Form → Reading Part) → Spot → List Part → Spot → Type 0
ArgumentsText inside = Many (other_than (End ∷ [])) (Followed (is Comma) (is End) (Argument inside))
