-- The rules of literals and of texts of arguments read what their cases read.
use Rattle.std.proofs.Common.{◌≡◌, Bool, true, false, List, [], ◌∷◌, refl, sym, ap, ◌∙◌, subst}
use Rattle.js_syntax.specs.declared.kind.Kind.TheVariants as kinds
use Rattle.js_lexer.specs.declared.token.Token.{Token}
use Rattle.parser_rules.specs.declared.class.Class.{Class}
use Rattle.parser_rules.specs.declared.class.Class.TheVariants as classes
use Rattle.parser_rules.specs.declared.form.Form.{Form}
use Rattle.parser_rules.specs.declared.form.Form.TheVariants as forms
use Rattle.parser_rules.specs.Classes.{is_one_of}
use Rattle.parser_rules.specs.Work.{Part, Work, State, going, opened}
use Rattle.parser_rules.specs.Rules.{Rule, Test, nothing_more, run, take, act, inside, ◌▸◌, either, many, refuse, sees, sees_other, sees_word, sees_key, sees_nonzero, sees_passing, after, open_form, close, name_it, key, value, kind_passes, is_word_kind, is_nonzero, is_passing}
use Rattle.parser_rules.specs.Expressions.{token, leaf, number_leaf, text_leaf}
use Rattle.parser_rules.specs.Literals as rules
use Rattle.parser_rules.proofs.Laws.{Inside, Still}
use Rattle.js_grammar.specs.Spots.{Spot, Reading, Named, Takes, Many, Followed, is, other_than, keyed_at, number_of, one_more, node, with_names, with_value, name_node}
use Rattle.js_grammar.specs.Literals.{LiteralProperty, literal_property, LiteralForm, Argument, LiteralText, literal_text, ArgumentsText}
use Rattle.js_grammar.specs.Literals as cases
use Rattle.js_grammar.proofs.Same.{spot_of, moved, gives, a_part, an_entry, each, Read, read, Same, Asks, then_read, as_read, either_first, either_second, either_read, refuse_read}
use Rattle.js_grammar.proofs.Steps.{token_goes, token_read, saw}
use Rattle.js_grammar.proofs.Tests.{asks_other, asks_word, asks_key, asks_nonzero, asks_passing}
use Rattle.js_grammar.proofs.Nodes.{parts_given, entries_given, entry_names, entry_parts, kids_given}
use Rattle.js_grammar.proofs.Loops.{many_same}
use Rattle.js_grammar.proofs.Kept.{kept, keep_key, keeps_name, keeps_key, keeps_value, kept_goes, kept_read, leaf_goes, leaf_read, number_goes, number_read, text_goes, text_read}
use Rattle.js_grammar.proofs.Lists.{pass_by, followed_same}

module _ (at : Form → State → State) (eats : Inside at) (still : (form : Form) → Still (at form)) (R : Form → Reading Part) (within : (form : Form) → Same a_part (at form) (R form)) where
  -- ---- a number behind a `-`

  abbrev negated : Spot → Spot → Part
  negated a q = with_value (number_of a.rest) (node kinds.Num a [] q)

  negated_goes : (w : Work) (q : Spot) → Takes is_nonzero (spot_of w) q → run at rules.negated_number (going w) ≡ going (gives a_part w (negated (spot_of w) q) (one_more q))
  unfolding rules.negated_number after
  negated_goes w q t = ap (λ (s : State). run at (act close) s) (kept_goes at still keeps_value asks_nonzero (opened kinds.Num w) q t)

  negative_goes : (w : Work) (a q : Spot) → Takes (is classes.Minus) (spot_of w) a → Takes is_nonzero a q →
      run at rules.negative (going w) ≡ going (gives a_part w (node kinds.Minus (spot_of w) (negated a q ∷ []) (one_more q)) (one_more (one_more q)))
  unfolding rules.negative after
  negative_goes w a q t u =
      let v = opened kinds.Minus w in
      ap (λ (s : State). run at (act close) (run at rules.negated_number s)) (token_goes at still classes.Minus v a t)
      ∙ ap (λ (s : State). run at (act close) s) (negated_goes (moved v a) q u)

  negative_is : (w : Work) → Read (gives a_part w) (LiteralForm R (spot_of w)) (run at rules.negative (going w))
  unfolding rules.negative rules.negated_number after
  negative_is w =
      let v = opened kinds.Minus w in
      then_read at still (token classes.Minus) (rules.negated_number ▸ act close) (going v) (token_read at still classes.Minus v) (λ _ a t.
      then_read at still (act value ▸ take sees_nonzero) (act close ▸ act close) (going (opened kinds.Num (moved v a))) (kept_read at still keeps_value asks_nonzero (opened kinds.Num (moved v a))) (λ _ q u.
      read {x = node kinds.Minus (spot_of w) (negated a q ∷ []) (one_more q)} {q = one_more (one_more q)} (cases.negative t u)))

  -- ---- arrays

  abbrev Elements : Reading (List Part)
  Elements = Many (other_than (classes.BracketClose ∷ [])) (Followed (is classes.Comma) (is classes.BracketClose) (R forms.Literal))

  abbrev elements : Rule
  elements = many (sees_other (classes.BracketClose ∷ [])) rules.literal_element

  elements_same : Same (each a_part) (run at elements) Elements
  unfolding rules.literal_element
  elements_same =
      many_same at eats still (sees_other (classes.BracketClose ∷ [])) (other_than (classes.BracketClose ∷ [])) (asks_other (classes.BracketClose ∷ [])) rules.literal_element refl
      a_part (Followed (is classes.Comma) (is classes.BracketClose) (R forms.Literal)) (followed_same at eats still a_part (inside forms.Literal) (R forms.Literal) classes.BracketClose (within forms.Literal))

  -- the array is whole
  array_closed : (w : Work) (xs : List Part) (q : Spot) →
      run at (act close) (going (gives (each a_part) (opened kinds.Array w) xs q)) ≡ going (gives a_part w (node kinds.Array (spot_of w) xs q) (one_more q))
  unfolding after
  array_closed w xs q = let v = opened kinds.Array w in rw (parts_given v.top xs, kids_given xs) refl

  array_goes : (w : Work) (xs : List Part) (a b q : Spot) → Takes (is classes.BracketOpen) (spot_of w) a → Elements a xs b → Takes (is classes.BracketClose) b q →
      run at rules.literal_array (going w) ≡ going (gives a_part w (node kinds.Array (spot_of w) xs q) (one_more q))
  unfolding rules.literal_array after
  array_goes w xs a b q t m u =
      let v = opened kinds.Array w in
      ap (λ (s : State). run at (act close) (run at (token classes.BracketClose) (run at elements s))) (token_goes at still classes.BracketOpen v a t)
      ∙ ap (λ (s : State). run at (act close) (run at (token classes.BracketClose) s)) (elements_same.complete (moved v a) xs b m)
      ∙ ap (λ (s : State). run at (act close) s) (token_goes at still classes.BracketClose (gives (each a_part) v xs b) q u)
      ∙ array_closed w xs q

  array_is : (w : Work) → Read (gives a_part w) (LiteralForm R (spot_of w)) (run at rules.literal_array (going w))
  unfolding rules.literal_array after
  array_is w =
      let v = opened kinds.Array w in
      then_read at still (token classes.BracketOpen) (elements ▸ (token classes.BracketClose ▸ act close)) (going v) (token_read at still classes.BracketOpen v) (λ _ a t.
      then_read at still elements (token classes.BracketClose ▸ act close) (going (moved v a)) (elements_same.sound (moved v a)) (λ xs b m.
      then_read at still (token classes.BracketClose) (act close) (going (gives (each a_part) v xs b)) (token_read at still classes.BracketClose (gives (each a_part) v xs b)) (λ _ q u.
      subst (λ (s : State). Read (gives a_part w) (LiteralForm R (spot_of w)) s) (sym (array_closed w xs q)) (read {x = node kinds.Array (spot_of w) xs q} {q = one_more q} (cases.array t m u)))))

  -- ---- objects

  abbrev one_property : Rule
  one_property = act key ▸ take sees_key ▸ token classes.Colon ▸ inside forms.Literal

  property_goes : (w : Work) (e : Named × Part) (q : Spot) → LiteralProperty R (spot_of w) e q → run at one_property (going w) ≡ going (gives an_entry w e q)
  property_goes w _ q (literal_property {a = a} {b = b} {x = x} t u r) =
      let v = kept keep_key w a in
      ap (λ (s : State). run at (inside forms.Literal) (run at (token classes.Colon) s)) (kept_goes at still keeps_key asks_key w a t)
      ∙ ap (λ (s : State). run at (inside forms.Literal) s) (token_goes at still classes.Colon v b u)
      ∙ (within forms.Literal).complete (moved v b) x q r

  property_is : (w : Work) → Read (gives an_entry w) (LiteralProperty R (spot_of w)) (run at one_property (going w))
  property_is w =
      then_read at still (act key ▸ take sees_key) (token classes.Colon ▸ inside forms.Literal) (going w) (kept_read at still keeps_key asks_key w) (λ _ a t.
      let v = kept keep_key w a in
      then_read at still (token classes.Colon) (inside forms.Literal) (going v) (token_read at still classes.Colon v) (λ _ b u.
      as_read at still _ ((within forms.Literal).sound (moved v b)) (λ x q r. read {x = (keyed_at (spot_of w), x)} {q = q} (literal_property t u r))))

  abbrev Properties : Reading (List (Named × Part))
  Properties = Many (other_than (classes.BraceClose ∷ [])) (Followed (is classes.Comma) (is classes.BraceClose) (LiteralProperty R))

  abbrev properties : Rule
  properties = many (sees_other (classes.BraceClose ∷ [])) rules.literal_property

  properties_same : Same (each an_entry) (run at properties) Properties
  unfolding rules.literal_property
  properties_same =
      many_same at eats still (sees_other (classes.BraceClose ∷ [])) (other_than (classes.BraceClose ∷ [])) (asks_other (classes.BraceClose ∷ [])) rules.literal_property refl
      an_entry (Followed (is classes.Comma) (is classes.BraceClose) (LiteralProperty R)) (followed_same at eats still an_entry one_property (LiteralProperty R) classes.BraceClose (record { complete = property_goes; sound = property_is }))

  abbrev object : Spot → List (Named × Part) → Spot → Part
  object p es q = with_names (entry_names es) (node kinds.Object p (entry_parts es) q)

  -- the object is whole
  object_closed : (w : Work) (es : List (Named × Part)) (q : Spot) →
      run at (act close) (going (gives (each an_entry) (opened kinds.Object w) es q)) ≡ going (gives a_part w (object (spot_of w) es q) (one_more q))
  unfolding after
  object_closed w es q = let v = opened kinds.Object w in rw (entries_given v.top es, kids_given (entry_parts es)) refl

  object_goes : (w : Work) (es : List (Named × Part)) (a b q : Spot) → Takes (is classes.BraceOpen) (spot_of w) a → Properties a es b → Takes (is classes.BraceClose) b q →
      run at rules.literal_object (going w) ≡ going (gives a_part w (object (spot_of w) es q) (one_more q))
  unfolding rules.literal_object after
  object_goes w es a b q t m u =
      let v = opened kinds.Object w in
      ap (λ (s : State). run at (act close) (run at (token classes.BraceClose) (run at properties s))) (token_goes at still classes.BraceOpen v a t)
      ∙ ap (λ (s : State). run at (act close) (run at (token classes.BraceClose) s)) (properties_same.complete (moved v a) es b m)
      ∙ ap (λ (s : State). run at (act close) s) (token_goes at still classes.BraceClose (gives (each an_entry) v es b) q u)
      ∙ object_closed w es q

  object_is : (w : Work) → Read (gives a_part w) (LiteralForm R (spot_of w)) (run at rules.literal_object (going w))
  unfolding rules.literal_object after
  object_is w =
      let v = opened kinds.Object w in
      then_read at still (token classes.BraceOpen) (properties ▸ (token classes.BraceClose ▸ act close)) (going v) (token_read at still classes.BraceOpen v) (λ _ a t.
      then_read at still properties (token classes.BraceClose ▸ act close) (going (moved v a)) (properties_same.sound (moved v a)) (λ es b m.
      then_read at still (token classes.BraceClose) (act close) (going (gives (each an_entry) v es b)) (token_read at still classes.BraceClose (gives (each an_entry) v es b)) (λ _ q u.
      subst (λ (s : State). Read (gives a_part w) (LiteralForm R (spot_of w)) s) (sym (object_closed w es q)) (read {x = object (spot_of w) es q} {q = one_more q} (cases.object t m u)))))

  -- ---- which literal it is

  abbrev not_false : Rule
  not_false = refuse

  abbrev not_true : Rule
  not_true = either (sees (classes.False ∷ [])) (leaf kinds.False classes.False) not_false

  abbrev not_null : Rule
  not_null = either (sees (classes.True ∷ [])) (leaf kinds.True classes.True) not_true

  abbrev not_undefined : Rule
  not_undefined = either (sees (classes.Null ∷ [])) (leaf kinds.Null classes.Null) not_null

  abbrev word : Rule
  word = either (sees (classes.Undefined ∷ [])) (leaf kinds.Undefined classes.Undefined) not_undefined

  abbrev not_array : Rule
  not_array = either (sees (classes.BraceOpen ∷ [])) rules.literal_object rules.constant_word

  abbrev not_negative : Rule
  not_negative = either (sees (classes.BracketOpen ∷ [])) rules.literal_array not_array

  abbrev not_text : Rule
  not_text = either (sees (classes.Minus ∷ [])) rules.negative not_negative

  abbrev not_number : Rule
  not_number = either (sees (classes.Text ∷ [])) text_leaf not_text

  -- where a token of another class is in view, what stands before its own literal is passed by
  to_text : (c : Class) (w : Work) → is c w.rest ≡ true → is_one_of c (classes.Num ∷ []) ≡ false → run at rules.literal (going w) ≡ run at not_number (going w)
  unfolding rules.literal
  to_text c w h e = pass_by at eats still c (classes.Num ∷ []) number_leaf not_number w h e

  to_negative : (c : Class) (w : Work) → is c w.rest ≡ true → is_one_of c (classes.Num ∷ []) ≡ false → is_one_of c (classes.Text ∷ []) ≡ false → run at rules.literal (going w) ≡ run at not_text (going w)
  to_negative c w h e f = to_text c w h e ∙ pass_by at eats still c (classes.Text ∷ []) text_leaf not_text w h f

  to_array : (c : Class) (w : Work) → is c w.rest ≡ true → is_one_of c (classes.Num ∷ []) ≡ false → is_one_of c (classes.Text ∷ []) ≡ false → is_one_of c (classes.Minus ∷ []) ≡ false →
      run at rules.literal (going w) ≡ run at not_negative (going w)
  to_array c w h e f g = to_negative c w h e f ∙ pass_by at eats still c (classes.Minus ∷ []) rules.negative not_negative w h g

  to_object : (c : Class) (w : Work) → is c w.rest ≡ true → is_one_of c (classes.Num ∷ []) ≡ false → is_one_of c (classes.Text ∷ []) ≡ false → is_one_of c (classes.Minus ∷ []) ≡ false →
      is_one_of c (classes.BracketOpen ∷ []) ≡ false → run at rules.literal (going w) ≡ run at not_array (going w)
  to_object c w h e f g i = to_array c w h e f g ∙ pass_by at eats still c (classes.BracketOpen ∷ []) rules.literal_array not_array w h i

  to_word : (c : Class) (w : Work) → is c w.rest ≡ true → is_one_of c (classes.Num ∷ []) ≡ false → is_one_of c (classes.Text ∷ []) ≡ false → is_one_of c (classes.Minus ∷ []) ≡ false →
      is_one_of c (classes.BracketOpen ∷ []) ≡ false → is_one_of c (classes.BraceOpen ∷ []) ≡ false → run at rules.literal (going w) ≡ run at word (going w)
  unfolding rules.constant_word
  to_word c w h e f g i j = to_object c w h e f g i ∙ pass_by at eats still c (classes.BraceOpen ∷ []) rules.literal_object word w h j

  undefined_goes : (w : Work) (q : Spot) → Takes (is classes.Undefined) (spot_of w) q → run at word (going w) ≡ going (gives a_part w (node kinds.Undefined (spot_of w) [] q) (one_more q))
  undefined_goes w q t = either_first at still (sees (classes.Undefined ∷ [])) (leaf kinds.Undefined classes.Undefined) not_undefined w (saw t) ∙ leaf_goes at still kinds.Undefined classes.Undefined w q t

  null_goes : (w : Work) (q : Spot) → Takes (is classes.Null) (spot_of w) q → run at word (going w) ≡ going (gives a_part w (node kinds.Null (spot_of w) [] q) (one_more q))
  null_goes w q t =
      pass_by at eats still classes.Null (classes.Undefined ∷ []) (leaf kinds.Undefined classes.Undefined) not_undefined w (saw t) refl
      ∙ either_first at still (sees (classes.Null ∷ [])) (leaf kinds.Null classes.Null) not_null w (saw t)
      ∙ leaf_goes at still kinds.Null classes.Null w q t

  true_goes : (w : Work) (q : Spot) → Takes (is classes.True) (spot_of w) q → run at word (going w) ≡ going (gives a_part w (node kinds.True (spot_of w) [] q) (one_more q))
  true_goes w q t =
      pass_by at eats still classes.True (classes.Undefined ∷ []) (leaf kinds.Undefined classes.Undefined) not_undefined w (saw t) refl
      ∙ pass_by at eats still classes.True (classes.Null ∷ []) (leaf kinds.Null classes.Null) not_null w (saw t) refl
      ∙ either_first at still (sees (classes.True ∷ [])) (leaf kinds.True classes.True) not_true w (saw t)
      ∙ leaf_goes at still kinds.True classes.True w q t

  false_goes : (w : Work) (q : Spot) → Takes (is classes.False) (spot_of w) q → run at word (going w) ≡ going (gives a_part w (node kinds.False (spot_of w) [] q) (one_more q))
  false_goes w q t =
      pass_by at eats still classes.False (classes.Undefined ∷ []) (leaf kinds.Undefined classes.Undefined) not_undefined w (saw t) refl
      ∙ pass_by at eats still classes.False (classes.Null ∷ []) (leaf kinds.Null classes.Null) not_null w (saw t) refl
      ∙ pass_by at eats still classes.False (classes.True ∷ []) (leaf kinds.True classes.True) not_true w (saw t) refl
      ∙ either_first at still (sees (classes.False ∷ [])) (leaf kinds.False classes.False) not_false w (saw t)
      ∙ leaf_goes at still kinds.False classes.False w q t

  literal_goes : (w : Work) (x : Part) (q : Spot) → LiteralForm R (spot_of w) x q → run at rules.literal (going w) ≡ going (gives a_part w x q)
  unfolding rules.literal
  literal_goes w _ _ (cases.number {q = q} t) = either_first at still (sees (classes.Num ∷ [])) number_leaf not_number w (saw t) ∙ number_goes at still w q t
  literal_goes w _ _ (cases.text {q = q} t) = to_text classes.Text w (saw t) refl ∙ either_first at still (sees (classes.Text ∷ [])) text_leaf not_text w (saw t) ∙ text_goes at still w q t
  literal_goes w _ _ (cases.undefined {q = q} t) = to_word classes.Undefined w (saw t) refl refl refl refl refl ∙ undefined_goes w q t
  literal_goes w _ _ (cases.null {q = q} t) = to_word classes.Null w (saw t) refl refl refl refl refl ∙ null_goes w q t
  literal_goes w _ _ (cases.true_word {q = q} t) = to_word classes.True w (saw t) refl refl refl refl refl ∙ true_goes w q t
  literal_goes w _ _ (cases.false_word {q = q} t) = to_word classes.False w (saw t) refl refl refl refl refl ∙ false_goes w q t
  literal_goes w _ _ (cases.negative {a = a} {q = q} t u) =
      to_negative classes.Minus w (saw t) refl refl ∙ either_first at still (sees (classes.Minus ∷ [])) rules.negative not_negative w (saw t) ∙ negative_goes w a q t u
  literal_goes w _ _ (cases.array {a = a} {b = b} {q = q} {xs = xs} t m u) =
      to_array classes.BracketOpen w (saw t) refl refl refl ∙ either_first at still (sees (classes.BracketOpen ∷ [])) rules.literal_array not_array w (saw t) ∙ array_goes w xs a b q t m u
  literal_goes w _ _ (cases.object {a = a} {b = b} {q = q} {ps = es} t m u) =
      to_object classes.BraceOpen w (saw t) refl refl refl refl ∙ either_first at still (sees (classes.BraceOpen ∷ [])) rules.literal_object rules.constant_word w (saw t) ∙ object_goes w es a b q t m u

  word_is : (w : Work) → Read (gives a_part w) (LiteralForm R (spot_of w)) (run at rules.constant_word (going w))
  unfolding rules.constant_word
  word_is w =
      either_read at still (sees (classes.Undefined ∷ [])) (leaf kinds.Undefined classes.Undefined) not_undefined w (λ _. leaf_read at still kinds.Undefined classes.Undefined w (λ q t. cases.undefined t)) (λ _.
      either_read at still (sees (classes.Null ∷ [])) (leaf kinds.Null classes.Null) not_null w (λ _. leaf_read at still kinds.Null classes.Null w (λ q t. cases.null t)) (λ _.
      either_read at still (sees (classes.True ∷ [])) (leaf kinds.True classes.True) not_true w (λ _. leaf_read at still kinds.True classes.True w (λ q t. cases.true_word t)) (λ _.
      either_read at still (sees (classes.False ∷ [])) (leaf kinds.False classes.False) not_false w (λ _. leaf_read at still kinds.False classes.False w (λ q t. cases.false_word t)) (λ _.
      refuse_read at still w))))

  literal_is : (w : Work) → Read (gives a_part w) (LiteralForm R (spot_of w)) (run at rules.literal (going w))
  unfolding rules.literal
  literal_is w =
      either_read at still (sees (classes.Num ∷ [])) number_leaf not_number w (λ _. number_read at still w (λ q t. cases.number t)) (λ _.
      either_read at still (sees (classes.Text ∷ [])) text_leaf not_text w (λ _. text_read at still w (λ q t. cases.text t)) (λ _.
      either_read at still (sees (classes.Minus ∷ [])) rules.negative not_negative w (λ _. negative_is w) (λ _.
      either_read at still (sees (classes.BracketOpen ∷ [])) rules.literal_array not_array w (λ _. array_is w) (λ _.
      either_read at still (sees (classes.BraceOpen ∷ [])) rules.literal_object rules.constant_word w (λ _. object_is w) (λ _. word_is w)))))

  pub literal_same : Same a_part (run at rules.literal) (LiteralForm R)
  literal_same = record { complete = literal_goes; sound = literal_is }

  -- ---- texts of one literal

  -- a text of one literal, in the form that was opened for it
  abbrev pub literal_whole : Rule
  literal_whole = inside forms.Literal ▸ rules.text_end

  literal_text_goes : (w : Work) (xs : List Part) (q : Spot) → LiteralText R (spot_of w) xs q → run at literal_whole (going w) ≡ going (gives (each a_part) w xs q)
  unfolding rules.text_end
  literal_text_goes w _ q (literal_text {x = x} r h) =
      ap (λ (s : State). run at rules.text_end s) ((within forms.Literal).complete w x q r) ∙ either_first at still (sees (classes.End ∷ [])) nothing_more refuse (gives a_part w x q) h

  literal_text_is : (w : Work) → Read (gives (each a_part) w) (LiteralText R (spot_of w)) (run at literal_whole (going w))
  unfolding rules.text_end
  literal_text_is w =
      then_read at still (inside forms.Literal) rules.text_end (going w) ((within forms.Literal).sound w) (λ x q r.
      either_read at still (sees (classes.End ∷ [])) nothing_more refuse (gives a_part w x q)
      (λ h. read {x = x ∷ []} {q = q} (literal_text r h))
      (λ _. refuse_read at still (gives a_part w x q)))

  pub literal_text_same : Same (each a_part) (run at literal_whole) (LiteralText R)
  literal_text_same = record { complete = literal_text_goes; sound = literal_text_is }

  -- ---- texts of arguments

  -- a word of its own, whatever it is
  module _ (test : Test) (of : List Token → Bool) (asks : Asks test of) where
    abbrev word_node : Rule
    word_node = act (open_form kinds.Name) ▸ act name_it ▸ take test ▸ act close

    word_node_goes : (w : Work) (q : Spot) → Takes of (spot_of w) q → run at word_node (going w) ≡ going (gives a_part w (name_node (spot_of w) q) (one_more q))
    unfolding after
    word_node_goes w q t = ap (λ (s : State). run at (act close) s) (kept_goes at still keeps_name asks (opened kinds.Name w) q t)

    word_node_read : (w : Work) → Read (λ (u : Unit {0}) q. gives a_part w (name_node (spot_of w) q) (one_more q)) (λ u q. Takes of (spot_of w) q) (run at word_node (going w))
    unfolding after
    word_node_read w =
        then_read at still (act name_it ▸ take test) (act close) (going (opened kinds.Name w)) (kept_read at still keeps_name asks (opened kinds.Name w)) (λ _ q t. read {x = tt} {q = q} t)

  abbrev passed : Spot → Spot → Spot → Spot → Spot → Part
  passed p a b c q = node kinds.Call p (name_node p a ∷ name_node b c ∷ []) q

  passing_goes : (w : Work) (a b c q : Spot) → Takes is_passing (spot_of w) a → Takes (is classes.ParenOpen) (one_more a) b → Takes (kind_passes is_word_kind) b c → Takes (is classes.ParenClose) (one_more c) q →
      run at rules.passing (going w) ≡ going (gives a_part w (passed (spot_of w) a b c q) (one_more q))
  unfolding rules.passing rules.passing_word rules.passed_name after
  passing_goes w a b c q t u s r =
      let v = opened kinds.Call w in
      let x = name_node (spot_of w) a in
      let y = name_node b c in
      ap (λ (s : State). run at (act close) (run at (token classes.ParenClose) (run at rules.passed_name (run at (token classes.ParenOpen) s)))) (word_node_goes sees_passing is_passing asks_passing v a t)
      ∙ ap (λ (s : State). run at (act close) (run at (token classes.ParenClose) (run at rules.passed_name s))) (token_goes at still classes.ParenOpen (gives a_part v x (one_more a)) b u)
      ∙ ap (λ (s : State). run at (act close) (run at (token classes.ParenClose) s)) (word_node_goes sees_word (kind_passes is_word_kind) asks_word (gives a_part v x b) c s)
      ∙ ap (λ (s : State). run at (act close) s) (token_goes at still classes.ParenClose (gives a_part (gives a_part v x b) y (one_more c)) q r)

  passing_is : (w : Work) → Read (gives a_part w) (Argument R (spot_of w)) (run at rules.passing (going w))
  unfolding rules.passing rules.passing_word rules.passed_name after
  passing_is w =
      let v = opened kinds.Call w in
      then_read at still rules.passing_word (token classes.ParenOpen ▸ (rules.passed_name ▸ (token classes.ParenClose ▸ act close))) (going v) (word_node_read sees_passing is_passing asks_passing v) (λ _ a t.
      let x = name_node (spot_of w) a in
      then_read at still (token classes.ParenOpen) (rules.passed_name ▸ (token classes.ParenClose ▸ act close)) (going (gives a_part v x (one_more a))) (token_read at still classes.ParenOpen (gives a_part v x (one_more a))) (λ _ b u.
      then_read at still rules.passed_name (token classes.ParenClose ▸ act close) (going (gives a_part v x b)) (word_node_read sees_word (kind_passes is_word_kind) asks_word (gives a_part v x b)) (λ _ c s.
      let y = name_node b c in
      then_read at still (token classes.ParenClose) (act close) (going (gives a_part (gives a_part v x b) y (one_more c))) (token_read at still classes.ParenClose (gives a_part (gives a_part v x b) y (one_more c))) (λ _ q r.
      read {x = passed (spot_of w) a b c q} {q = one_more q} (cases.passing t u s r)))))

  one_argument_goes : (w : Work) (x : Part) (q : Spot) → Argument R (spot_of w) x q → run at (either sees_passing rules.passing (inside forms.Literal)) (going w) ≡ going (gives a_part w x q)
  one_argument_goes w x q (cases.literal h r) = either_second at still sees_passing rules.passing (inside forms.Literal) w h ∙ (within forms.Literal).complete w x q r
  one_argument_goes w _ _ (cases.passing {a = a} {b = b} {c = c} {q = q} t u s r) = either_first at still sees_passing rules.passing (inside forms.Literal) w (saw t) ∙ passing_goes w a b c q t u s r

  one_argument_is : (w : Work) → Read (gives a_part w) (Argument R (spot_of w)) (run at (either sees_passing rules.passing (inside forms.Literal)) (going w))
  one_argument_is w =
      either_read at still sees_passing rules.passing (inside forms.Literal) w
      (λ _. passing_is w)
      (λ h. as_read at still _ ((within forms.Literal).sound w) (λ x q r. read {x = x} {q = q} (cases.literal h r)))

  one_argument_same : Same a_part (run at (either sees_passing rules.passing (inside forms.Literal))) (Argument R)
  one_argument_same = record { complete = one_argument_goes; sound = one_argument_is }

  -- a text of arguments, in the form that was opened for them
  abbrev pub arguments_whole : Rule
  arguments_whole = many (sees_other (classes.End ∷ [])) rules.argument

  pub arguments_text_same : Same (each a_part) (run at arguments_whole) (ArgumentsText R)
  unfolding rules.argument rules.passing rules.passing_word
  arguments_text_same =
      many_same at eats still (sees_other (classes.End ∷ [])) (other_than (classes.End ∷ [])) (asks_other (classes.End ∷ [])) rules.argument refl
      a_part (Followed (is classes.Comma) (is classes.End) (Argument R)) (followed_same at eats still a_part (either sees_passing rules.passing (inside forms.Literal)) (Argument R) classes.End one_argument_same)
