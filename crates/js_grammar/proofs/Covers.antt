-- What stands behind a `(`: names alone so far, expressions, or parameters; and what each is by cases.
use Rattle.std.proofs.Common.{◌≡◌, Bool, true, false, ◌&&◌, List, [], ◌∷◌, ◌++◌, Option, None, Some, refl, sym, ap, ◌∙◌, subst, append_assoc, append-nil}
use Rattle.js_syntax.specs.declared.kind.Kind.TheVariants as kinds
use Rattle.parser_rules.specs.declared.class.Class.TheVariants as classes
use Rattle.parser_rules.specs.declared.form.Form.{Form}
use Rattle.parser_rules.specs.declared.form.Form.TheVariants as forms
use Rattle.parser_rules.specs.declared.form.Cover.{Cover}
use Rattle.parser_rules.specs.declared.form.Cover.TheVariants as covers
use Rattle.parser_rules.specs.Work.{Part, bare_name}
use Rattle.parser_rules.specs.Rules.{is_names}
use Rattle.js_grammar.specs.Spots.{Spot, Reading, Named, Takes, Sees, SeesNot, Chain, chain_end, chain_step, is, node_from, one_more}
use Rattle.js_grammar.specs.Expressions.{CommaBehind, comma_behind, ExpressionList, expression_list, MoreNames, last_name, comma_behind_names, further_name, ArrowNames, no_names, some_names}
use Rattle.js_grammar.proofs.Cycles.{Cycle, cycle_end, cycle_turn}
use Rattle.js_grammar.proofs.Tests.{among_of}
use Rattle.js_grammar.proofs.Steps.{saw}

-- what was read behind the `(`: what it may be, the bare names in it, and the one part that it is so far
pub record Held : Type 0 where
  pub cover : Cover
  pub names : List Named
  pub part : Part

-- a further part, which is a parameter where it is a bare name
abbrev pub offer_of : Option Named → Held → Part → Held
offer_of None h z = record { cover = covers.Expressions; names = h.names; part = z }
offer_of (Some n) h z = record { cover = h.cover; names = h.names ++ n ∷ []; part = z }

-- with one part more behind a `,`
abbrev pub joined : Held → Part → Spot → Held
joined h y q = offer_of (bare_name y) h (node_from kinds.Comma h.part (h.part ∷ y ∷ []) q)

-- the first part
abbrev pub first_held : Part → Held
first_held x = offer_of (bare_name x) (record { cover = covers.Names; names = []; part = x }) x

abbrev pub parameters_alone : Held → Held
parameters_alone h = record h { cover = covers.Parameters }

-- an arrow function may follow; an expression may
abbrev pub for_arrow : Cover → Bool
for_arrow covers.Names = true
for_arrow covers.Expressions = false
for_arrow covers.Parameters = true

abbrev pub for_expression : Cover → Bool
for_expression covers.Names = true
for_expression covers.Expressions = true
for_expression covers.Parameters = false

-- nothing at all was read behind the `(`, or something
abbrev pub cover_held : Option Held → Cover
cover_held None = covers.Parameters
cover_held (Some h) = h.cover

abbrev pub names_held : Option Held → List Named
names_held None = []
names_held (Some h) = h.names

offer_part : (o : Option Named) (h : Held) (z : Part) → (offer_of o h z).part ≡ z
offer_part None h z = refl
offer_part (Some n) h z = refl

offer_names : (o : Option Named) (h : Held) (z : Part) (n : Named) → o ≡ Some n → offer_of o h z ≡ record { cover = h.cover; names = h.names ++ n ∷ []; part = z }
offer_names o h z n e = rw e refl

offer_cover : (o : Option Named) (h : Held) (z : Part) → for_expression h.cover ≡ true → for_expression (offer_of o h z).cover ≡ true
offer_cover None h z e = refl
offer_cover (Some n) h z e = e

stays_offered : (o : Option Named) (h : Held) (z : Part) → h.cover ≡ covers.Expressions → (offer_of o h z).cover ≡ covers.Expressions
stays_offered None h z e = refl
stays_offered (Some n) h z e = e

and_false : (b c : Bool) → c ≡ false → b && c ≡ false
and_false true c e = e
and_false false c e = refl

no_names_there : (c : Cover) → is_names c ≡ true → c ≡ covers.Expressions → ⊥
no_names_there c h e = let k : false ≡ true = subst (λ (d : Cover). is_names d ≡ true) e h in cc

no_arrow_there : (c : Cover) → for_arrow c ≡ true → c ≡ covers.Expressions → ⊥
no_arrow_there c h e = let k : false ≡ true = subst (λ (d : Cover). for_arrow d ≡ true) e h in cc

-- in front of a `)` stands no `,`
no_comma : (p : Spot) → Sees (is classes.ParenClose) p → SeesNot (is classes.Comma) p
no_comma p s = among_of classes.ParenClose (classes.Comma ∷ []) p.rest s

never_both : (p : Spot) → Sees (is classes.ParenClose) p → Sees (is classes.Comma) p → ⊥
never_both p s h = let k = no_comma p s in cc

-- no expression begins with a `)`
abbrev pub Unclosed : (Form → Reading Part) → Type 0
Unclosed R = (p : Spot) (x : Part) (q : Spot) → R forms.Expression p x q → SeesNot (is classes.ParenClose) p

module _ (R : Form → Reading Part) where
  -- one turn: a `,` and an expression, or a `,` in front of the `)`
  pub data Further : Held → Spot → Held → Spot → Type 0 where
    item_behind : {h : Held} {y : Part} {p a b : Spot} → Takes (is classes.Comma) p a → is_names h.cover && is classes.ParenClose a.rest ≡ false → R forms.Expression a y b → Further h p (joined h y b) (one_more b)
    closing_comma : {h : Held} {p q : Spot} → Takes (is classes.Comma) p q → is_names h.cover ≡ true → Sees (is classes.ParenClose) q → Further h p (parameters_alone h) q

  abbrev pub All : Held → Spot → Held → Spot → Type 0
  All = Cycle (is classes.Comma) Further

  -- all that stands behind the `(`
  pub data Inner : Spot → Option Held → Spot → Type 0 where
    no_items : {p : Spot} → Sees (is classes.ParenClose) p → Inner p None p
    some_items : {x : Part} {h : Held} {p a q : Spot} → SeesNot (is classes.ParenClose) p → R forms.Expression p x a → All (first_held x) a h q → Inner p (Some h) q

  -- ---- expressions stay expressions

  stays_expressions : (h k : Held) (p q : Spot) → All h p k q → h.cover ≡ covers.Expressions → k.cover ≡ covers.Expressions
  stays_expressions h _ p _ (cycle_end s) e = e
  stays_expressions h k p q (cycle_turn {a = a} s (item_behind {y = y} {b = b} t g r) c) e = stays_expressions (joined h y b) k a q c (stays_offered (bare_name y) h (node_from kinds.Comma h.part (h.part ∷ y ∷ []) b) e)
  stays_expressions h k p q (cycle_turn s (closing_comma t n u) c) e = absurd (no_names_there h.cover n e)

  -- in front of the `)` there are no further turns
  at_close : (h k : Held) (p q : Spot) → All h p k q → Sees (is classes.ParenClose) p → (k ≡ h) × (q ≡ p)
  at_close h _ p _ (cycle_end s) u = (refl, refl)
  at_close h k p q (cycle_turn s turn m) u = absurd (never_both p u s)

  -- ---- names

  names_out : (h k : Held) (p q : Spot) → All h p k q → for_arrow k.cover ≡ true → Sees (is classes.ParenClose) q → h.cover ≡ covers.Names → (ns : List Named) × MoreNames R p ns q × (k.names ≡ h.names ++ ns)
  names_out h _ p _ (cycle_end s) f u e = ([], last_name u, sym (append-nil h.names))
  names_out h k p q (cycle_turn {a = a} s (item_behind {y = y} {a = b} {b = c} t g r) m) f u e =
      named (bare_name y) refl (λ d. names_out (joined h y c) k a q m f u d)
    where
      named : (o : Option Named) → bare_name y ≡ o → ((joined h y c).cover ≡ covers.Names → (ns : List Named) × MoreNames R a ns q × (k.names ≡ (joined h y c).names ++ ns)) → (ns : List Named) × MoreNames R p ns q × (k.names ≡ h.names ++ ns)
      named None i rest = absurd (no_arrow_there k.cover f (stays_expressions (joined h y c) k a q m (ap (λ (o : Option Named). (offer_of o h (node_from kinds.Comma h.part (h.part ∷ y ∷ []) c)).cover) i)))
      named (Some n) i rest =
          let j = offer_names (bare_name y) h (node_from kinds.Comma h.part (h.part ∷ y ∷ []) c) n i in
          let (ns, l, d) = rest (ap (λ (x : Held). x.cover) j ∙ e) in
          (n ∷ ns, further_name t r i l, d ∙ ap (λ (x : Held). x.names ++ ns) j ∙ append_assoc h.names (n ∷ []) ns)
  names_out h k p q (cycle_turn {a = a} s (closing_comma t n u') m) f u e =
      let (d, l) = at_close (parameters_alone h) k a q m u' in
      ([], subst (λ (b : Spot). MoreNames R p [] b) (sym l) (comma_behind_names t u'), ap (λ (x : Held). x.names) d ∙ sym (append-nil h.names))

  names_in : Unclosed R → (p q : Spot) (ns : List Named) → MoreNames R p ns q → (h : Held) → h.cover ≡ covers.Names →
      (k : Held) × All h p k q × (k.names ≡ h.names ++ ns) × (for_arrow k.cover ≡ true)
  names_in unclosed p _ _ (last_name s) h e = (h, cycle_end (no_comma p s), sym (append-nil h.names), ap for_arrow e)
  names_in unclosed p q _ (comma_behind_names t s) h e = (parameters_alone h, cycle_turn (saw t) (closing_comma t (ap is_names e) s) (cycle_end (no_comma q s)), sym (append-nil h.names), refl)
  names_in unclosed p q _ (further_name {a = a} {b = b} {x = x} {n = n} {ns = ns} t r i l) h e =
      let j = offer_names (bare_name x) h (node_from kinds.Comma h.part (h.part ∷ x ∷ []) b) n i in
      let (k, m, d, f) = names_in unclosed (one_more b) q ns l (joined h x b) (ap (λ (g : Held). g.cover) j ∙ e) in (
        k,
        cycle_turn (saw t) (item_behind t (and_false (is_names h.cover) (is classes.ParenClose a.rest) (unclosed a x b r)) r) m,
        d ∙ ap (λ (g : Held). g.names ++ ns) j ∙ append_assoc h.names (n ∷ []) ns,
        f,
      )

  -- ---- expressions with `,` between

  chain_out : (h k : Held) (p q : Spot) → All h p k q → for_expression k.cover ≡ true → Chain (is classes.Comma) (CommaBehind R) h.part p k.part q
  chain_out h _ p _ (cycle_end s) f = chain_end s
  chain_out h k p q (cycle_turn {a = a} s (item_behind {y = y} {b = b} t g r) m) f =
      chain_step s (comma_behind t r) (subst (λ (x : Part). Chain (is classes.Comma) (CommaBehind R) x a k.part q) (offer_part (bare_name y) h (node_from kinds.Comma h.part (h.part ∷ y ∷ []) b)) (chain_out (joined h y b) k a q m f))
  chain_out h k p q (cycle_turn {a = a} s (closing_comma t n u) m) f =
      let (d, l) = at_close (parameters_alone h) k a q m u in
      absurd (let none : false ≡ true = sym (ap (λ (x : Held). for_expression x.cover) d) ∙ f in cc)

  chain_in : Unclosed R → (x y : Part) (p q : Spot) → Chain (is classes.Comma) (CommaBehind R) x p y q → (h : Held) → h.part ≡ x → for_expression h.cover ≡ true →
      (k : Held) × All h p k q × (k.part ≡ y) × (for_expression k.cover ≡ true)
  chain_in unclosed x _ p _ (chain_end s) h e f = (h, cycle_end s, e, f)
  chain_in unclosed x z p q (chain_step {y = g} {a = a} s (comma_behind {y = y} {a = b} {q = c} t r) m) h e f =
      let n = node_from kinds.Comma h.part (h.part ∷ y ∷ []) c in
      let (k, l, i, d) = chain_in unclosed g z a q m (joined h y c) (offer_part (bare_name y) h n ∙ ap (λ (v : Part). node_from kinds.Comma v (v ∷ y ∷ []) c) e) (offer_cover (bare_name y) h n f) in
      (k, cycle_turn (saw t) (item_behind t (and_false (is_names h.cover) (is classes.ParenClose b.rest) (unclosed b y c r)) r) l, i, d)

  -- ---- all that stands behind the `(`

  first_named : (x : Part) (n : Named) → bare_name x ≡ Some n → first_held x ≡ record { cover = covers.Names; names = n ∷ []; part = x }
  first_named x n i = offer_names (bare_name x) (record { cover = covers.Names; names = []; part = x }) x n i

  pub arrow_names_in : Unclosed R → (p q : Spot) (ns : List Named) → ArrowNames R p ns q →
      (o : Option Held) × Inner p o q × (names_held o ≡ ns) × (for_arrow (cover_held o) ≡ true)
  arrow_names_in unclosed p _ _ (no_names s) = (None, no_items s, refl, refl)
  arrow_names_in unclosed p q _ (some_names {a = a} {x = x} {n = n} {ns = ns} r i l) =
      let j = first_named x n i in
      let (k, m, d, f) = names_in unclosed a q ns l (first_held x) (ap (λ (g : Held). g.cover) j) in
      (Some k, some_items (unclosed p x a r) r m, d ∙ ap (λ (g : Held). g.names ++ ns) j, f)

  pub arrow_names_out : (p q : Spot) (o : Option Held) → Inner p o q → for_arrow (cover_held o) ≡ true → Sees (is classes.ParenClose) q → ArrowNames R p (names_held o) q
  arrow_names_out p _ _ (no_items s) f u = no_names s
  arrow_names_out p q _ (some_items {x = x} {h = k} {a = a} s r m) f u = named (bare_name x) refl
    where
      named : (o : Option Named) → bare_name x ≡ o → ArrowNames R p k.names q
      named None i = absurd (no_arrow_there k.cover f (stays_expressions (first_held x) k a q m (ap (λ (o : Option Named). (offer_of o (record { cover = covers.Names; names = []; part = x }) x).cover) i)))
      named (Some n) i =
          let j = first_named x n i in
          let (ns, l, d) = names_out (first_held x) k a q m f u (ap (λ (g : Held). g.cover) j) in
          subst (λ (ms : List Named). ArrowNames R p ms q) (sym (d ∙ ap (λ (g : Held). g.names ++ ns) j)) (some_names r i l)

  pub list_in : Unclosed R → (p : Spot) (y : Part) (q : Spot) → ExpressionList R p y q →
      (h : Held) × Inner p (Some h) q × (h.part ≡ y) × (for_expression h.cover ≡ true)
  list_in unclosed p y q (expression_list {a = a} {x = x} r c) =
      let h : Held = record { cover = covers.Names; names = []; part = x } in
      let (k, m, d, f) = chain_in unclosed x y a q c (first_held x) (offer_part (bare_name x) h x) (offer_cover (bare_name x) h x refl) in
      (k, some_items (unclosed p x a r) r m, d, f)

  pub list_out : (p q : Spot) (h : Held) → Inner p (Some h) q → for_expression h.cover ≡ true → ExpressionList R p h.part q
  list_out p q h (some_items {x = x} {a = a} s r m) f =
      expression_list r (subst (λ (y : Part). Chain (is classes.Comma) (CommaBehind R) y a h.part q) (offer_part (bare_name x) (record { cover = covers.Names; names = []; part = x }) x) (chain_out (first_held x) h a q m f))
