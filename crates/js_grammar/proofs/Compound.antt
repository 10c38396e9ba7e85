-- The rule of each statement reads what its case reads.
use Rattle.std.proofs.Common.{◌≡◌, true, false, [], ◌∷◌, inl, inr, Option, None, Some, refl, sym, ap, subst}
use Rattle.std.proofs.lemmas.Bool.{cases_Bool}
use Rattle.js_syntax.specs.declared.kind.Kind.{Kind}
use Rattle.js_syntax.specs.declared.kind.Kind.TheVariants as kinds
use Rattle.parser_rules.specs.declared.class.Class.{Class}
use Rattle.parser_rules.specs.declared.class.Class.TheVariants as classes
use Rattle.parser_rules.specs.declared.form.Form.{Form}
use Rattle.parser_rules.specs.declared.form.Form.TheVariants as forms
use Rattle.parser_rules.specs.Work.{Part, Work, State, going, opened, omitted}
use Rattle.parser_rules.specs.Rules.{Rule, run, act, ◌▸◌, either, inside, refuse, sees, after_line, is_line, after, close}
use Rattle.parser_rules.specs.Expressions.{token, expression_list, item_list, declared_name}
use Rattle.parser_rules.specs.Statements as rules
use Rattle.parser_rules.proofs.Laws.{Inside, Still}
use Rattle.js_grammar.specs.Spots.{Spot, Reading, Named, Takes, is, among, one_more, absent, node, with_name_if_any, Sees, SeesNot}
use Rattle.js_grammar.specs.Expressions.{ExpressionList, Declares, Items}
use Rattle.js_grammar.specs.Statements.{Ends, JumpEnds, Condition, Alternative, ExpressionBefore, ForStart, Returned, CatchName, Finaliser, FinaliserIfAny, BlockForm, block, StatementForm, empty, if_statement, while_statement, for_statement, return_statement, throw_statement, try_catch, try_finally, expression_statement}
use Rattle.js_grammar.proofs.Same.{spot_of, moved, gives, a_part, a_name, own_name_if_any, each, Read, read, Same, then_read, as_read, either_first, either_second, either_read, refuse_read}
use Rattle.js_grammar.proofs.Apart.{other_of}
use Rattle.js_grammar.proofs.Steps.{token_goes, token_read, saw}
use Rattle.js_grammar.proofs.Lists.{closes_parts}
use Rattle.js_grammar.proofs.Declarations.{ends_goes, ends_is}
use Rattle.js_grammar.proofs.Statements as parts

module _ (at : Form → State → State) (eats : Inside at) (still : (form : Form) → Still (at form)) (R : Form → Reading Part) (within : (form : Form) → Same a_part (at form) (R form))
    (list : Same a_part (run at expression_list) (ExpressionList R)) (name : Same a_name (run at declared_name) Declares) (items : Same (each a_part) (run at item_list) (Items R)) where
  abbrev Reads : Work → State → Type 0
  Reads w s = Read (gives a_part w) (StatementForm R (spot_of w)) s

  -- ---- empty statements and blocks

  pub empty_goes : (w : Work) (q : Spot) → Takes (is classes.Semicolon) (spot_of w) q → run at rules.empty_statement (going w) ≡ going (gives a_part w (node kinds.Empty (spot_of w) [] q) (one_more q))
  unfolding rules.empty_statement after
  empty_goes w q t = rw (token_goes at still classes.Semicolon (opened kinds.Empty w) q t) refl

  pub empty_is : (w : Work) → Reads w (run at rules.empty_statement (going w))
  unfolding rules.empty_statement after
  empty_is w =
      let v = opened kinds.Empty w in
      then_read at still (token classes.Semicolon) (act close) (going v) (token_read at still classes.Semicolon v) (λ _ q t. read {x = node kinds.Empty (spot_of w) [] q} {q = one_more q} (empty t))

  block_goes : (w : Work) (x : Part) (q : Spot) → BlockForm R (spot_of w) x q → run at rules.block (going w) ≡ going (gives a_part w x q)
  unfolding rules.block after
  block_goes w _ _ (block {a = a} {b = b} {q = q} {xs = xs} t i u) =
      let v = opened kinds.Block w in
      rw (token_goes at still classes.BraceOpen v a t, items.complete (moved v a) xs b i, token_goes at still classes.BraceClose (gives (each a_part) v xs b) q u) (closes_parts w kinds.Block xs q)

  block_is : (w : Work) → Read (gives a_part w) (BlockForm R (spot_of w)) (run at rules.block (going w))
  unfolding rules.block after
  block_is w =
      let v = opened kinds.Block w in
      then_read at still (token classes.BraceOpen) (item_list ▸ (token classes.BraceClose ▸ act close)) (going v) (token_read at still classes.BraceOpen v) (λ _ a t.
      then_read at still item_list (token classes.BraceClose ▸ act close) (going (moved v a)) (items.sound (moved v a)) (λ xs b i.
      then_read at still (token classes.BraceClose) (act close) (going (gives (each a_part) v xs b)) (token_read at still classes.BraceClose (gives (each a_part) v xs b)) (λ _ q u.
      subst (λ (s : State). Read (gives a_part w) (BlockForm R (spot_of w)) s) (sym (closes_parts w kinds.Block xs q)) (read {x = node kinds.Block (spot_of w) xs q} {q = one_more q} (block t i u)))))

  pub block_same : Same a_part (run at rules.block) (BlockForm R)
  block_same = record { complete = block_goes; sound = block_is }

  -- ---- conditions and loops

  pub if_goes : (w : Work) (e x y : Part) (a b c q : Spot) → Takes (is classes.If) (spot_of w) a → Condition R a e b → R forms.Statement b x c → Alternative R c y q →
      run at rules.if_statement (going w) ≡ going (gives a_part w (node kinds.If (spot_of w) (e ∷ x ∷ y ∷ []) q) (one_more q))
  unfolding rules.if_statement after
  if_goes w e x y a b c q t d s l =
      let v = opened kinds.If w in
      rw (
        token_goes at still classes.If v a t,
        (parts.condition_same at eats still R within list name).complete (moved v a) e b d,
        (within forms.Statement).complete (gives a_part (moved v a) e b) x c s,
        (parts.alternative_same at eats still R within list name).complete (gives a_part (gives a_part (moved v a) e b) x c) y q l,
      ) refl

  pub if_is : (w : Work) → Reads w (run at rules.if_statement (going w))
  unfolding rules.if_statement after
  if_is w =
      let v = opened kinds.If w in
      then_read at still (token classes.If) (rules.condition ▸ (inside forms.Statement ▸ (rules.alternative ▸ act close))) (going v) (token_read at still classes.If v) (λ _ a t.
      then_read at still rules.condition (inside forms.Statement ▸ (rules.alternative ▸ act close)) (going (moved v a)) ((parts.condition_same at eats still R within list name).sound (moved v a)) (λ e b d.
      then_read at still (inside forms.Statement) (rules.alternative ▸ act close) (going (gives a_part v e b)) ((within forms.Statement).sound (gives a_part v e b)) (λ x c s.
      then_read at still rules.alternative (act close) (going (gives a_part (gives a_part v e b) x c)) ((parts.alternative_same at eats still R within list name).sound (gives a_part (gives a_part v e b) x c)) (λ y q l.
      read {x = node kinds.If (spot_of w) (e ∷ x ∷ y ∷ []) q} {q = one_more q} (if_statement t d s l)))))

  pub while_goes : (w : Work) (e y : Part) (a b q : Spot) → Takes (is classes.While) (spot_of w) a → Condition R a e b → R forms.Statement b y q →
      run at rules.while_statement (going w) ≡ going (gives a_part w (node kinds.While (spot_of w) (e ∷ y ∷ []) q) (one_more q))
  unfolding rules.while_statement after
  while_goes w e y a b q t c s =
      let v = opened kinds.While w in
      rw (token_goes at still classes.While v a t, (parts.condition_same at eats still R within list name).complete (moved v a) e b c, (within forms.Statement).complete (gives a_part (moved v a) e b) y q s) refl

  pub while_is : (w : Work) → Reads w (run at rules.while_statement (going w))
  unfolding rules.while_statement after
  while_is w =
      let v = opened kinds.While w in
      then_read at still (token classes.While) (rules.condition ▸ (inside forms.Statement ▸ act close)) (going v) (token_read at still classes.While v) (λ _ a t.
      then_read at still rules.condition (inside forms.Statement ▸ act close) (going (moved v a)) ((parts.condition_same at eats still R within list name).sound (moved v a)) (λ e b c.
      then_read at still (inside forms.Statement) (act close) (going (gives a_part (moved v a) e b)) ((within forms.Statement).sound (gives a_part (moved v a) e b)) (λ y q s.
      read {x = node kinds.While (spot_of w) (e ∷ y ∷ []) q} {q = one_more q} (while_statement t c s))))

  pub for_goes : (w : Work) (i t u x : Part) (a b c d e f g h q : Spot) →
      Takes (is classes.For) (spot_of w) a → Takes (is classes.ParenOpen) a b → ForStart R b i c → Takes (is classes.Semicolon) c d → ExpressionBefore R classes.Semicolon d t e →
      Takes (is classes.Semicolon) e f → ExpressionBefore R classes.ParenClose f u g → Takes (is classes.ParenClose) g h → R forms.Statement h x q →
      run at rules.for_statement (going w) ≡ going (gives a_part w (node kinds.For (spot_of w) (i ∷ t ∷ u ∷ x ∷ []) q) (one_more q))
  unfolding rules.for_statement rules.for_head after
  for_goes w i t u x a b c d e f g h q k1 k2 r k3 r2 k4 r3 k5 s =
      let v = opened kinds.For w in
      let v1 = gives a_part v i c in
      let v2 = gives a_part v1 t e in
      let v3 = gives a_part v2 u g in
      rw (
        token_goes at still classes.For v a k1,
        token_goes at still classes.ParenOpen (moved v a) b k2,
        (parts.for_start_same at eats still R within list name).complete (moved v b) i c r,
        token_goes at still classes.Semicolon v1 d k3,
        (parts.before_same at eats still R within list name classes.Semicolon).complete (moved v1 d) t e r2,
        token_goes at still classes.Semicolon v2 f k4,
        (parts.before_same at eats still R within list name classes.ParenClose).complete (moved v2 f) u g r3,
        token_goes at still classes.ParenClose v3 h k5,
        (within forms.Statement).complete (moved v3 h) x q s,
      ) refl

  pub for_is : (w : Work) → Reads w (run at rules.for_statement (going w))
  unfolding rules.for_statement rules.for_head after
  for_is w =
      let v = opened kinds.For w in
      then_read at still (token classes.For) (token classes.ParenOpen ▸ (rules.for_start ▸ (token classes.Semicolon ▸ (rules.expression_before classes.Semicolon ▸ (token classes.Semicolon ▸ (rules.expression_before classes.ParenClose ▸ (token classes.ParenClose ▸ (inside forms.Statement ▸ act close))))))))
      (going v) (token_read at still classes.For v) (λ _ a k1.
      then_read at still (token classes.ParenOpen) (rules.for_start ▸ (token classes.Semicolon ▸ (rules.expression_before classes.Semicolon ▸ (token classes.Semicolon ▸ (rules.expression_before classes.ParenClose ▸ (token classes.ParenClose ▸ (inside forms.Statement ▸ act close)))))))
      (going (moved v a)) (token_read at still classes.ParenOpen (moved v a)) (λ _ b k2.
      then_read at still rules.for_start (token classes.Semicolon ▸ (rules.expression_before classes.Semicolon ▸ (token classes.Semicolon ▸ (rules.expression_before classes.ParenClose ▸ (token classes.ParenClose ▸ (inside forms.Statement ▸ act close))))))
      (going (moved v b)) ((parts.for_start_same at eats still R within list name).sound (moved v b)) (λ i c r.
      let v1 = gives a_part v i c in
      then_read at still (token classes.Semicolon) (rules.expression_before classes.Semicolon ▸ (token classes.Semicolon ▸ (rules.expression_before classes.ParenClose ▸ (token classes.ParenClose ▸ (inside forms.Statement ▸ act close)))))
      (going v1) (token_read at still classes.Semicolon v1) (λ _ d k3.
      then_read at still (rules.expression_before classes.Semicolon) (token classes.Semicolon ▸ (rules.expression_before classes.ParenClose ▸ (token classes.ParenClose ▸ (inside forms.Statement ▸ act close))))
      (going (moved v1 d)) ((parts.before_same at eats still R within list name classes.Semicolon).sound (moved v1 d)) (λ t e r2.
      let v2 = gives a_part v1 t e in
      then_read at still (token classes.Semicolon) (rules.expression_before classes.ParenClose ▸ (token classes.ParenClose ▸ (inside forms.Statement ▸ act close)))
      (going v2) (token_read at still classes.Semicolon v2) (λ _ f k4.
      then_read at still (rules.expression_before classes.ParenClose) (token classes.ParenClose ▸ (inside forms.Statement ▸ act close))
      (going (moved v2 f)) ((parts.before_same at eats still R within list name classes.ParenClose).sound (moved v2 f)) (λ u g r3.
      let v3 = gives a_part v2 u g in
      then_read at still (token classes.ParenClose) (inside forms.Statement ▸ act close) (going v3) (token_read at still classes.ParenClose v3) (λ _ h k5.
      then_read at still (inside forms.Statement) (act close) (going (moved v3 h)) ((within forms.Statement).sound (moved v3 h)) (λ x q s.
      read {x = node kinds.For (spot_of w) (i ∷ t ∷ u ∷ x ∷ []) q} {q = one_more q} (for_statement k1 k2 r k3 r2 k4 r3 k5 s))))))))))

  -- ---- jumps

  pub jump_goes : (kind : Kind) (c : Class) (w : Work) (a q : Spot) → Takes (is c) (spot_of w) a → JumpEnds a q → run at (rules.jump kind c) (going w) ≡ going (gives a_part w (node kind (spot_of w) [] q) (one_more q))
  unfolding rules.jump after
  jump_goes kind c w a q t j =
      let v = opened kind w in
      rw (token_goes at still c v a t, (parts.jump_same at eats still R within list name).complete (moved v a) tt q j) refl

  pub jump_is : (kind : Kind) (c : Class) (w : Work) → ((a q : Spot) → Takes (is c) (spot_of w) a → JumpEnds a q → StatementForm R (spot_of w) (node kind (spot_of w) [] q) (one_more q)) → Reads w (run at (rules.jump kind c) (going w))
  unfolding rules.jump after
  jump_is kind c w k =
      let v = opened kind w in
      then_read at still (token c) (rules.line_or_end ▸ act close) (going v) (token_read at still c v) (λ _ a t.
      then_read at still rules.line_or_end (act close) (going (moved v a)) ((parts.jump_same at eats still R within list name).sound (moved v a)) (λ _ q j.
      read {x = node kind (spot_of w) [] q} {q = one_more q} (k a q t j)))

  pub return_goes : (w : Work) (x : Part) (a q : Spot) → Takes (is classes.Return) (spot_of w) a → Returned R a x q →
      run at rules.return_statement (going w) ≡ going (gives a_part w (node kinds.Return (spot_of w) (x ∷ []) q) (one_more q))
  unfolding rules.return_statement after
  return_goes w x a q t r =
      let v = opened kinds.Return w in
      rw (token_goes at still classes.Return v a t, (parts.returned_same at eats still R within list name).complete (moved v a) x q r) refl

  pub return_is : (w : Work) → Reads w (run at rules.return_statement (going w))
  unfolding rules.return_statement after
  return_is w =
      let v = opened kinds.Return w in
      then_read at still (token classes.Return) (rules.returned ▸ act close) (going v) (token_read at still classes.Return v) (λ _ a t.
      then_read at still rules.returned (act close) (going (moved v a)) ((parts.returned_same at eats still R within list name).sound (moved v a)) (λ x q r.
      read {x = node kinds.Return (spot_of w) (x ∷ []) q} {q = one_more q} (return_statement t r)))

  pub throw_goes : (w : Work) (x : Part) (a b q : Spot) → Takes (is classes.Throw) (spot_of w) a → SeesNot is_line a → ExpressionList R a x b → Ends b q →
      run at rules.throw_statement (going w) ≡ going (gives a_part w (node kinds.Throw (spot_of w) (x ∷ []) q) (one_more q))
  unfolding rules.throw_statement rules.thrown rules.ended_expression rules.ends after
  throw_goes w x a b q t h l e =
      let v = opened kinds.Throw w in
      rw (token_goes at still classes.Throw v a t, either_second at still after_line refuse rules.ended_expression (moved v a) h, list.complete (moved v a) x b l, ends_goes at eats still (gives a_part v x b) tt q e) refl

  pub throw_is : (w : Work) → Reads w (run at rules.throw_statement (going w))
  unfolding rules.throw_statement rules.thrown rules.ended_expression after
  throw_is w =
      let v = opened kinds.Throw w in
      then_read at still (token classes.Throw) (rules.thrown ▸ act close) (going v) (token_read at still classes.Throw v) (λ _ a t.
      then_read at still rules.thrown (act close) (going (moved v a)) (thrown_is (moved v a)) (λ x q r. let (b, h, l, e) = r in
      read {x = node kinds.Throw (spot_of w) (x ∷ []) q} {q = one_more q} (throw_statement t h l e)))
    where
      thrown_is : (v : Work) → Read (gives a_part v) (λ x q. (b : Spot) × SeesNot is_line (spot_of v) × ExpressionList R (spot_of v) x b × Ends b q) (run at rules.thrown (going v))
      thrown_is v = either_read at still after_line refuse rules.ended_expression v (λ h. refuse_read at still v)
          (λ h. then_read at still expression_list rules.ends (going v) (list.sound v) (λ x b l.
          as_read at still _ (ends_is at eats still (gives a_part v x b)) (λ _ q e. read {x = x} {q = q} (b, h, l, e))))

  -- ---- `try`

  closed_try : (w : Work) (x y z : Part) (o : Option Named) (b d e q : Spot) →
      run at (act close) (going (gives a_part (gives a_part (gives own_name_if_any (gives a_part (opened kinds.Try w) x b) o d) y e) z q))
      ≡ going (gives a_part w (with_name_if_any o (node kinds.Try (spot_of w) (x ∷ y ∷ z ∷ []) q)) (one_more q))
  unfolding after
  closed_try w x y z None b d e q = refl
  closed_try w x y z (Some n) b d e q = refl

  pub catch_goes : (w : Work) (x y z : Part) (o : Option Named) (a b c d e q : Spot) →
      Takes (is classes.Try) (spot_of w) a → R forms.Block a x b → Takes (is classes.Catch) b c → CatchName R c o d → R forms.Block d y e → FinaliserIfAny R e z q →
      run at rules.try_statement (going w) ≡ going (gives a_part w (with_name_if_any o (node kinds.Try (spot_of w) (x ∷ y ∷ z ∷ []) q)) (one_more q))
  unfolding rules.try_statement rules.handlers rules.catch_clause rules.finaliser_if_any after
  catch_goes w x y z o a b c d e q t k u n m f =
      let v = gives a_part (opened kinds.Try w) x b in
      let v1 = gives own_name_if_any v o d in
      rw (
        token_goes at still classes.Try (opened kinds.Try w) a t,
        (within forms.Block).complete (moved (opened kinds.Try w) a) x b k,
        either_first at still (sees (classes.Catch ∷ [])) rules.catch_clause rules.only_finaliser v (saw u),
        token_goes at still classes.Catch v c u,
        (parts.catch_same at eats still R within list name).complete (moved v c) o d n,
        (within forms.Block).complete v1 y e m,
        (parts.if_any_same at eats still R within list name).complete (gives a_part v1 y e) z q f,
      ) (closed_try w x y z o b d e q)

  pub finally_goes : (w : Work) (x z : Part) (a b q : Spot) → Takes (is classes.Try) (spot_of w) a → R forms.Block a x b → Finaliser R (one_more b) z q →
      run at rules.try_statement (going w) ≡ going (gives a_part w (node kinds.Try (spot_of w) (x ∷ absent b ∷ z ∷ []) q) (one_more q))
  unfolding rules.try_statement rules.handlers rules.only_finaliser after
  finally_goes w x z a b q t k f =
      let v = gives a_part (opened kinds.Try w) x b in
      rw (
        token_goes at still classes.Try (opened kinds.Try w) a t,
        (within forms.Block).complete (moved (opened kinds.Try w) a) x b k,
        either_second at still (sees (classes.Catch ∷ [])) rules.catch_clause rules.only_finaliser v (other_of classes.Catch (classes.Finally ∷ []) b.rest refl (parts.finaliser_begins at eats still R within list name (one_more b) z q f)),
        (parts.finaliser_same at eats still R within list name).complete (omitted v) z q f,
      ) refl

  -- behind the first block
  catch_is : (w : Work) (x : Part) (a b : Spot) → Takes (is classes.Try) (spot_of w) a → R forms.Block a x b → Reads w (run at (rules.catch_clause ▸ act close) (going (gives a_part (opened kinds.Try w) x b)))
  unfolding rules.catch_clause
  catch_is w x a b t k =
      let v = gives a_part (opened kinds.Try w) x b in
      then_read at still (token classes.Catch) (rules.catch_name ▸ (inside forms.Block ▸ (rules.finaliser_if_any ▸ act close))) (going v) (token_read at still classes.Catch v) (λ _ c u.
      then_read at still rules.catch_name (inside forms.Block ▸ (rules.finaliser_if_any ▸ act close)) (going (moved v c)) ((parts.catch_same at eats still R within list name).sound (moved v c)) (λ o d n.
      let v1 = gives own_name_if_any v o d in
      then_read at still (inside forms.Block) (rules.finaliser_if_any ▸ act close) (going v1) ((within forms.Block).sound v1) (λ y e m.
      then_read at still rules.finaliser_if_any (act close) (going (gives a_part v1 y e)) ((parts.if_any_same at eats still R within list name).sound (gives a_part v1 y e)) (λ z q f.
      subst (λ (s : State). Reads w s) (sym (closed_try w x y z o b d e q)) (read {x = with_name_if_any o (node kinds.Try (spot_of w) (x ∷ y ∷ z ∷ []) q)} {q = one_more q} (try_catch t k u n m f))))))

  finally_is : (w : Work) (x : Part) (a b : Spot) → Takes (is classes.Try) (spot_of w) a → R forms.Block a x b → Reads w (run at (rules.only_finaliser ▸ act close) (going (gives a_part (opened kinds.Try w) x b)))
  unfolding rules.only_finaliser after
  finally_is w x a b t k =
      let v = omitted (gives a_part (opened kinds.Try w) x b) in
      then_read at still rules.finaliser (act close) (going v) ((parts.finaliser_same at eats still R within list name).sound v) (λ z q f.
      read {x = node kinds.Try (spot_of w) (x ∷ absent b ∷ z ∷ []) q} {q = one_more q} (try_finally t k f))

  -- what closes a choice closes what was chosen
  chosen_first : (c : Class) (first second last : Rule) (v : Work) → is c v.rest ≡ true → run at (either (sees (c ∷ [])) first second ▸ last) (going v) ≡ run at (first ▸ last) (going v)
  chosen_first c first second last v h = ap (λ (s : State). run at last s) (either_first at still (sees (c ∷ [])) first second v h)

  chosen_second : (c : Class) (first second last : Rule) (v : Work) → is c v.rest ≡ false → run at (either (sees (c ∷ [])) first second ▸ last) (going v) ≡ run at (second ▸ last) (going v)
  chosen_second c first second last v h = ap (λ (s : State). run at last s) (either_second at still (sees (c ∷ [])) first second v h)

  handled_is : (w : Work) (x : Part) (a b : Spot) → Takes (is classes.Try) (spot_of w) a → R forms.Block a x b → Reads w (run at (rules.handlers ▸ act close) (going (gives a_part (opened kinds.Try w) x b)))
  unfolding rules.handlers
  handled_is w x a b t k = elim (cases_Bool (is classes.Catch b.rest)) [
    | inl h ↦ subst (λ (s : State). Reads w s) (sym (chosen_first classes.Catch rules.catch_clause rules.only_finaliser (act close) (gives a_part (opened kinds.Try w) x b) h)) (catch_is w x a b t k)
    | inr h ↦ subst (λ (s : State). Reads w s) (sym (chosen_second classes.Catch rules.catch_clause rules.only_finaliser (act close) (gives a_part (opened kinds.Try w) x b) h)) (finally_is w x a b t k)
  ]

  pub try_is : (w : Work) → Reads w (run at rules.try_statement (going w))
  unfolding rules.try_statement after
  try_is w =
      let v = opened kinds.Try w in
      then_read at still (token classes.Try) (inside forms.Block ▸ (rules.handlers ▸ act close)) (going v) (token_read at still classes.Try v) (λ _ a t.
      then_read at still (inside forms.Block) (rules.handlers ▸ act close) (going (moved v a)) ((within forms.Block).sound (moved v a)) (λ x b k.
      handled_is w x a b t k))

  -- ---- expressions

  pub expression_goes : (w : Work) (x : Part) (a q : Spot) → ExpressionList R (spot_of w) x a → Ends a q →
      run at rules.expression_statement (going w) ≡ going (gives a_part w (node kinds.ExprStmt (spot_of w) (x ∷ []) q) (one_more q))
  unfolding rules.expression_statement rules.ended_expression after
  expression_goes w x a q l e =
      let v = opened kinds.ExprStmt w in
      rw (list.complete v x a l, ends_goes at eats still (gives a_part v x a) tt q e) refl

  pub expression_is : (w : Work) → Sees (among rules.begins_expression_statement) (spot_of w) → Reads w (run at rules.expression_statement (going w))
  unfolding rules.expression_statement rules.ended_expression after
  expression_is w h =
      let v = opened kinds.ExprStmt w in
      then_read at still expression_list (rules.ends ▸ act close) (going v) (list.sound v) (λ x a l.
      then_read at still rules.ends (act close) (going (gives a_part v x a)) (ends_is at eats still (gives a_part v x a)) (λ _ q e.
      read {x = node kinds.ExprStmt (spot_of w) (x ∷ []) q} {q = one_more q} (expression_statement h l e)))
