-- The rules of statements and items choose as their cases do, by the token in view.
use Rattle.std.proofs.Common.{◌≡◌, true, false, List, [], ◌∷◌, refl, sym, ap, ◌∙◌, subst}
use Rattle.js_syntax.specs.declared.kind.Kind.TheVariants as kinds
use Rattle.parser_rules.specs.declared.class.Class.{Class}
use Rattle.parser_rules.specs.declared.class.Class.TheVariants as classes
use Rattle.parser_rules.specs.declared.form.Form.{Form}
use Rattle.parser_rules.specs.Classes.{is_one_of}
use Rattle.parser_rules.specs.Work.{Part, Work, State, going, opened}
use Rattle.parser_rules.specs.Rules.{Rule, run, act, ◌▸◌, either, refuse, sees, after, close}
use Rattle.parser_rules.specs.Expressions.{token, expression_list, item_list, declared_name, own_name, parameters, body}
use Rattle.parser_rules.specs.Statements as rules
use Rattle.parser_rules.proofs.Laws.{Inside, Still}
use Rattle.js_grammar.specs.Spots.{Spot, Reading, Named, Takes, is, among, one_more, node, named_at, with_name, with_names, Sees}
use Rattle.js_grammar.specs.Expressions.{ExpressionList, Declares, declares, Parameters, Items, Body}
use Rattle.js_grammar.specs.Statements.{declared, BlockForm, block, StatementForm, empty, block_statement, if_statement, while_statement, for_statement, break_statement, continue_statement, return_statement, throw_statement, try_catch, try_finally, expression_statement, ItemForm, let_declaration, const_declaration, function_declaration, statement_item}
use Rattle.js_grammar.proofs.Same.{spot_of, moved, gives, a_part, a_name, an_entry, each, Read, read, stands, Same, then_read, as_read, either_first, either_second, either_read, refuse_read}
use Rattle.js_grammar.proofs.Same as same
use Rattle.js_grammar.proofs.Nodes.{names_given}
use Rattle.js_grammar.proofs.Apart.{other_of, among_more}
use Rattle.js_grammar.proofs.Tests.{among_of}
use Rattle.js_grammar.proofs.Steps.{token_goes, token_read, saw}
use Rattle.js_grammar.proofs.Lists.{own_name_same}
use Rattle.js_grammar.proofs.Declarations.{ends_goes, ends_is, let_bindings, const_bindings, lets_same, consts_same, closed_declared, bindings_begin}
use Rattle.js_grammar.proofs.Compound as one

-- the rule of statements from each of its choices on
abbrev from_expression : Rule
from_expression = either (sees rules.begins_expression_statement) rules.expression_statement refuse

abbrev from_throw : Rule
from_throw = either (sees (classes.Throw ∷ [])) rules.throw_statement from_expression

abbrev from_return : Rule
from_return = either (sees (classes.Return ∷ [])) rules.return_statement from_throw

abbrev from_continue : Rule
from_continue = either (sees (classes.Continue ∷ [])) (rules.jump kinds.Continue classes.Continue) from_return

abbrev from_try : Rule
from_try = either (sees (classes.Try ∷ [])) rules.try_statement rules.simple_statement

abbrev from_for : Rule
from_for = either (sees (classes.For ∷ [])) rules.for_statement from_try

abbrev from_while : Rule
from_while = either (sees (classes.While ∷ [])) rules.while_statement from_for

abbrev from_if : Rule
from_if = either (sees (classes.If ∷ [])) rules.if_statement from_while

abbrev from_brace : Rule
from_brace = either (sees (classes.BraceOpen ∷ [])) rules.block from_if

module _ (at : Form → State → State) (eats : Inside at) (still : (form : Form) → Still (at form)) (R : Form → Reading Part) (within : (form : Form) → Same a_part (at form) (R form))
    (list : Same a_part (run at expression_list) (ExpressionList R)) (name : Same a_name (run at declared_name) Declares) (items : Same (each a_part) (run at item_list) (Items R)) where
  skip : (d : Class) (cs : List Class) (first second : Rule) (w : Work) → is_one_of d cs ≡ false → among cs w.rest ≡ true → run at (either (sees (d ∷ [])) first second) (going w) ≡ run at second (going w)
  skip d cs first second w e h = either_second at still (sees (d ∷ [])) first second w (other_of d cs w.rest e h)

  -- none of the first six words of statements is in view
  record Simple (cs : List Class) : Type 0 where
    no_semicolon : is_one_of classes.Semicolon cs ≡ false
    no_braceopen : is_one_of classes.BraceOpen cs ≡ false
    no_if : is_one_of classes.If cs ≡ false
    no_while : is_one_of classes.While cs ≡ false
    no_for : is_one_of classes.For cs ≡ false
    no_try : is_one_of classes.Try cs ≡ false

  to_simple : (cs : List Class) (w : Work) → Simple cs → among cs w.rest ≡ true → run at rules.statement (going w) ≡ run at rules.simple_statement (going w)
  unfolding rules.statement
  to_simple cs w n h =
      skip classes.Semicolon cs rules.empty_statement from_brace w n.no_semicolon h
      ∙ skip classes.BraceOpen cs rules.block from_if w n.no_braceopen h
      ∙ skip classes.If cs rules.if_statement from_while w n.no_if h
      ∙ skip classes.While cs rules.while_statement from_for w n.no_while h
      ∙ skip classes.For cs rules.for_statement from_try w n.no_for h
      ∙ skip classes.Try cs rules.try_statement rules.simple_statement w n.no_try h

  block_begins : (p : Spot) (x : Part) (q : Spot) → BlockForm R p x q → Sees (is classes.BraceOpen) p
  block_begins p _ _ (block t i u) = saw t

  statement_goes : (w : Work) (x : Part) (q : Spot) → StatementForm R (spot_of w) x q → run at rules.statement (going w) ≡ going (gives a_part w x q)
  unfolding rules.statement rules.simple_statement
  statement_goes w _ _ (empty {q = q} t) =
      either_first at still (sees (classes.Semicolon ∷ [])) rules.empty_statement from_brace w (saw t)
      ∙ one.empty_goes at eats still R within list name items w q t
  statement_goes w x q (block_statement b) =
      let h = block_begins (spot_of w) x q b in
      skip classes.Semicolon (classes.BraceOpen ∷ []) rules.empty_statement from_brace w refl h
      ∙ either_first at still (sees (classes.BraceOpen ∷ [])) rules.block from_if w h
      ∙ (one.block_same at eats still R within list name items).complete w x q b
  statement_goes w _ _ (if_statement {a = a} {b = b} {c = c} {q = q} {e = e} {x = x} {y = y} t d s l) =
      skip classes.Semicolon (classes.If ∷ []) rules.empty_statement from_brace w refl (saw t)
      ∙ skip classes.BraceOpen (classes.If ∷ []) rules.block from_if w refl (saw t)
      ∙ either_first at still (sees (classes.If ∷ [])) rules.if_statement from_while w (saw t)
      ∙ one.if_goes at eats still R within list name items w e x y a b c q t d s l
  statement_goes w _ _ (while_statement {a = a} {b = b} {q = q} {e = e} {x = x} t d s) =
      skip classes.Semicolon (classes.While ∷ []) rules.empty_statement from_brace w refl (saw t)
      ∙ skip classes.BraceOpen (classes.While ∷ []) rules.block from_if w refl (saw t)
      ∙ skip classes.If (classes.While ∷ []) rules.if_statement from_while w refl (saw t)
      ∙ either_first at still (sees (classes.While ∷ [])) rules.while_statement from_for w (saw t)
      ∙ one.while_goes at eats still R within list name items w e x a b q t d s
  statement_goes w _ _ (for_statement {a = a} {b = b} {c = c} {d = d} {e = e} {f = f} {g = g} {h = h} {q = q} {i = i} {t = k} {u = u} {x = x} t k2 r k3 r2 k4 r3 k5 s) =
      skip classes.Semicolon (classes.For ∷ []) rules.empty_statement from_brace w refl (saw t)
      ∙ skip classes.BraceOpen (classes.For ∷ []) rules.block from_if w refl (saw t)
      ∙ skip classes.If (classes.For ∷ []) rules.if_statement from_while w refl (saw t)
      ∙ skip classes.While (classes.For ∷ []) rules.while_statement from_for w refl (saw t)
      ∙ either_first at still (sees (classes.For ∷ [])) rules.for_statement from_try w (saw t)
      ∙ one.for_goes at eats still R within list name items w i k u x a b c d e f g h q t k2 r k3 r2 k4 r3 k5 s
  statement_goes w _ _ (break_statement {a = a} {q = q} t j) =
      to_simple (classes.Break ∷ []) w (record { no_semicolon = refl; no_braceopen = refl; no_if = refl; no_while = refl; no_for = refl; no_try = refl }) (saw t)
      ∙ either_first at still (sees (classes.Break ∷ [])) (rules.jump kinds.Break classes.Break) from_continue w (saw t)
      ∙ one.jump_goes at eats still R within list name items kinds.Break classes.Break w a q t j
  statement_goes w _ _ (continue_statement {a = a} {q = q} t j) =
      to_simple (classes.Continue ∷ []) w (record { no_semicolon = refl; no_braceopen = refl; no_if = refl; no_while = refl; no_for = refl; no_try = refl }) (saw t)
      ∙ skip classes.Break (classes.Continue ∷ []) (rules.jump kinds.Break classes.Break) from_continue w refl (saw t)
      ∙ either_first at still (sees (classes.Continue ∷ [])) (rules.jump kinds.Continue classes.Continue) from_return w (saw t)
      ∙ one.jump_goes at eats still R within list name items kinds.Continue classes.Continue w a q t j
  statement_goes w _ _ (return_statement {a = a} {q = q} {x = x} t r) =
      to_simple (classes.Return ∷ []) w (record { no_semicolon = refl; no_braceopen = refl; no_if = refl; no_while = refl; no_for = refl; no_try = refl }) (saw t)
      ∙ skip classes.Break (classes.Return ∷ []) (rules.jump kinds.Break classes.Break) from_continue w refl (saw t)
      ∙ skip classes.Continue (classes.Return ∷ []) (rules.jump kinds.Continue classes.Continue) from_return w refl (saw t)
      ∙ either_first at still (sees (classes.Return ∷ [])) rules.return_statement from_throw w (saw t)
      ∙ one.return_goes at eats still R within list name items w x a q t r
  statement_goes w _ _ (throw_statement {a = a} {b = b} {q = q} {x = x} t h l e) =
      to_simple (classes.Throw ∷ []) w (record { no_semicolon = refl; no_braceopen = refl; no_if = refl; no_while = refl; no_for = refl; no_try = refl }) (saw t)
      ∙ skip classes.Break (classes.Throw ∷ []) (rules.jump kinds.Break classes.Break) from_continue w refl (saw t)
      ∙ skip classes.Continue (classes.Throw ∷ []) (rules.jump kinds.Continue classes.Continue) from_return w refl (saw t)
      ∙ skip classes.Return (classes.Throw ∷ []) rules.return_statement from_throw w refl (saw t)
      ∙ either_first at still (sees (classes.Throw ∷ [])) rules.throw_statement from_expression w (saw t)
      ∙ one.throw_goes at eats still R within list name items w x a b q t h l e
  statement_goes w _ _ (try_catch {a = a} {b = b} {c = c} {d = d} {e = e} {q = q} {x = x} {y = y} {z = z} {o = o} t k u n m f) =
      skip classes.Semicolon (classes.Try ∷ []) rules.empty_statement from_brace w refl (saw t)
      ∙ skip classes.BraceOpen (classes.Try ∷ []) rules.block from_if w refl (saw t)
      ∙ skip classes.If (classes.Try ∷ []) rules.if_statement from_while w refl (saw t)
      ∙ skip classes.While (classes.Try ∷ []) rules.while_statement from_for w refl (saw t)
      ∙ skip classes.For (classes.Try ∷ []) rules.for_statement from_try w refl (saw t)
      ∙ either_first at still (sees (classes.Try ∷ [])) rules.try_statement rules.simple_statement w (saw t)
      ∙ one.catch_goes at eats still R within list name items w x y z o a b c d e q t k u n m f
  statement_goes w _ _ (try_finally {a = a} {b = b} {q = q} {x = x} {z = z} t k f) =
      skip classes.Semicolon (classes.Try ∷ []) rules.empty_statement from_brace w refl (saw t)
      ∙ skip classes.BraceOpen (classes.Try ∷ []) rules.block from_if w refl (saw t)
      ∙ skip classes.If (classes.Try ∷ []) rules.if_statement from_while w refl (saw t)
      ∙ skip classes.While (classes.Try ∷ []) rules.while_statement from_for w refl (saw t)
      ∙ skip classes.For (classes.Try ∷ []) rules.for_statement from_try w refl (saw t)
      ∙ either_first at still (sees (classes.Try ∷ [])) rules.try_statement rules.simple_statement w (saw t)
      ∙ one.finally_goes at eats still R within list name items w x z a b q t k f
  statement_goes w _ _ (expression_statement {a = a} {q = q} {x = x} h l e) =
      to_simple rules.begins_expression_statement w (record { no_semicolon = refl; no_braceopen = refl; no_if = refl; no_while = refl; no_for = refl; no_try = refl }) h
      ∙ skip classes.Break rules.begins_expression_statement (rules.jump kinds.Break classes.Break) from_continue w refl h
      ∙ skip classes.Continue rules.begins_expression_statement (rules.jump kinds.Continue classes.Continue) from_return w refl h
      ∙ skip classes.Return rules.begins_expression_statement rules.return_statement from_throw w refl h
      ∙ skip classes.Throw rules.begins_expression_statement rules.throw_statement from_expression w refl h
      ∙ either_first at still (sees rules.begins_expression_statement) rules.expression_statement refuse w h
      ∙ one.expression_goes at eats still R within list name items w x a q l e

  abbrev Reads : Work → State → Type 0
  Reads w s = Read (gives a_part w) (StatementForm R (spot_of w)) s

  simple_is : (w : Work) → Reads w (run at rules.simple_statement (going w))
  unfolding rules.simple_statement
  simple_is w =
      either_read at still (sees (classes.Break ∷ [])) (rules.jump kinds.Break classes.Break) from_continue w (λ h. one.jump_is at eats still R within list name items kinds.Break classes.Break w (λ a q t j. break_statement t j)) (λ _.
      either_read at still (sees (classes.Continue ∷ [])) (rules.jump kinds.Continue classes.Continue) from_return w (λ h. one.jump_is at eats still R within list name items kinds.Continue classes.Continue w (λ a q t j. continue_statement t j)) (λ _.
      either_read at still (sees (classes.Return ∷ [])) rules.return_statement from_throw w (λ h. one.return_is at eats still R within list name items w) (λ _.
      either_read at still (sees (classes.Throw ∷ [])) rules.throw_statement from_expression w (λ h. one.throw_is at eats still R within list name items w) (λ _.
      either_read at still (sees rules.begins_expression_statement) rules.expression_statement refuse w (λ h. one.expression_is at eats still R within list name items w h) (λ h. refuse_read at still w)))))

  statement_is : (w : Work) → Reads w (run at rules.statement (going w))
  unfolding rules.statement
  statement_is w =
      either_read at still (sees (classes.Semicolon ∷ [])) rules.empty_statement from_brace w (λ h. one.empty_is at eats still R within list name items w) (λ _.
      either_read at still (sees (classes.BraceOpen ∷ [])) rules.block from_if w (λ h. as_read at still _ ((one.block_same at eats still R within list name items).sound w) (λ x q b. read {x = x} {q = q} (block_statement b))) (λ _.
      either_read at still (sees (classes.If ∷ [])) rules.if_statement from_while w (λ h. one.if_is at eats still R within list name items w) (λ _.
      either_read at still (sees (classes.While ∷ [])) rules.while_statement from_for w (λ h. one.while_is at eats still R within list name items w) (λ _.
      either_read at still (sees (classes.For ∷ [])) rules.for_statement from_try w (λ h. one.for_is at eats still R within list name items w) (λ _.
      either_read at still (sees (classes.Try ∷ [])) rules.try_statement rules.simple_statement w (λ h. one.try_is at eats still R within list name items w) (λ _.
      simple_is w))))))

  pub statement_same : Same a_part (run at rules.statement) (StatementForm R)
  statement_same = record { complete = statement_goes; sound = statement_is }

  -- ---- items

  -- what a statement begins with
  statement_begins : (p : Spot) (x : Part) (q : Spot) → StatementForm R p x q → Sees (among rules.statement_begins) p
  statement_begins p _ _ (empty t) = among_of classes.Semicolon rules.statement_begins p.rest (saw t)
  statement_begins p x q (block_statement b) = among_of classes.BraceOpen rules.statement_begins p.rest (block_begins p x q b)
  statement_begins p _ _ (if_statement t d s l) = among_of classes.If rules.statement_begins p.rest (saw t)
  statement_begins p _ _ (while_statement t d s) = among_of classes.While rules.statement_begins p.rest (saw t)
  statement_begins p _ _ (for_statement t k2 r k3 r2 k4 r3 k5 s) = among_of classes.For rules.statement_begins p.rest (saw t)
  statement_begins p _ _ (break_statement t j) = among_of classes.Break rules.statement_begins p.rest (saw t)
  statement_begins p _ _ (continue_statement t j) = among_of classes.Continue rules.statement_begins p.rest (saw t)
  statement_begins p _ _ (return_statement t r) = among_of classes.Return rules.statement_begins p.rest (saw t)
  statement_begins p _ _ (throw_statement t h l e) = among_of classes.Throw rules.statement_begins p.rest (saw t)
  statement_begins p _ _ (try_catch t k u n m f) = among_of classes.Try rules.statement_begins p.rest (saw t)
  statement_begins p _ _ (try_finally t k f) = among_of classes.Try rules.statement_begins p.rest (saw t)
  statement_begins p _ _ (expression_statement h l e) = among_more (classes.Semicolon ∷ classes.BraceOpen ∷ classes.If ∷ classes.While ∷ classes.For ∷ classes.Break ∷ classes.Continue ∷ classes.Return ∷ classes.Throw ∷ classes.Try ∷ []) rules.begins_expression_statement p.rest h

  module _ (named : Same (each a_name) (run at parameters) Parameters) (does : Same a_part (run at body) (Body R)) where
    closed_function : (w : Work) (n : Named) (ns : List Named) (x : Part) (b c q : Spot) →
        run at (act close) (going (gives a_part (gives (each a_name) (gives same.own_name (opened kinds.FunctionDecl w) n b) ns c) x q))
        ≡ going (gives a_part w (with_name n (with_names ns (node kinds.FunctionDecl (spot_of w) (x ∷ []) q))) (one_more q))
    unfolding after
    closed_function w n ns x b c q = rw (names_given (gives same.own_name (opened kinds.FunctionDecl w) n b).top ns) refl

    function_goes : (w : Work) (ns : List Named) (x : Part) (a b c q : Spot) → Takes (is classes.Function) (spot_of w) a → Takes (is classes.Name) a b → Parameters b ns c → Body R c x q →
        run at rules.function_declaration (going w) ≡ going (gives a_part w (with_name (named_at a) (with_names ns (node kinds.FunctionDecl (spot_of w) (x ∷ []) q))) (one_more q))
    unfolding rules.function_declaration after
    function_goes w ns x a b c q t u m d =
        let v = opened kinds.FunctionDecl w in
        let v1 = gives same.own_name v (named_at a) b in
        rw (token_goes at still classes.Function v a t, (own_name_same at eats still).complete (moved v a) (named_at a) b (declares u), named.complete v1 ns c m, does.complete (gives (each a_name) v1 ns c) x q d)
        (closed_function w (named_at a) ns x b c q)

    abbrev Gives : Work → State → Type 0
    Gives w s = Read (gives a_part w) (ItemForm R (spot_of w)) s

    function_is : (w : Work) → Gives w (run at rules.function_declaration (going w))
    unfolding rules.function_declaration after
    function_is w =
        let v = opened kinds.FunctionDecl w in
        then_read at still (token classes.Function) (own_name ▸ (parameters ▸ (body ▸ act close))) (going v) (token_read at still classes.Function v) (λ _ a t.
        then_read at still own_name (parameters ▸ (body ▸ act close)) (going (moved v a)) ((own_name_same at eats still).sound (moved v a)) (λ n b e.
        then_read at still parameters (body ▸ act close) (going (gives same.own_name v n b)) (named.sound (gives same.own_name v n b)) (λ ns c m.
        then_read at still body (act close) (going (gives (each a_name) (gives same.own_name v n b) ns c)) (does.sound (gives (each a_name) (gives same.own_name v n b) ns c)) (λ x q d.
        subst (λ (s : State). Gives w s) (sym (closed_function w n ns x b c q)) (found w n ns x a b c q t e m d)))))
      where
        found : (w : Work) (n : Named) (ns : List Named) (x : Part) (a b c q : Spot) → Takes (is classes.Function) (spot_of w) a → Declares a n b → Parameters b ns c → Body R c x q →
            Gives w (going (gives a_part w (with_name n (with_names ns (node kinds.FunctionDecl (spot_of w) (x ∷ []) q))) (one_more q)))
        found w _ ns x a b c q t (declares u) m d = read {x = with_name (named_at a) (with_names ns (node kinds.FunctionDecl (spot_of w) (x ∷ []) q))} {q = one_more q} (function_declaration t u m d)

    -- ---- which item it is

    abbrev from_function : Rule
    from_function = either (sees (classes.Function ∷ [])) rules.function_declaration rules.statement

    abbrev from_const : Rule
    from_const = either (sees (classes.Const ∷ [])) rules.const_declaration from_function

    item_goes : (w : Work) (x : Part) (q : Spot) → ItemForm R (spot_of w) x q → run at rules.item (going w) ≡ going (gives a_part w x q)
    unfolding rules.item rules.let_declaration rules.const_declaration rules.let_list rules.const_list after
    item_goes w _ _ (let_declaration {a = a} {q = q} {xs = xs} d e) =
        either_first at still (sees (classes.Let ∷ [])) rules.let_declaration from_const w (bindings_begin at eats still R within name classes.Let _ (spot_of w) xs a d)
        ∙ ap (λ (s : State). run at (rules.ends ▸ act close) s) ((lets_same at eats still R within name).complete (opened kinds.Let w) xs a d)
        ∙ ap (λ (s : State). run at (act close) s) (ends_goes at eats still (gives (each an_entry) (opened kinds.Let w) xs a) tt q e)
        ∙ closed_declared at eats still R within name kinds.Let w xs q
    item_goes w _ _ (const_declaration {a = a} {q = q} {xs = xs} d e) =
        let h = bindings_begin at eats still R within name classes.Const _ (spot_of w) xs a d in
        skip classes.Let (classes.Const ∷ []) rules.let_declaration from_const w refl h
        ∙ either_first at still (sees (classes.Const ∷ [])) rules.const_declaration from_function w h
        ∙ ap (λ (s : State). run at (rules.ends ▸ act close) s) ((consts_same at eats still R within name).complete (opened kinds.Const w) xs a d)
        ∙ ap (λ (s : State). run at (act close) s) (ends_goes at eats still (gives (each an_entry) (opened kinds.Const w) xs a) tt q e)
        ∙ closed_declared at eats still R within name kinds.Const w xs q
    item_goes w _ _ (function_declaration {a = a} {b = b} {c = c} {q = q} {ns = ns} {x = x} t u m d) =
        skip classes.Let (classes.Function ∷ []) rules.let_declaration from_const w refl (saw t)
        ∙ skip classes.Const (classes.Function ∷ []) rules.const_declaration from_function w refl (saw t)
        ∙ either_first at still (sees (classes.Function ∷ [])) rules.function_declaration rules.statement w (saw t)
        ∙ function_goes w ns x a b c q t u m d
    item_goes w x q (statement_item s) =
        let h = statement_begins (spot_of w) x q s in
        skip classes.Let rules.statement_begins rules.let_declaration from_const w refl h
        ∙ skip classes.Const rules.statement_begins rules.const_declaration from_function w refl h
        ∙ skip classes.Function rules.statement_begins rules.function_declaration rules.statement w refl h
        ∙ statement_goes w x q s

    let_is : (w : Work) → Gives w (run at rules.let_declaration (going w))
    unfolding rules.let_declaration rules.let_list after
    let_is w =
        then_read at still let_bindings (rules.ends ▸ act close) (going (opened kinds.Let w)) ((lets_same at eats still R within name).sound (opened kinds.Let w)) (λ xs a d.
        then_read at still rules.ends (act close) (going (gives (each an_entry) (opened kinds.Let w) xs a)) (ends_is at eats still (gives (each an_entry) (opened kinds.Let w) xs a)) (λ _ q e.
        subst (λ (s : State). Gives w s) (sym (closed_declared at eats still R within name kinds.Let w xs q)) (read {x = declared R kinds.Let (spot_of w) xs q} {q = one_more q} (let_declaration d e))))

    const_is : (w : Work) → Gives w (run at rules.const_declaration (going w))
    unfolding rules.const_declaration rules.const_list after
    const_is w =
        then_read at still const_bindings (rules.ends ▸ act close) (going (opened kinds.Const w)) ((consts_same at eats still R within name).sound (opened kinds.Const w)) (λ xs a d.
        then_read at still rules.ends (act close) (going (gives (each an_entry) (opened kinds.Const w) xs a)) (ends_is at eats still (gives (each an_entry) (opened kinds.Const w) xs a)) (λ _ q e.
        subst (λ (s : State). Gives w s) (sym (closed_declared at eats still R within name kinds.Const w xs q)) (read {x = declared R kinds.Const (spot_of w) xs q} {q = one_more q} (const_declaration d e))))

    item_is : (w : Work) → Gives w (run at rules.item (going w))
    unfolding rules.item
    item_is w =
        either_read at still (sees (classes.Let ∷ [])) rules.let_declaration from_const w (λ h. let_is w) (λ _.
        either_read at still (sees (classes.Const ∷ [])) rules.const_declaration from_function w (λ h. const_is w) (λ _.
        either_read at still (sees (classes.Function ∷ [])) rules.function_declaration rules.statement w (λ h. function_is w) (λ _.
        as_read at still _ (statement_is w) (λ x q s. read {x = x} {q = q} (statement_item s)))))

    pub item_same : Same a_part (run at rules.item) (ItemForm R)
    item_same = record { complete = item_goes; sound = item_is }
