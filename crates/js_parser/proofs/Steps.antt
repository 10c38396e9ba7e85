-- What steps of a reader do to where it stands.
use Rattle.std.proofs.Common.{◌≡◌, ℕ, ◌+◌, ◌<◌, ◌≤◌, Bool, true, false, ◌&&◌, List, [], ◌∷◌, length, get_or, drop, pos, Option, Some, None, inl, inr, refl, sym, ap, ◌∙◌, arith, add-one, drop-cons}
use Rattle.std.specs.Prelude.{nat_lt}
use Rattle.std.proofs.lemmas.Bool.Decides.{nat_tests}
use Rattle.std.proofs.lemmas.Bool.{cases_Bool}
use Rattle.std.proofs.lemmas.List.{nil_from_length, length-drop}
use Rattle.js_lexer.specs.declared.token.Token.{Token}
use Rattle.js_lexer.specs.declared.token.TokenKind.TheVariants as tokens
use Rattle.parser_rules.specs.declared.class.Class.{Class}
use Rattle.parser_rules.specs.declared.form.Why.{Why}
use Rattle.parser_rules.specs.declared.form.Why.TheVariants.{Unexpected}
use Rattle.parser_rules.specs.Work.{Work, State, going, stuck}
use Rattle.parser_rules.specs.Rules.{Test, Action, passes, passes_on, after, work_after, take_one, taken, refused}
use Rattle.ivm_text.specs.declared.refusal.Refusal.{Refusal}
use Rattle.ivm_text.specs.declared.refusal.RefusalKind.{RefusalKind}
use Rattle.parser_rules.specs.declared.class.Class.TheVariants as classes
use Rattle.parser_rules.specs.declared.form.Form.{Form}
use Rattle.parser_rules.specs.Classes.{class_of}
use Rattle.parser_rules.specs.Grammar.{beyond, refused_at_limit, kind_of, word_of, refusal_at}
use Rattle.js_parser.specs.declared.builder.Builder.{Builder}
use Rattle.js_parser.specs.declared.reader.Reader.{Reader}
use Rattle.js_parser.specs.Changes.{work_in}
use Rattle.js_parser.specs.State.{state_of, state_from, rest_of}

pub passes_here : (r : Reader) (test : Test) → r.refused ≡ None → passes_on test (rest_of r) r.builder.top.cover ≡ passes test (state_of r)
unfolding state_of passes
passes_here r test e = sym (ap (λ (o : Option Why). passes test (state_from o (work_in (rest_of r) r.builder))) e)

pub passes_not : (r : Reader) (test : Test) (why : Why) → r.refused ≡ Some why → false ≡ passes test (state_of r)
unfolding state_of passes
passes_not r test why e = sym (ap (λ (o : Option Why). passes test (state_from o (work_in (rest_of r) r.builder))) e)

-- ---- actions

pub act_stuck : (r : Reader) (action : Action) (why : Why) → r.refused ≡ Some why → state_of r ≡ after action (state_of r)
unfolding state_of after
act_stuck r action why e =
    let w = work_in (rest_of r) r.builder in
    ap (λ (o : Option Why). state_from o w) e ∙ sym (ap (λ (o : Option Why). after action (state_from o w)) e)

pub act_open : (r : Reader) (action : Action) (b : Builder) (f : Work → Work) → r.refused ≡ None
    → ((rest : List Token) → work_in rest b ≡ f (work_in rest r.builder))
    → f (work_in (rest_of r) r.builder) ≡ work_after action (work_in (rest_of r) r.builder)
    → state_from r.refused (work_in (rest_of r) b) ≡ after action (state_of r)
unfolding state_of after
act_open r action b f e change means =
    let w = work_in (rest_of r) r.builder in
    ap (λ (o : Option Why). state_from o (work_in (rest_of r) b)) e
    ∙ ap (λ (v : Work). going v) (change (rest_of r) ∙ means)
    ∙ sym (ap (λ (o : Option Why). after action (state_from o w)) e)

pub refused_here : (r : Reader) → r.refused ≡ None → state_from (Some Unexpected) (work_in (rest_of r) r.builder) ≡ refused (state_of r)
unfolding state_of refused
refused_here r e = sym (ap (λ (o : Option Why). refused (state_from o (work_in (rest_of r) r.builder))) e)

pub refused_stuck : (r : Reader) (why : Why) → r.refused ≡ Some why → state_of r ≡ refused (state_of r)
unfolding state_of refused
refused_stuck r why e =
    let w = work_in (rest_of r) r.builder in
    ap (λ (o : Option Why). state_from o w) e ∙ sym (ap (λ (o : Option Why). refused (state_from o w)) e)

-- ---- tokens

abbrev end_token : Token
end_token = record { kind = tokens.Word; text = []; number = pos 0; place = 0; after_line = false }

rest_at : (ts : List Token) (i : ℕ) → i < length ts → drop i ts ≡ get_or ts i end_token ∷ drop (i + 1) ts
rest_at ts i h = rw (add-one, drop-cons ts i end_token) refl

past : (ts : List Token) (i : ℕ) → length ts ≤ i → drop i ts ≡ []
past ts i h = nil_from_length (drop i ts) (omega (arith, length-drop i ts))

pub take_stuck : (r : Reader) (test : Test) (why : Why) → r.refused ≡ Some why → state_of r ≡ take_one test (state_of r)
unfolding state_of take_one
take_stuck r test why e =
    let w = work_in (rest_of r) r.builder in
    ap (λ (o : Option Why). state_from o w) e ∙ sym (ap (λ (o : Option Why). take_one test (state_from o w)) e)

-- what taking does, where reading goes on
take_open : (test : Test) (w : Work) (ts : List Token) → w.rest ≡ ts → passes_on test w.rest w.top.cover ≡ true → take_one test (going w) ≡ taken ts w
unfolding take_one
take_open test w ts e k = rw k (ap (λ (us : List Token). taken us w) e)

take_shut : (test : Test) (w : Work) → passes_on test w.rest w.top.cover ≡ false → take_one test (going w) ≡ stuck Unexpected w.rest
unfolding take_one
take_shut test w k = rw k refl

pub take_hit : (r : Reader) (test : Test) → r.refused ≡ None → passes test (state_of r) ≡ true → r.at < length r.tokens.now
    → state_from r.refused (work_in (drop (r.at + 1) r.tokens.now) r.builder) ≡ take_one test (state_of r)
unfolding state_of
take_hit r test e k h =
    let w = work_in (rest_of r) r.builder in
    ap (λ (o : Option Why). state_from o (work_in (drop (r.at + 1) r.tokens.now) r.builder)) e
    ∙ sym (take_open test w _ (rest_at r.tokens.now r.at h) (passes_here r test e ∙ k))
    ∙ sym (ap (λ (o : Option Why). take_one test (state_from o w)) e)

pub take_missed : (r : Reader) (test : Test) → r.refused ≡ None → passes test (state_of r) ≡ false
    → state_from (Some Unexpected) (work_in (rest_of r) r.builder) ≡ take_one test (state_of r)
unfolding state_of
take_missed r test e k =
    let w = work_in (rest_of r) r.builder in
    sym (take_shut test w (passes_here r test e ∙ k)) ∙ sym (ap (λ (o : Option Why). take_one test (state_from o w)) e)

pub take_at_end : (r : Reader) (test : Test) → r.refused ≡ None → length r.tokens.now ≤ r.at
    → state_from (Some Unexpected) (work_in (rest_of r) r.builder) ≡ take_one test (state_of r)
unfolding state_of
take_at_end r test e h =
    let w = work_in (rest_of r) r.builder in
    let none : rest_of r ≡ [] = past r.tokens.now r.at h in
    elim (cases_Bool (passes test (state_of r))) [
      | inl k ↦ ap (λ (ts : List Token). stuck Unexpected ts) none ∙ sym (take_open test w [] none (passes_here r test e ∙ k)) ∙ sym (ap (λ (o : Option Why). take_one test (state_from o w)) e)
      | inr k ↦ sym (take_shut test w (passes_here r test e ∙ k)) ∙ sym (ap (λ (o : Option Why). take_one test (state_from o w)) e)
    ]

at_least : (i n : ℕ) → nat_lt i n ≡ false → n ≤ i
at_least i n k = grind (arith, nat_tests)

pub take_none : (r : Reader) (test : Test) (passed : Bool) → r.refused ≡ None → passed ≡ passes test (state_of r) → (passed && nat_lt r.at (length r.tokens.now)) ≡ false
    → state_from (Some Unexpected) (work_in (rest_of r) r.builder) ≡ take_one test (state_of r)
take_none r test true e is k = take_at_end r test e (at_least r.at (length r.tokens.now) k)
take_none r test false e is k = take_missed r test e (sym is)

-- ---- where reading stands or goes on

pub state_going : (r : Reader) → r.refused ≡ None → state_of r ≡ going (work_in (rest_of r) r.builder)
unfolding state_of
state_going r e = ap (λ (o : Option Why). state_from o (work_in (rest_of r) r.builder)) e

pub state_stuck : (r : Reader) (why : Why) → r.refused ≡ Some why → state_of r ≡ stuck why (rest_of r)
unfolding state_of
state_stuck r why e = ap (λ (o : Option Why). state_from o (work_in (rest_of r) r.builder)) e

pub form_stuck : (r : Reader) (why : Why) (f : State → State) → r.refused ≡ Some why → f (stuck why (rest_of r)) ≡ stuck why (rest_of r) → state_of r ≡ f (state_of r)
form_stuck r why f e still = state_stuck r why e ∙ sym still ∙ ap (λ (s : State). f s) (sym (state_stuck r why e))

pub beyond_here : (r : Reader) (form : Form) (why : Why) → r.refused ≡ None → why ≡ refused_at_limit form (rest_of r)
    → state_from (Some why) (work_in (rest_of r) r.builder) ≡ beyond form (state_of r)
beyond_here r form why e is = ap (λ (y : Why). stuck y (rest_of r)) is ∙ sym (ap (λ (s : State). beyond form s) (state_going r e))

abbrev refusal_as : RefusalKind → ℕ → Option (List ℕ) → Refusal
refusal_as k place word = record { kind = k; place = place; word = word }

-- the refusal of the token in view
pub refusal_here : (end : ℕ) (why : Why) (ts us : List Token) (t : Token) (c : Class) (k : RefusalKind) (word : Option (List ℕ)) → ts ≡ t ∷ us → c ≡ class_of ts
    → k ≡ kind_of why c → word ≡ word_of c t.text → record { kind = k; place = t.place; word = word } ≡ refusal_at end why ts
refusal_here end why ts us t c k word e ec ek ew =
    let at : c ≡ class_of (t ∷ us) = ec ∙ ap (λ (vs : List Token). class_of vs) e in
    ap (λ (q : RefusalKind). refusal_as q t.place word) (ek ∙ ap (λ (d : Class). kind_of why d) at)
    ∙ ap (λ (v : Option (List ℕ)). refusal_as (kind_of why (class_of (t ∷ us))) t.place v) (ew ∙ ap (λ (d : Class). word_of d t.text) at)
    ∙ sym (ap (λ (vs : List Token). refusal_at end why vs) e)

pub refusal_at_end : (end : ℕ) (why : Why) (ts : List Token) (k : RefusalKind) → ts ≡ [] → k ≡ kind_of why classes.End → record { kind = k; place = end; word = None } ≡ refusal_at end why ts
refusal_at_end end why ts k e ek = ap (λ (q : RefusalKind). refusal_as q end None) ek ∙ sym (ap (λ (vs : List Token). refusal_at end why vs) e)
