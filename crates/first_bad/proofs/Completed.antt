-- What was taken before the token at which reading stands can be gone on with to a whole text.
use Rattle.std.proofs.Common.{◌≡◌, ℕ, zero, suc, true, List, [], ◌∷◌, ◌++◌, Option, None, refl, sym, subst}
use Rattle.js_lexer.specs.declared.token.Token.{Token}
use Rattle.parser_rules.specs.declared.form.Form.{Form}
use Rattle.parser_rules.specs.declared.form.Form.TheVariants.{Expression, Prefix, Statement, Item, Block, Literal}
use Rattle.parser_rules.specs.declared.form.Cover.{Cover}
use Rattle.parser_rules.specs.declared.form.Why.{Why}
use Rattle.parser_rules.specs.Work.{stuck}
use Rattle.parser_rules.specs.Rules.{Rule, run}
use Rattle.parser_rules.specs.Grammar.{within, rule_of, reading, refused_at_limit}
use Rattle.first_bad.specs.Viable.{Reads, Viable}
use Rattle.first_bad.proofs.Deeper.{within_deeper}
use Rattle.first_bad.proofs.FirmTable.{within_firmly}
use Rattle.first_bad.proofs.Marks.{Mark, edge, tokens_of, Marks, has}
use Rattle.first_bad.proofs.Facts.{Start, start, again, finish, follows, form_start, nothing_starts_inside}
use Rattle.first_bad.proofs.Starts.{Starts, run_starts, nothing_begins}
use Rattle.first_bad.proofs.AgainRules.{AgainOn, run_again}
use Rattle.first_bad.proofs.Finish.{FinishOn, at_once}
use Rattle.first_bad.proofs.FinishRules.{run_finishes}
use Rattle.first_bad.proofs.FormFacts as facts
use Rattle.first_bad.proofs.Sunk.{going_stuck}
use Rattle.first_bad.proofs.Refusals.{blank}

-- ---- levels

rules_again : (form : Form) → again (rule_of form) ≡ follows form
rules_again Expression = facts.expression_again
rules_again Prefix = facts.prefix_again
rules_again Statement = facts.statement_again
rules_again Item = facts.item_again
rules_again Block = facts.block_again
rules_again Literal = facts.literal_again

rules_finish : (form : Form) → finish form_start (rule_of form) ≡ follows form
rules_finish Expression = facts.expression_finishes
rules_finish Prefix = facts.prefix_finishes
rules_finish Statement = facts.statement_finishes
rules_finish Item = facts.item_finishes
rules_finish Block = facts.block_finishes
rules_finish Literal = facts.literal_finishes

within_again : (n : ℕ) (form : Form) → AgainOn (within n form) (follows form)
unfolding within
within_again zero form = record { holds = λ m h w p us us' s g. going_stuck g.work (refused_at_limit form (p ++ us)) (p ++ us) (sym g.goes) }
within_again (suc n) form = subst (λ (ms : Marks). AgainOn (run (within n) (rule_of form)) ms) (rules_again form) (run_again (within n) (within_firmly n) (within_again n) (rule_of form))

begun : (n : ℕ) (k : Option Cover) (r : Rule) (s : Start) → start nothing_starts_inside k r ≡ s → Starts (run (within n) r) k s
begun n k r s e = subst (λ (x : Start). Starts (run (within n) r) k x) e (run_starts (within n) nothing_starts_inside (λ c form. nothing_begins (within n form) c) k r)

within_starts : (n : ℕ) (k : Option Cover) (form : Form) → Starts (within (suc n) form) k (form_start form)
unfolding within
within_starts n k Expression = begun n k (rule_of Expression) (form_start Expression) (facts.expression_begin k)
within_starts n k Prefix = nothing_begins (within (suc n) Prefix) k
within_starts n k Statement = begun n k (rule_of Statement) (form_start Statement) (facts.statement_begin k)
within_starts n k Item = begun n k (rule_of Item) (form_start Item) (facts.item_begin k)
within_starts n k Block = begun n k (rule_of Block) (form_start Block) (facts.block_begin k)
within_starts n k Literal = begun n k (rule_of Literal) (form_start Literal) (facts.literal_begin k)

within_finishes : (n : ℕ) (form : Form) → FinishOn (within n form) (within (suc n) form) (follows form)
unfolding within
within_finishes zero form = record { ends = λ m h w q p us why e. at_once (stuck (refused_at_limit form (q ∷ (p ++ us))) (q ∷ (p ++ us))) q p us why refl e }
within_finishes (suc n) form =
    subst (λ (ms : Marks). FinishOn (run (within n) (rule_of form)) (run (within (suc n)) (rule_of form)) ms) (rules_finish form)
    (run_finishes (within n) (within (suc n)) (within_firmly n) (within_firmly (suc n)) (within_deeper n) form_start (within_starts n) (within_again (suc n)) (within_finishes n) (rule_of form))

-- ---- texts

-- the whole of a text is read up to the end
pub record Whole (whole : Rule) : Type 0 where
  pub starts : has ((start form_start None whole).before) edge ≡ true
  pub finishes : has (finish form_start whole) edge ≡ true

-- a text that begins so, and goes on with tokens of marks alone
pub record Completed (whole : Rule) (before : List Token) : Type 0 where
  pub marks : List Mark
  pub reads : Reads whole (before ++ tokens_of marks [])

pub before_completed : (whole : Rule) → Whole whole → (levels : ℕ) (before us : List Token) (why : Why) → reading levels whole (before ++ us) ≡ stuck why us → Completed whole before
before_completed whole h levels [] us why e =
    let g = (run_starts (within (suc levels)) form_start (within_starts levels) None whole).reads edge h.starts blank [] ([], refl) tt in
    record { marks = (start form_start None whole).text; reads = (suc levels, g.work, g.goes) }
before_completed whole h levels (q ∷ p) us why e =
    let c = (run_finishes (within levels) (within (suc levels)) (within_firmly levels) (within_firmly (suc levels)) (within_deeper levels) form_start (within_starts levels) (within_again (suc levels)) (within_finishes levels) whole).ends edge h.finishes blank q p us why e in
    let g = c.reads [] ([], refl) in
    record { marks = c.text; reads = (suc levels, g.work, g.goes) }

pub before_viable : (whole : Rule) → Whole whole → (levels : ℕ) (before us : List Token) (why : Why) → reading levels whole (before ++ us) ≡ stuck why us → Viable whole before
before_viable whole h levels before us why e = let c = before_completed whole h levels before us why e in (tokens_of c.marks [], c.reads)
