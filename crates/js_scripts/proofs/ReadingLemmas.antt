-- What a text is: from its tree, and in one way only.
use Rattle.std.proofs.Common.{◌≡◌, ℕ, ◌<◌, ◌⊎◌, Result, Ok, Err, IfErr, inl, inr, List, [], length, Option, None, Some, slice_get, nat_eq, if◌then◌else◌, refl, sym, ◌∙◌, ap, subst, zero, suc}
use Rattle.std.proofs.lemmas.Bool.{cases_order}
use Rattle.ivm_text.specs.declared.refusal.Refusal.{Refusal}
use Rattle.js_syntax.specs.declared.fault.Fault.{Fault}
use Rattle.js_syntax.specs.declared.fault.FaultKind.{FaultKind}
use Rattle.js_syntax.specs.declared.fault.FaultKind.TheVariants.{TwiceDeclared, BadTarget, StrayBreak, StrayReturn}
use Rattle.js_syntax.specs.declared.node.Node.{Node}
use Rattle.js_syntax.specs.Early.{outside, HasEarlyFault, HasNoEarlyFault}
use Rattle.js_syntax.specs.Faults.{faults_of}
use Rattle.js_syntax.specs.Order.{fault, number_of, IsBefore, IsLeast}
use Rattle.js_syntax.specs.Tree.{Trees, IsTreeOf}
use Rattle.js_syntax.proofs.TreeLemmas.{tree_unique}
use Rattle.js_lexer.specs.declared.token.Token.{Token}
use Rattle.js_lexer.specs.declared.token.SyntaxFault.{SyntaxFault}
use Rattle.js_lexer.specs.declared.token.SyntaxFault.TheVariants as faults
use Rattle.js_lexer.specs.Tokens.{IsRefusal, HasOneReading}
use Rattle.parser_rules.specs.declared.form.Why.{Why}
use Rattle.parser_rules.specs.Grammar.{limit, refusal_at}
use Rattle.parser_rules.specs.Statements.{script as script_rule}
use Rattle.js_grammar.specs.Derives.{ScriptBy, Derives}
use Rattle.js_grammar.specs.Exactly.{IsSameGrammar}
use Rattle.js_grammar.specs.FirstBad.{IsFirstBad, HasOneRefusal}
use Rattle.js_parser.specs.Parsed.{HasTree, IsRefusedText, IsFault}
use Rattle.js_syntax.specs.declared.check.EarlyFault.{EarlyFault}
use Rattle.js_syntax.specs.declared.check.EarlyFault.TheVariants.{Refused as EarlyRefused}
use Rattle.js_syntax.specs.Answer.{refusal_of, Refuses}
use Rattle.js_parser.specs.Nodes.{AreOfTheirTree}
use Rattle.js_scripts.specs.Lowest.{lowest_below}
use Rattle.js_scripts.specs.Says.{IsToldOf, told_of, Says, has_fault, has_unbuilt, is_whole}
use Rattle.js_scripts.specs.Text.{Reading, script, refused, unbuilt_refusal, IsFaultOf, Reads, no_tokens, no_tree, early, unbuilt, whole}
use Rattle.js_scripts.specs.Unbuilt.{first_unbuilt}
use Rattle.js_scripts.proofs.PlaceLemmas.{lowest_first}

-- ---- from a tree

-- what the tree of a text says is what the text is
pub reads_by : {bytes : List ℕ} {t : Trees} {reading : Reading} → HasTree Derives bytes t → Says t reading → Reads bytes reading
reads_by has (has_fault least) = early has least
reads_by has (has_unbuilt none first) = unbuilt has none first
reads_by has (is_whole none all) = whole has none all

-- so is a refusal that its tree tells
told_by : (bytes : List ℕ) (t : Trees) (told : SyntaxFault) → HasTree Derives bytes t → IsToldOf t told → IsFaultOf bytes told
told_by bytes t (faults.Refused r) has says = reads_by has says
told_by bytes t faults.NoMemory has says = tt

pub err_told_by : {A : Type 0} (bytes : List ℕ) (t : Trees) (r : Result A SyntaxFault) → HasTree Derives bytes t
    → IfErr r (IsToldOf t) → IfErr r (IsFaultOf bytes)
err_told_by bytes t (Ok x) has says = tt
err_told_by bytes t (Err told) has says = told_by bytes t told has says

-- and one before there is a tree
pub told_before : (bytes : List ℕ) (told : SyntaxFault) → IsFault bytes told → IsFaultOf bytes told
told_before bytes (faults.Refused r) (inl is) = no_tokens is
told_before bytes (faults.Refused r) (inr text) = no_tree text
told_before bytes faults.NoMemory is = tt

-- ---- from nodes

-- the early fault of a script is the least of its tree
early_least : (nodes : List Node) (r : Refusal) → (f : Fault) × HasEarlyFault nodes f × (r ≡ refusal_of f)
    → (t : Trees) → IsTreeOf nodes t → Says t (refused r)
early_least nodes r (f, (s, its, least), is) t trees =
    let same : s ≡ t = tree_unique nodes s t its trees in
    subst (λ (v : Refusal). Says t (refused v)) (sym is) (has_fault (subst (λ (v : Trees). IsLeast (faults_of outside v) f) same least))

pub early_told : (nodes : List Node) (found : EarlyFault) (told : SyntaxFault) → Refuses nodes found → told ≡ told_of found
    → (t : Trees) → IsTreeOf nodes t → IsToldOf t told
early_told nodes (EarlyRefused r others) told (back, refuses) is t trees =
    subst (λ (v : SyntaxFault). IsToldOf t v) (sym is) (early_least nodes r refuses t trees)

-- the least place among its nodes is told
pub unbuilt_told : (nodes : List Node) (lowest : Option ℕ) (place : ℕ) (r : Refusal) → HasNoEarlyFault nodes → AreOfTheirTree nodes
    → lowest ≡ lowest_below nodes (length nodes) → lowest ≡ Some place → r ≡ unbuilt_refusal place
    → (t : Trees) → IsTreeOf nodes t → Says t (refused r)
unbuilt_told nodes lowest place r checked alone low found is t trees =
    let first : first_unbuilt t ≡ Some place = sym (lowest_first nodes t trees (alone t trees)) ∙ (sym low ∙ found) in
    subst (λ (v : Refusal). Says t (refused v)) (sym is) (has_unbuilt (checked t trees) first)

-- without one the nodes are the script
pub whole_told : (nodes : List Node) (lowest : Option ℕ) → HasNoEarlyFault nodes → AreOfTheirTree nodes
    → lowest ≡ lowest_below nodes (length nodes) → lowest ≡ None
    → (t : Trees) → IsTreeOf nodes t → Says t (script nodes)
whole_told nodes lowest checked alone low none t trees =
    let all : first_unbuilt t ≡ None = sym (lowest_first nodes t trees (alone t trees)) ∙ (sym low ∙ none) in
    subst (λ (v : List Node). Says t (script v)) (sym (alone t trees)) (is_whole (checked t trees) all)

-- ---- one least fault

-- the kind with a number
abbrev kind_by : ℕ → FaultKind
kind_by n =
    if nat_eq n 10 then TwiceDeclared else (if nat_eq n 11 then BadTarget else (if nat_eq n 12 then StrayBreak else StrayReturn))

kind_by-number : (kind : FaultKind) → kind_by (number_of kind) ≡ kind
kind_by-number TwiceDeclared = refl
kind_by-number BadTarget = refl
kind_by-number StrayBreak = refl
kind_by-number StrayReturn = refl

-- two faults of which none is before the other are one
same_fault : (a b : Fault) → ¬ (IsBefore a b) → ¬ (IsBefore b a) → a ≡ b
same_fault a b not_before not_behind =
    ap (λ kind. fault kind (a.place)) same_kind ∙ ap (λ place. fault (b.kind) place) same_place
  where
    same_place : a.place ≡ b.place
    same_place = by (cases_order (a.place) (b.place))
      where
        by : (a.place ≡ b.place) ⊎ ((a.place < b.place) ⊎ (b.place < a.place)) → a.place ≡ b.place
        by (inl same) = same
        by (inr (inl lower)) = absurd (not_before (inl lower))
        by (inr (inr higher)) = absurd (not_behind (inl higher))

    same_number : number_of (a.kind) ≡ number_of (b.kind)
    same_number = by (cases_order (number_of (a.kind)) (number_of (b.kind)))
      where
        by : (number_of (a.kind) ≡ number_of (b.kind)) ⊎ ((number_of (a.kind) < number_of (b.kind)) ⊎ (number_of (b.kind) < number_of (a.kind))) → number_of (a.kind) ≡ number_of (b.kind)
        by (inl same) = same
        by (inr (inl lower)) = absurd (not_before (inr (same_place, lower)))
        by (inr (inr higher)) = absurd (not_behind (inr (sym same_place, higher)))

    same_kind : a.kind ≡ b.kind
    same_kind = sym (kind_by-number (a.kind)) ∙ (ap kind_by same_number ∙ kind_by-number (b.kind))

least_once : (faults : List Fault) (a b : Fault) → IsLeast faults a → IsLeast faults b → a ≡ b
least_once faults a b one other = same_fault a b (other.first a (one.among)) (one.first b (other.among))

-- where there is no fault there is no least one
no_least : (faults : List Fault) (a : Fault) → faults ≡ [] → IsLeast faults a → ⊥
no_least faults a none least =
    at (least.among.0) (subst (λ (fs : List Fault). slice_get fs (least.among.0) ≡ Some a) none (least.among.1))
  where
    at : (k : ℕ) → slice_get [] k ≡ Some a → ⊥
    at zero here = let no : ⊥ = cc in no
    at (suc k) here = let no : ⊥ = cc in no

-- ---- one tree says one thing

pub says_once : (t : Trees) (one other : Reading) → Says t one → Says t other → one ≡ other
says_once t one other (has_fault {fault = a} least) (has_fault {fault = b} least') =
    ap (λ (f : Fault). refused (refusal_of f)) (least_once (faults_of outside t) a b least least')
says_once t one other (has_fault {fault = a} least) (has_unbuilt none first) = absurd (no_least (faults_of outside t) a none least)
says_once t one other (has_fault {fault = a} least) (is_whole none all) = absurd (no_least (faults_of outside t) a none least)
says_once t one other (has_unbuilt none first) (has_fault {fault = a} least) = absurd (no_least (faults_of outside t) a none least)
says_once t one other (has_unbuilt {place = p} none first) (has_unbuilt {place = q} none' first') =
    let both : Some p ≡ Some q = sym first ∙ first' in
    let same : p ≡ q = cc in ap (λ place. refused (unbuilt_refusal place)) same
says_once t one other (has_unbuilt {place = p} none first) (is_whole none' all) =
    absurd (let both : Some p ≡ None = sym first ∙ all in let no : ⊥ = cc in no)
says_once t one other (is_whole none all) (has_fault {fault = a} least) = absurd (no_least (faults_of outside t) a none least)
says_once t one other (is_whole none all) (has_unbuilt {place = p} none' first) =
    absurd (let both : Some p ≡ None = sym first ∙ all in let no : ⊥ = cc in no)
says_once t one other (is_whole none all) (is_whole none' all') = refl

-- ---- a text is one thing

-- what a text is, by whether it has tokens and a tree
data Way (bytes : List ℕ) : Reading → Type 0 where
  without_tokens : {r : Refusal} → IsRefusal bytes r → Way bytes (refused r)
  without_tree : {r : Refusal} → IsRefusedText ScriptBy bytes r → Way bytes (refused r)
  with_tree : {t : Trees} {reading : Reading} → HasTree Derives bytes t → Says t reading → Way bytes reading

way_of : {bytes : List ℕ} {reading : Reading} → Reads bytes reading → Way bytes reading
way_of (no_tokens is) = without_tokens is
way_of (no_tree text) = without_tree text
way_of (early has least) = with_tree has (has_fault least)
way_of (unbuilt has none first) = with_tree has (has_unbuilt none first)
way_of (whole has none all) = with_tree has (is_whole none all)

-- a text has one tree
tree_once : {bytes : List ℕ} {t u : Trees} → HasOneReading bytes → IsSameGrammar script_rule Derives
    → HasTree Derives bytes t → HasTree Derives bytes u → t ≡ u
tree_once {bytes} {t} {u} lexed grammar one other =
    let same : one.tokens ≡ other.tokens = lexed.tokens (one.tokens) (other.tokens) (one.are_its_tokens) (other.are_its_tokens) in
    grammar.once limit limit (other.tokens) t u (subst (λ (ts : List Token). Derives limit ts t) same (one.derives)) (other.derives)

-- and one refusal
refusal_once : {bytes : List ℕ} {r s : Refusal} → HasOneReading bytes → HasOneRefusal ScriptBy
    → IsRefusedText ScriptBy bytes r → IsRefusedText ScriptBy bytes s → r ≡ s
refusal_once {bytes} {r} {s} lexed refusals one other =
    let same : one.tokens ≡ other.tokens = lexed.tokens (one.tokens) (other.tokens) (one.are_its_tokens) (other.are_its_tokens) in
    let here = subst (λ (ts : List Token). IsFirstBad ScriptBy limit ts one.why one.left) same (one.is_first_bad) in
    let (why, left) = refusals.one limit (other.tokens) (one.why) (other.why) (one.left) (other.left) here (other.is_first_bad) in
    one.is_its_refusal
    ∙ ap (λ (w : Why). refusal_at (length bytes) w one.left) why
    ∙ ap (λ (ts : List Token). refusal_at (length bytes) other.why ts) left
    ∙ sym (other.is_its_refusal)

-- a text with a tree has none
never_both : {bytes : List ℕ} {t : Trees} {r : Refusal} → HasOneReading bytes → HasTree Derives bytes t → IsRefusedText ScriptBy bytes r → ⊥
never_both {bytes} {t} lexed has bad =
    let same : has.tokens ≡ bad.tokens = lexed.tokens (has.tokens) (bad.tokens) (has.are_its_tokens) (bad.are_its_tokens) in
    bad.is_first_bad.none t (subst (λ (ts : List Token). Derives limit ts t) same (has.derives))

-- what is asked of the grammar
pub record IsRead (bytes : List ℕ) : Type 0 where
  pub lexed : HasOneReading bytes
  pub grammar : IsSameGrammar script_rule Derives
  pub refusals : HasOneRefusal ScriptBy

way_once : (bytes : List ℕ) (one other : Reading) → IsRead bytes → Way bytes one → Way bytes other → one ≡ other
way_once bytes one other is (without_tokens {r = r} a) (without_tokens {r = s} b) = ap refused (is.lexed.refusals r s a b)
way_once bytes one other is (without_tokens {r = r} a) (without_tree bad) = absurd (is.lexed.either (bad.tokens) r (bad.are_its_tokens) a)
way_once bytes one other is (without_tokens {r = r} a) (with_tree has says) = absurd (is.lexed.either (has.tokens) r (has.are_its_tokens) a)
way_once bytes one other is (without_tree bad) (without_tokens {r = r} b) = absurd (is.lexed.either (bad.tokens) r (bad.are_its_tokens) b)
way_once bytes one other is (without_tree bad) (without_tree bad') = ap refused (refusal_once (is.lexed) (is.refusals) bad bad')
way_once bytes one other is (without_tree bad) (with_tree has says) = absurd (never_both (is.lexed) has bad)
way_once bytes one other is (with_tree has says) (without_tokens {r = r} b) = absurd (is.lexed.either (has.tokens) r (has.are_its_tokens) b)
way_once bytes one other is (with_tree has says) (without_tree bad) = absurd (never_both (is.lexed) has bad)
way_once bytes one other is (with_tree {t = t} has says) (with_tree {t = u} has' says') =
    let same : t ≡ u = tree_once (is.lexed) (is.grammar) has has' in
    says_once u one other (subst (λ (v : Trees). Says v one) same says) says'

pub reads_once : (bytes : List ℕ) (one other : Reading) → IsRead bytes → Reads bytes one → Reads bytes other → one ≡ other
reads_once bytes one other is first second = way_once bytes one other is (way_of first) (way_of second)
