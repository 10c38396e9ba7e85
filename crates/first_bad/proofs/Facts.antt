-- What can be computed of a rule: how it begins, and before what it ends.
use Rattle.std.proofs.Common.{Bool, true, false, ◌&&◌, ◌||◌, not, if◌then◌else◌, List, [], ◌∷◌, ◌++◌, Option, None, Some}
use Rattle.parser_rules.specs.declared.form.Form.{Form}
use Rattle.parser_rules.specs.declared.form.Form.TheVariants.{Expression, Prefix, Statement, Item, Block, Literal}
use Rattle.parser_rules.specs.declared.form.Cover.{Cover}
use Rattle.parser_rules.specs.declared.form.Cover.TheVariants as covers
use Rattle.parser_rules.specs.Rules.{Test, Rule, nothing_more, take, act, inside, ◌▸◌, either, many, refuse, may_be_parameters, must_be_parameters}
use Rattle.parser_rules.proofs.Laws.{takes}
use Rattle.first_bad.proofs.Begins.{idle}
use Rattle.first_bad.proofs.Far.{unit}
use Rattle.first_bad.proofs.Firm.{blind}
use Rattle.first_bad.proofs.FirmRules.{firm, apart}
use Rattle.first_bad.proofs.Marks.{Mark, name, number, semicolon, paren_open, paren_close, bracket_close, brace_open, brace_close, colon, equals, arrow, finally, is_edge, seen, Marks, marks, has, every, none, meet}

abbrev pub only_if : Bool → Marks → Marks
only_if b ms = if b then ms else none

abbrev pub is_yes : Option Bool → Bool
is_yes None = false
is_yes (Some b) = b

abbrev pub is_no : Option Bool → Bool
is_no None = false
is_no (Some b) = not b

-- ---- a short text

-- a text that the rule reads before each of some marks
pub record Start : Type 0 where
  pub text : List Mark
  pub before : Marks

abbrev pub no_start : Start
no_start = record { text = []; before = none }

abbrev pub starting : List Mark → Marks → Start
starting text before = record { text = text; before = before }

-- the mark that is in view where the text stands before c
abbrev pub view_of : List Mark → Mark → Mark
view_of [] c = c
view_of (m ∷ ms) c = m

-- those marks before which a text leads to one of these
abbrev pub leading : List Mark → Marks → Marks
leading [] ms = ms
leading (m ∷ text) ms = only_if (has ms m && not (is_edge m)) every

abbrev pub is_some_mark : Marks → Bool
is_some_mark [] = false
is_some_mark (b ∷ bs) = b || is_some_mark bs

-- a text of a branch, where the test chooses the branch
abbrev pub branch : (Mark → Bool) → Start → Start
branch chosen s = starting s.text (meet (leading s.text (marks chosen)) s.before)

abbrev pub first_that : (Mark → Bool) → List Mark → Start
first_that f [] = no_start
first_that f (m ∷ ms) = if f m then starting (m ∷ []) every else first_that f ms

abbrev pub texts : List Mark
texts = name ∷ number ∷ semicolon ∷ paren_open ∷ paren_close ∷ bracket_close ∷ brace_open ∷ brace_close ∷ colon ∷ equals ∷ arrow ∷ finally ∷ []

-- what may follow each form
abbrev pub follows : Form → Marks
follows Expression = marks (λ m. has (true ∷ false ∷ false ∷ true ∷ false ∷ true ∷ true ∷ false ∷ true ∷ true ∷ []) m)
follows Prefix = marks (λ m. has (true ∷ false ∷ false ∷ true ∷ false ∷ true ∷ true ∷ false ∷ true ∷ true ∷ []) m)
follows Statement = marks (λ m. has (true ∷ false ∷ false ∷ false ∷ false ∷ false ∷ false ∷ false ∷ true ∷ []) m)
follows Item = marks (λ m. has (true ∷ false ∷ false ∷ false ∷ false ∷ false ∷ false ∷ false ∷ true ∷ []) m)
follows Block = every
follows Literal = every

abbrev pub start_then : Start → Start → Start
start_then a b = starting (a.text ++ b.text) (meet (leading b.text a.before) b.before)

abbrev pub start_either : Option Cover → Test → Start → Start → Start
start_either k test a b =
    let second = branch (λ m. is_no (seen k test m)) b in
    let first = branch (λ m. is_yes (seen k test m)) a in
    if is_some_mark second.before then second else first

-- a start of the rule, where so much is known of what was read behind a `(`, and where each form has such a start
abbrev pub start : (Form → Start) → Option Cover → Rule → Start
start inner k nothing_more = starting [] every
start inner k (take test) = first_that (λ m. is_yes (seen k test m) && not (is_edge m)) texts
start inner k (act action) = starting [] every
start inner k (inside form) = inner form
start inner k (first ▸ second) = start_then (start inner k first) (start inner None second)
start inner k (either test first second) = start_either k test (start inner k first) (start inner k second)
start inner k (many test rule) = starting [] (marks (λ m. is_no (seen k test m)))
start inner k refuse = no_start

-- ---- where a rule ends

abbrev pub pick : Option Bool → Bool → Bool → Bool
pick None a b = a && b
pick (Some c) a b = if c then a else b

abbrev pub stops_either : Test → Marks → Marks → Marks
stops_either test a b = marks (λ m. pick (seen None test m) (has a m) (has b m))

-- those marks before which the rule surely goes on, and takes nothing
abbrev pub stops : Rule → Marks
stops nothing_more = every
stops (take test) = none
stops (act action) = every
stops (inside form) = none
stops (first ▸ second) = meet (stops first) (stops second)
stops (either test first second) = stops_either test (stops first) (stops second)
stops (many test rule) = marks (λ m. is_no (seen None test m))
stops refuse = none

-- the rule ends with a token that it takes
abbrev pub ended : Rule → Bool
ended nothing_more = false
ended (take test) = blind test
ended (act action) = false
ended (inside form) = false
ended (first ▸ second) = (ended second && firm first) || (not (firm first) && (unit (first ▸ second) && takes (first ▸ second)))
ended (either test first second) = false
ended (many test rule) = false
ended refuse = false

abbrev pub asks_cover : Test → Bool
asks_cover may_be_parameters = true
asks_cover must_be_parameters = true
asks_cover _ = false

abbrev pub again_then : Bool → Marks → Marks → Marks → Marks
again_then sure first stop second = meet second (if sure then every else meet stop first)

abbrev pub again_either : Bool → Marks → Marks → Marks → Marks
again_either sure first second stop = meet (meet first second) (if sure then every else stop)

-- those marks before which the rule goes on too, where it went on before anything
abbrev pub again : Rule → Marks
again nothing_more = every
again (take test) = only_if (blind test) every
again (act action) = every
again (inside form) = follows form
again (first ▸ second) = only_if (firm first && firm second) (again_then (takes second || ended first) (again first) (stops second) (again second))
again (either test first second) =
    only_if ((blind test || apart test first second) && (firm first && firm second)) (again_either (asks_cover test || (takes first && takes second)) (again first) (again second) (stops_either test (stops first) (stops second)))
again (many test rule) = only_if (blind test && (takes rule && firm rule)) (meet (again rule) (marks (λ m. is_no (seen None test m))))
again refuse = every

abbrev pub three : Start → Start → Start → Marks
three a b c = meet a.before (meet b.before c.before)

abbrev pub finish_then : Bool → Marks → Marks → Start → Marks → Marks
finish_then is_ended first again_first s by_cover = if is_ended then meet first by_cover else meet (leading s.text (meet first again_first)) s.before

-- those marks before which the rule can end, where it was refused behind some tokens
abbrev pub finish : (Form → Start) → Rule → Marks
finish inner nothing_more = every
finish inner (take test) = every
finish inner (act action) = every
finish inner (inside form) = follows form
finish inner (first ▸ second) =
    if firm first && firm second
    then meet (finish inner second) (if idle first then every else finish_then (ended first) (finish inner first) (again first) (start inner None second)
    (three (start inner (Some covers.Names) second) (start inner (Some covers.Expressions) second) (start inner (Some covers.Parameters) second)))
    else only_if (unit (first ▸ second)) every
finish inner (either test first second) = only_if ((blind test || apart test first second) && (firm first && firm second)) (meet (finish inner first) (finish inner second))
finish inner (many test rule) = only_if (blind test && (takes rule && firm rule)) (meet (meet (finish inner rule) (again rule)) (marks (λ m. is_no (seen None test m))))
finish inner refuse = every

-- ---- forms

abbrev pub nothing_starts_inside : Form → Start
nothing_starts_inside form = no_start

-- what may stand behind an operand, where no call and no assignment is meant
abbrev pub behind_operand : Marks
behind_operand = true ∷ true ∷ true ∷ true ∷ false ∷ true ∷ true ∷ true ∷ true ∷ true ∷ false ∷ true ∷ true ∷ []

abbrev pub braces : List Mark
braces = brace_open ∷ brace_close ∷ []

-- a text of each form that needs no level further inside
abbrev pub form_start : Form → Start
form_start Expression = starting braces behind_operand
form_start Prefix = no_start
form_start Statement = starting braces every
form_start Item = starting braces every
form_start Block = starting braces every
form_start Literal = starting braces every
