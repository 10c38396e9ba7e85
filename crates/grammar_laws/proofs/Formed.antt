-- Every tree of the grammar is formed.
use Rattle.std.proofs.Common.{ℕ, zero, suc, List, [], ◌∷◌, refl}
use Rattle.js_syntax.specs.declared.kind.Kind.TheVariants as kinds
use Rattle.parser_rules.specs.declared.form.Form.{Form}
use Rattle.parser_rules.specs.declared.form.Form.TheVariants.{Expression, Prefix, Statement, Item, Block, Literal}
use Rattle.parser_rules.specs.Work.{Part}
use Rattle.js_grammar.specs.Spots.{Spot, spot, Reading, node_at}
use Rattle.js_grammar.specs.Derives.{FormOf, Reads, whole_tree, Derives, derives_script, DerivesLiteral, derives_literal, DerivesArguments, derives_arguments}
use Rattle.grammar_laws.specs.Formed.{AreFormed, GivesFormed}
use Rattle.grammar_laws.proofs.Parts.{IsPart, AreParts, none, also, trees_formed, at_least_none, many_parts}
use Rattle.grammar_laws.proofs.Expressions.{expression, prefix}
use Rattle.grammar_laws.proofs.Statements.{statement, item, block}
use Rattle.grammar_laws.proofs.Literals.{literal, literal_text, arguments_text}

-- ---- levels

form_formed : (inside : Form → Reading Part) → ((form : Form) (p : Spot) (x : Part) (q : Spot) → inside form p x q → IsPart x)
    → (form : Form) (p : Spot) (x : Part) (q : Spot) → FormOf inside form p x q → IsPart x
form_formed inside each Expression p x q r = expression inside each p x q r
form_formed inside each Prefix p x q r = prefix inside each p x q r
form_formed inside each Statement p x q r = statement inside each p x q r
form_formed inside each Item p x q r = item inside each p x q r
form_formed inside each Block p x q r = block inside each p x q r
form_formed inside each Literal p x q r = literal inside each p x q r

read_formed : (levels : ℕ) (form : Form) (p : Spot) (x : Part) (q : Spot) → Reads levels form p x q → IsPart x
unfolding Reads
read_formed zero form p x q r = absurd r
read_formed (suc n) form p x q r = form_formed (Reads n) (read_formed n) form p x q r

-- ---- texts

-- the node of a whole text has any parts
whole_formed : (xs : List Part) (end : Spot) → AreParts xs → AreFormed (whole_tree xs end)
whole_formed xs end are = trees_formed (node_at kinds.Script 0 xs end ∷ []) (also (record {
  formed = record { form = record { name = refl; names = refl; kids = at_least_none _ }; places = refl };
  under = trees_formed xs are;
}) none)

pub scripts_formed : GivesFormed Derives
scripts_formed levels tokens _ (derives_script {xs = xs} {end = end} m) = whole_formed xs end (many_parts (read_formed levels Item) (spot tokens 0) xs end m)

pub literals_formed : GivesFormed DerivesLiteral
literals_formed levels tokens _ (derives_literal {xs = xs} {end = end} r) = whole_formed xs end (literal_text (Reads levels) (read_formed levels) (spot tokens 0) xs end r)

pub arguments_formed : GivesFormed DerivesArguments
arguments_formed levels tokens _ (derives_arguments {xs = xs} {end = end} m) = whole_formed xs end (arguments_text (Reads levels) (read_formed levels) (spot tokens 0) xs end m)
