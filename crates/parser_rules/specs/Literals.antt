-- The rules of literals and of texts of arguments: the values that a host hands over.
-- This project's own, within ECMA-262's literals; docs/SCRIPTS.md, "Literals and arguments".
use Rattle.std.specs.Prelude.{List, [], ◌∷◌}
use Rattle.js_syntax.specs.declared.kind.Kind.TheVariants as kinds
use Rattle.parser_rules.specs.declared.class.Class.{Class}
use Rattle.parser_rules.specs.declared.class.Class.TheVariants.{End, Num, Text, Undefined, Null, True, False, BraceOpen, BraceClose, ParenOpen, ParenClose, BracketOpen, BracketClose, Minus, Colon}
use Rattle.parser_rules.specs.declared.form.Form.TheVariants.{Literal}
use Rattle.parser_rules.specs.Rules.{Rule, nothing_more, take, act, inside, ◌▸◌, either, many, refuse, sees_other, sees_word, sees_key, sees_nonzero, sees_passing, open_form, close, name_it, key, value}
use Rattle.parser_rules.specs.Expressions.{at, token, comma_before, leaf, number_leaf, text_leaf}

-- what a literal may begin with
abbrev pub literal_begins : List Class
literal_begins = Num ∷ Text ∷ Undefined ∷ Null ∷ True ∷ False ∷ Minus ∷ BracketOpen ∷ BraceOpen ∷ []

-- a number other than 0: there is no -0
unfoldable pub negated_number : Rule
negated_number = act (open_form kinds.Num) ▸ act value ▸ take sees_nonzero ▸ act close

unfoldable pub negative : Rule
negative = act (open_form kinds.Minus) ▸ token Minus ▸ negated_number ▸ act close

unfoldable pub constant_word : Rule
constant_word =
    either (at Undefined) (leaf kinds.Undefined Undefined)
    (either (at Null) (leaf kinds.Null Null)
    (either (at True) (leaf kinds.True True)
    (either (at False) (leaf kinds.False False) refuse)))

unfoldable pub literal_element : Rule
literal_element = inside Literal ▸ comma_before BracketClose

-- an array of literals
unfoldable pub literal_array : Rule
literal_array =
    act (open_form kinds.Array) ▸ token BracketOpen ▸ many (sees_other (BracketClose ∷ [])) literal_element ▸ token BracketClose ▸ act close

-- a key with its value; a name alone is none
unfoldable pub literal_property : Rule
literal_property = act key ▸ take sees_key ▸ token Colon ▸ inside Literal ▸ comma_before BraceClose

-- an object of keys and literals
unfoldable pub literal_object : Rule
literal_object =
    act (open_form kinds.Object) ▸ token BraceOpen ▸ many (sees_other (BraceClose ∷ [])) literal_property ▸ token BraceClose ▸ act close

unfoldable pub literal : Rule
literal =
    either (at Num) number_leaf
    (either (at Text) text_leaf
    (either (at Minus) negative
    (either (at BracketOpen) literal_array
    (either (at BraceOpen) literal_object constant_word))))

-- ---- texts

unfoldable pub text_end : Rule
text_end = either (at End) nothing_more refuse

-- a text of one literal, in a frame that was opened for it
unfoldable pub literal_text : Rule
literal_text = inside Literal ▸ text_end ▸ act close

-- a word that says what is passed, and the word behind it
unfoldable pub passing_word : Rule
passing_word = act (open_form kinds.Name) ▸ act name_it ▸ take sees_passing ▸ act close

unfoldable pub passed_name : Rule
passed_name = act (open_form kinds.Name) ▸ act name_it ▸ take sees_word ▸ act close

-- `W(N)`: it has the tree of a call, where N may be any word
unfoldable pub passing : Rule
passing = act (open_form kinds.Call) ▸ passing_word ▸ token ParenOpen ▸ passed_name ▸ token ParenClose ▸ act close

unfoldable pub argument : Rule
argument = either sees_passing passing (inside Literal) ▸ comma_before End

-- a text of arguments, maybe none, in a frame that was opened for them
unfoldable pub arguments_text : Rule
arguments_text = many (sees_other (End ∷ [])) argument ▸ act close
