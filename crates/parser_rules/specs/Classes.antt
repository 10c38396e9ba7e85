-- What each token is to the grammar.
-- ECMA-262, Keywords and Reserved Words; Punctuators; docs/SCRIPTS.md, "Reserved words" and "Out of
-- profile".
use Rattle.std.specs.Prelude.{ℕ, Bool, true, false, ◌&&◌, ◌||◌, List, [], ◌∷◌, nat_eq, codes, if◌then◌else◌}
use Rattle.std.specs.List.{list_any}
use Rattle.std.specs.Str.{bytes_eq}
use Rattle.js_lexer.specs.declared.token.Token.{Token}
use Rattle.js_lexer.specs.declared.token.TokenKind.{TokenKind}
use Rattle.js_lexer.specs.declared.token.TokenKind.TheVariants as tokens
use Rattle.parser_rules.specs.declared.class.Class.{Class}
use Rattle.parser_rules.specs.declared.class.Class.TheVariants as classes

-- a spelling and its class
pub record Entry : Type 0 where
  pub spelling : List ℕ
  pub class : Class

abbrev pub entry : List ℕ → Class → Entry
entry spelling class = record { spelling = spelling; class = class }

-- ---- words

unfoldable pub words : List Entry
words =
    entry (codes "let") classes.Let ∷ entry (codes "const") classes.Const ∷ entry (codes "function") classes.Function
    ∷ entry (codes "if") classes.If ∷ entry (codes "else") classes.Else ∷ entry (codes "while") classes.While
    ∷ entry (codes "for") classes.For ∷ entry (codes "break") classes.Break ∷ entry (codes "continue") classes.Continue
    ∷ entry (codes "return") classes.Return ∷ entry (codes "throw") classes.Throw ∷ entry (codes "try") classes.Try
    ∷ entry (codes "catch") classes.Catch ∷ entry (codes "finally") classes.Finally
    ∷ entry (codes "typeof") classes.TypeOf ∷ entry (codes "void") classes.Void ∷ entry (codes "this") classes.This
    ∷ entry (codes "undefined") classes.Undefined ∷ entry (codes "null") classes.Null
    ∷ entry (codes "true") classes.True ∷ entry (codes "false") classes.False ∷ []

-- words of ECMA-262 that no script of this project has, but as keys and behind a dot; `new` is told
-- apart below
unfoldable pub foreign_words : List (List ℕ)
foreign_words =
    codes "arguments" ∷ codes "eval" ∷ codes "case" ∷ codes "class" ∷ codes "debugger" ∷ codes "default"
    ∷ codes "delete" ∷ codes "do" ∷ codes "enum" ∷ codes "export" ∷ codes "extends" ∷ codes "implements"
    ∷ codes "import" ∷ codes "in" ∷ codes "instanceof" ∷ codes "interface" ∷ codes "package" ∷ codes "private"
    ∷ codes "protected" ∷ codes "public" ∷ codes "static" ∷ codes "super" ∷ codes "switch" ∷ codes "var"
    ∷ codes "with" ∷ codes "yield" ∷ codes "new" ∷ []

-- the constructors that `new` may name
unfoldable pub constructors : List (List ℕ)
constructors =
    codes "Error" ∷ codes "TypeError" ∷ codes "RangeError" ∷ codes "ReferenceError" ∷ codes "SyntaxError"
    ∷ codes "Promise" ∷ codes "Reference" ∷ codes "ExternalCopy" ∷ []

-- ---- punctuators

-- all others are foreign
unfoldable pub punctuators : List Entry
punctuators =
    entry (codes "{") classes.BraceOpen ∷ entry (codes "}") classes.BraceClose ∷ entry (codes "(") classes.ParenOpen
    ∷ entry (codes ")") classes.ParenClose ∷ entry (codes "[") classes.BracketOpen ∷ entry (codes "]") classes.BracketClose
    ∷ entry (codes ".") classes.Dot ∷ entry (codes ";") classes.Semicolon ∷ entry (codes ",") classes.Comma
    ∷ entry (codes "<") classes.Less ∷ entry (codes ">") classes.More ∷ entry (codes "<=") classes.AtMost
    ∷ entry (codes ">=") classes.AtLeast ∷ entry (codes "===") classes.Same ∷ entry (codes "!==") classes.NotSame
    ∷ entry (codes "+") classes.Plus ∷ entry (codes "-") classes.Minus ∷ entry (codes "*") classes.Times
    ∷ entry (codes "/") classes.Over ∷ entry (codes "%") classes.Percent ∷ entry (codes "++") classes.PlusPlus
    ∷ entry (codes "--") classes.MinusMinus ∷ entry (codes "!") classes.Not ∷ entry (codes "&&") classes.AndAnd
    ∷ entry (codes "||") classes.OrOr ∷ entry (codes "??") classes.Coalesce ∷ entry (codes "?") classes.Question
    ∷ entry (codes ":") classes.Colon ∷ entry (codes "=") classes.Equals ∷ entry (codes "+=") classes.PlusEquals
    ∷ entry (codes "-=") classes.MinusEquals ∷ entry (codes "*=") classes.TimesEquals
    ∷ entry (codes "/=") classes.OverEquals ∷ entry (codes "%=") classes.PercentEquals ∷ entry (codes "=>") classes.Arrow ∷ []

-- ---- tokens

-- the class of a spelling, and `other` where the table has none
unfoldable pub class_in : List Entry → List ℕ → Class → Class
class_in [] spelling other = other
class_in (e ∷ es) spelling other = if bytes_eq e.spelling spelling then e.class else class_in es spelling other

abbrev pub is_among : List (List ℕ) → List ℕ → Bool
is_among table spelling = list_any (λ w. bytes_eq w spelling) table

abbrev pub is_word_token : TokenKind → Bool
is_word_token tokens.Word = true
is_word_token tokens.Punct = false
is_word_token tokens.Num = false
is_word_token tokens.Text = false

abbrev pub is_punct_token : TokenKind → Bool
is_punct_token tokens.Word = false
is_punct_token tokens.Punct = true
is_punct_token tokens.Num = false
is_punct_token tokens.Text = false

-- a constructor's name and `(` stand here
abbrev pub begins_construction : List Token → Bool
begins_construction [] = false
begins_construction (n ∷ []) = false
begins_construction (n ∷ p ∷ ts) = is_word_token n.kind && is_among constructors n.text && is_punct_token p.kind && bytes_eq (codes "(") p.text

-- the class of a word in front of these tokens
abbrev pub word_class : List ℕ → List Token → Class
word_class word after =
    if is_among foreign_words word
    then (if bytes_eq (codes "new") word && begins_construction after then classes.New else classes.Foreign)
    else class_in words word classes.Name

abbrev pub token_class : TokenKind → List ℕ → List Token → Class
token_class tokens.Word text after = word_class text after
token_class tokens.Punct text after = class_in punctuators text classes.Foreign
token_class tokens.Num text after = classes.Num
token_class tokens.Text text after = classes.Text

-- the class of the token in view
unfoldable pub class_of : List Token → Class
class_of [] = classes.End
class_of (t ∷ ts) = token_class t.kind t.text ts

-- ---- sets of classes

-- the place of a class in the list of all
abbrev pub code : Class → ℕ
code classes.End = 0
code classes.Name = 1
code classes.Num = 2
code classes.Text = 3
code classes.Let = 4
code classes.Const = 5
code classes.Function = 6
code classes.If = 7
code classes.Else = 8
code classes.While = 9
code classes.For = 10
code classes.Break = 11
code classes.Continue = 12
code classes.Return = 13
code classes.Throw = 14
code classes.Try = 15
code classes.Catch = 16
code classes.Finally = 17
code classes.TypeOf = 18
code classes.Void = 19
code classes.This = 20
code classes.Undefined = 21
code classes.Null = 22
code classes.True = 23
code classes.False = 24
code classes.New = 25
code classes.Foreign = 26
code classes.BraceOpen = 27
code classes.BraceClose = 28
code classes.ParenOpen = 29
code classes.ParenClose = 30
code classes.BracketOpen = 31
code classes.BracketClose = 32
code classes.Dot = 33
code classes.Semicolon = 34
code classes.Comma = 35
code classes.Less = 36
code classes.More = 37
code classes.AtMost = 38
code classes.AtLeast = 39
code classes.Same = 40
code classes.NotSame = 41
code classes.Plus = 42
code classes.Minus = 43
code classes.Times = 44
code classes.Over = 45
code classes.Percent = 46
code classes.PlusPlus = 47
code classes.MinusMinus = 48
code classes.Not = 49
code classes.AndAnd = 50
code classes.OrOr = 51
code classes.Coalesce = 52
code classes.Question = 53
code classes.Colon = 54
code classes.Equals = 55
code classes.PlusEquals = 56
code classes.MinusEquals = 57
code classes.TimesEquals = 58
code classes.OverEquals = 59
code classes.PercentEquals = 60
code classes.Arrow = 61

abbrev pub is_one_of : Class → List Class → Bool
is_one_of c cs = list_any (λ d. nat_eq (code c) (code d)) cs
