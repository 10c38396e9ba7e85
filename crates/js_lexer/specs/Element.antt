-- What the code tells of the front of a text. No caller needs this.
-- This project's own.
use Rattle.std.specs.Prelude.{◌≡◌, ℕ, ◌<◌, ◌≤◌, [], length, pos, false, Ok, Err, IfSome}
use Rattle.ivm_text.specs.Text.{max_number}
use Rattle.js_lexer.specs.declared.front.Element.{Element}
use Rattle.js_lexer.specs.declared.front.Element.TheVariants as elements
use Rattle.js_lexer.specs.declared.strings.StringEnd.{StringEnd}
use Rattle.js_lexer.specs.declared.strings.StringEnd.TheVariants as ends
use Rattle.js_lexer.specs.declared.strings.Turn.{Turn}
use Rattle.js_lexer.specs.declared.strings.Turn.TheVariants as turns
use Rattle.js_lexer.specs.Letters.{Text}
use Rattle.js_lexer.specs.Strings.{Ending, closed, unclosed, bad, before, units_for, Inside}
use Rattle.js_lexer.specs.declared.lexer.Reading.{Reading as Read}
use Rattle.js_lexer.specs.declared.lexer.Reading.TheVariants as reads
use Rattle.js_lexer.specs.Tokens.{Reads, place_of}
use Rattle.js_lexer.specs.Front.{Seen, ended, gap, token, fault}

abbrev pub seen_of : Element → Seen
seen_of elements.End = ended
seen_of (elements.Gap line rest) = gap line rest.now
seen_of (elements.Token kind units number rest) = token kind units (pos number) rest.now
seen_of (elements.Fault kind at) = fault kind at.now

-- what one character of a string does, or one escape
abbrev pub Turns : ℕ → Text → Turn → Type 0
Turns q t (turns.Go code rest) = (e : Ending) → Inside q (rest.now) e → Inside q t (before (units_for code) e)
Turns q t (turns.Close rest) = Inside q t (closed [] rest.now)
Turns q t turns.Unclosed = Inside q t unclosed
Turns q t (turns.Bad at) = Inside q t (bad at.now)

abbrev pub IsNearer : Text → Turn → Type 0
IsNearer t (turns.Go code rest) = (length (rest.now) < length t) × IfSome code (λ c. c ≤ 0x10FFFF)
IsNearer t (turns.Close rest) = length (rest.now) < length t
IsNearer t turns.Unclosed = Unit {0}
IsNearer t (turns.Bad at) = Unit {0}

-- what is left is shorter, and a number is one of a script
abbrev pub IsShorter : Text → Element → Type 0
IsShorter t elements.End = Unit {0}
IsShorter t (elements.Gap line rest) = length (rest.now) < length t
IsShorter t (elements.Token kind units number rest) = (length (rest.now) < length t) × (number ≤ max_number)
IsShorter t (elements.Fault kind at) = Unit {0}

abbrev pub ending_of : StringEnd → Ending
ending_of (ends.Closed units rest) = closed units rest.now
ending_of ends.Unclosed = unclosed
ending_of (ends.Bad at) = bad at.now

abbrev pub IsWithin : Text → StringEnd → Type 0
IsWithin t (ends.Closed units rest) = length (rest.now) ≤ length t
IsWithin t ends.Unclosed = Unit {0}
IsWithin t (ends.Bad at) = Unit {0}

-- what the whole text is read as
abbrev pub IsReading : Text → Read → Type 0
IsReading whole (reads.Tokens tokens) = Reads whole false whole (Ok tokens)
IsReading whole (reads.Fault kind place) = (at : Text) × Reads whole false whole (Err (kind, at)) × (place ≡ place_of whole at)
