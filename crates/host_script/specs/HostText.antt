-- The host script that bytes are, or the first fault that keeps them from being one.
-- This project's own; docs/HOST.md, "Lines" and "Faults".
use Rattle.std.specs.Prelude.{ℕ, ◌+◌, ◌==◌, ◌||◌, Bool, true, false, suc, zero, not, List, [], ◌∷◌, length, codes, nat_eq, nat_lt, if◌then◌else◌, Option, None, Some, Result, Ok}
use Rattle.std.specs.List.{starts_with}
use Rattle.std.specs.Option.{option_map_or}
use Rattle.std.specs.Str.{bytes_eq, is_utf8}
use Rattle.host_syntax.specs.declared.script.HostScript.{HostScript}
use Rattle.host_script.specs.declared.commands.CommandWord.{CommandWord}
use Rattle.host_script.specs.declared.commands.CommandWord.TheVariants.{Isolate, Context, Eval, Get, Set, Dispose, Wait}
use Rattle.host_script.specs.declared.draft.Draft.{Draft}
use Rattle.host_script.specs.declared.fault.HostFault.{HostFault}
use Rattle.host_script.specs.declared.fault.HostKind.TheVariants.{TooLong, BadUtf8, UnknownCommand, OpenText}
use Rattle.host_script.specs.declared.text.Text.{Text}
use Rattle.host_script.specs.declared.text.Text.TheVariants.{Missing, Open, Given}
use Rattle.host_script.specs.Words.{lines_of, skip_blanks, after_word, word}
use Rattle.host_script.specs.Texts.{text_of}
use Rattle.host_script.specs.Faults.{◌>>=◌, fail}
use Rattle.host_script.specs.Commands.{no_lines, isolate_line, context_line, eval_line, get_line, set_line, dispose_line, wait_line}

-- the bytes that a script may have
abbrev pub most_bytes : ℕ
most_bytes = 4194304

-- a line of blanks, or a comment
abbrev pub is_skipped : List ℕ → Bool
is_skipped line = length (skip_blanks line) == 0 || starts_with nat_eq (skip_blanks line) (codes "#")

-- the command that a word is
unfoldable pub command_of : List ℕ → Option CommandWord
command_of word =
    if bytes_eq word (codes "isolate") then Some Isolate
    else if bytes_eq word (codes "context") then Some Context
    else if bytes_eq word (codes "eval") then Some Eval
    else if bytes_eq word (codes "get") then Some Get
    else if bytes_eq word (codes "set") then Some Set
    else if bytes_eq word (codes "dispose") then Some Dispose
    else if bytes_eq word (codes "wait") then Some Wait
    else None

-- the commands that can have a text
abbrev pub can_have_text : CommandWord → Bool
can_have_text Isolate = false
can_have_text Context = false
can_have_text Eval = true
can_have_text Get = false
can_have_text Set = true
can_have_text Dispose = false
can_have_text Wait = false

-- what a command at line n adds, given its words and its text
unfoldable pub command_line : CommandWord → ℕ → Draft → List ℕ → Option (List ℕ) → Result Draft HostFault
command_line Isolate = isolate_line
command_line Context = context_line
command_line Eval = eval_line
command_line Get = get_line
command_line Set = set_line
command_line Dispose = dispose_line
command_line Wait = wait_line

-- an answer, unless a line of the text before it isn't UTF-8
abbrev pub unless_bad : {A : Type 0} → Option ℕ → A → Result A HostFault
unless_bad None answer = Ok answer
unless_bad (Some n) answer = fail n BadUtf8

-- a command with its text, which takes this many lines: its own line's faults come before those of the text's lines
abbrev pub with_text : CommandWord → ℕ → Draft → List ℕ → Text → ℕ → Result (Draft × ℕ) HostFault
with_text command n draft words Missing taken = command_line command n draft words None >>= λ next. Ok (next, taken)
with_text command n draft words Open taken = fail n OpenText
with_text command n draft words (Given text bad) taken =
    command_line command n draft words (Some text) >>= λ next. unless_bad bad (next, taken)

-- a command on line n, with the lines after it: a text that is too long is told before all else
unfoldable pub with_command : CommandWord → ℕ → Draft → List ℕ → List (List ℕ) → Result (Draft × ℕ) HostFault
with_command command n draft line after =
    text_of (can_have_text command) n (after_word line) after >>= λ parts.
    if not (is_utf8 line) then fail n BadUtf8 else with_text command n draft parts.0 parts.1 parts.2

-- the script with what stands on line n, and how many of the lines after it belong to its text
abbrev pub with_line : ℕ → Draft → List ℕ → List (List ℕ) → Result (Draft × ℕ) HostFault
with_line n draft line after =
    if is_skipped line then (if is_utf8 line then Ok (draft, 0) else fail n BadUtf8)
    else option_map_or (λ command. with_command command n draft line after) (command_of (word 0 line))
    (fail n (if is_utf8 line then UnknownCommand else BadUtf8))

-- the script with the lines from the nth on, of which the first `inside` belong to a text before them
abbrev pub with_lines : ℕ → ℕ → Draft → List (List ℕ) → Result Draft HostFault
with_lines n inside draft [] = Ok draft
with_lines n (suc inside) draft (line ∷ after) = with_lines (n + 1) inside draft after
with_lines n zero draft (line ∷ after) = with_line n draft line after >>= λ next. with_lines (n + 1) next.1 next.0 after

-- what these bytes say, or their first fault
abbrev pub host_of : List ℕ → Result HostScript HostFault
host_of bytes =
    if nat_lt most_bytes (length bytes) then fail 0 TooLong
    else (with_lines 1 0 no_lines (lines_of bytes) >>= λ draft. Ok draft.script)
