-- What each command adds to a host script, or its first fault behind those of its text.
-- This project's own; docs/HOST.md, "Commands".
use Rattle.std.specs.Prelude.{ℕ, ◌+◌, ◌==◌, ◌&&◌, Bool, List, [], ◌∷◌, ◌++◌, length, map, sum, codes, not, nat_le, nat_lt, is_none, if◌then◌else◌, Option, None, Some, Result, Ok}
use Rattle.std.specs.Option.{option_map_or}
use Rattle.ivm_text.specs.Text.{units_of}
use Rattle.ivm_text.specs.declared.copies.Leaf.{Leaf}
use Rattle.ivm_text.specs.declared.copies.Want.TheVariants.{Value}
use Rattle.host_syntax.specs.declared.script.HostScript.{HostScript}
use Rattle.host_syntax.specs.declared.script.IsolateDecl.{IsolateDecl}
use Rattle.host_syntax.specs.declared.script.HostArgument.TheVariants.{Literal}
use Rattle.host_syntax.specs.declared.script.What.{What}
use Rattle.host_syntax.specs.declared.script.What.TheVariants.{Declare, Context, Eval, Get, Set, Dispose, Wait}
use Rattle.host_script.specs.declared.draft.Draft.{Draft}
use Rattle.host_script.specs.declared.fault.HostFault.{HostFault}
use Rattle.host_script.specs.declared.fault.HostKind.TheVariants.{BadWords, BadLiteral, TooManyIsolates, TotalCells}
use Rattle.host_script.specs.declared.names.Named.{Named}
use Rattle.host_script.specs.declared.names.Named.TheVariants.{Isolate, Context as ContextLabel, Call}
use Rattle.host_script.specs.Faults.{◌>>=◌, fail}
use Rattle.host_script.specs.Literals.{literal_of}
use Rattle.host_script.specs.Names.{new_name, isolate_named, context_named, call_named}
use Rattle.host_script.specs.Options.{given_to, words_with, number_between}
use Rattle.host_script.specs.Words.{word, word_count}

-- ---- limits

-- the isolates that a script may have
abbrev pub most_isolates : ℕ
most_isolates = 64

-- the cells that they may have together
abbrev pub most_cells : ℕ
most_cells = 16000000

-- the least limit, in cells, that one of them may have
abbrev pub least_limit : ℕ
least_limit = 1000

-- the greatest limit that one of them may have
abbrev pub most_limit : ℕ
most_limit = 4000000

-- the limit of one whose line gives none
abbrev pub usual_limit : ℕ
usual_limit = 1000000

-- the least budget, in ticks, in which a text may run
abbrev pub least_budget : ℕ
least_budget = 1

-- the greatest budget in which one may run
abbrev pub most_budget : ℕ
most_budget = 100000000

-- the budget of one whose line gives none
abbrev pub usual_budget : ℕ
usual_budget = 1000000

-- ---- a script, with one command more

-- the script of no lines
abbrev pub no_lines : Draft
no_lines = record { script = record { isolates = []; commands = [] }; names = [] }

-- the cells that the isolates of a script may have together
abbrev pub cells_of : HostScript → ℕ
cells_of script = sum (map (λ (decl : IsolateDecl). decl.limit) script.isolates)

-- an isolate is declared, with this limit in cells
abbrev pub with_isolate : Draft → List ℕ → ℕ → Draft
with_isolate draft name limit = record {
  script = record {
    isolates = draft.script.isolates ++ (record { name = name; limit = limit }) ∷ [];
    commands = draft.script.commands ++ (record { label = None; what = Declare }) ∷ [];
  };
  names = draft.names ++ (name, Isolate (length draft.script.isolates)) ∷ [];
}

-- a call follows under a label, which stands for this
abbrev pub with_named : Draft → List ℕ → What → Named → Draft
with_named draft label what named = record {
  script = record draft.script { commands = draft.script.commands ++ (record { label = Some label; what = what }) ∷ [] };
  names = draft.names ++ (label, named) ∷ [];
}

-- a call that makes a context
abbrev pub with_context : Draft → List ℕ → ℕ → Draft
with_context draft label isolate = with_named draft label (Context isolate) (ContextLabel (length draft.script.commands))

-- any other call
abbrev pub with_call : Draft → List ℕ → What → Draft
with_call draft label what = with_named draft label what (Call (length draft.script.commands))

-- a wait, which has no label
abbrev pub with_wait : Draft → Option ℕ → Draft
with_wait draft target = record draft {
  script = record draft.script { commands = draft.script.commands ++ (record { label = None; what = Wait target }) ∷ [] };
}

-- ---- the commands: each at line n, given the words behind it and its text

-- this many words, and no text
abbrev pub has_words : ℕ → List ℕ → Option (List ℕ) → Bool
has_words count words text = word_count words == count && is_none text

-- what the word behind the name gives to `limit`; none where it is no such option
abbrev pub limit_given : List ℕ → Option (List ℕ)
limit_given words = given_to (codes "limit=") (word 1 words)

-- the limit of an isolate on line n, by what is given
abbrev pub limit_of : ℕ → Option (List ℕ) → Result ℕ HostFault
limit_of n given = option_map_or (number_between least_limit most_limit n) given (Ok usual_limit)

-- `isolate NAME`, `isolate NAME limit=N`
unfoldable pub isolate_line : ℕ → Draft → List ℕ → Option (List ℕ) → Result Draft HostFault
isolate_line n draft words text =
    if not (has_words (words_with 1 (limit_given words)) words text) then fail n BadWords
    else (new_name n draft.names (word 0 words) >>= λ name.
    limit_of n (limit_given words) >>= λ limit.
    if nat_le most_isolates (length draft.script.isolates) then fail n TooManyIsolates
    else if nat_lt most_cells (cells_of draft.script + limit) then fail n TotalCells
    else Ok (with_isolate draft name limit))

-- `context LABEL ISOLATE`
unfoldable pub context_line : ℕ → Draft → List ℕ → Option (List ℕ) → Result Draft HostFault
context_line n draft words text =
    if not (has_words 2 words text) then fail n BadWords
    else (new_name n draft.names (word 0 words) >>= λ label.
    isolate_named n draft.names (word 1 words) >>= λ isolate.
    Ok (with_context draft label isolate))

-- what the word behind the names gives to `timeout`; none where it is no such option
abbrev pub timeout_given : List ℕ → Option (List ℕ)
timeout_given words = given_to (codes "timeout=") (word 2 words)

-- the budget of a text on line n, by what is given
abbrev pub budget_of : ℕ → Option (List ℕ) → Result ℕ HostFault
budget_of n given = option_map_or (number_between least_budget most_budget n) given (Ok usual_budget)

-- `eval LABEL CONTEXT`, `eval LABEL CONTEXT timeout=N`, each with this text
abbrev pub eval_text : ℕ → Draft → List ℕ → List ℕ → Result Draft HostFault
eval_text n draft words text =
    if not (word_count words == words_with 2 (timeout_given words)) then fail n BadWords
    else (new_name n draft.names (word 0 words) >>= λ label.
    context_named n draft.names (word 1 words) >>= λ context.
    budget_of n (timeout_given words) >>= λ budget.
    Ok (with_call draft label (Eval context budget Value text)))

-- `eval LABEL CONTEXT TEXT`, `eval LABEL CONTEXT timeout=N TEXT`
unfoldable pub eval_line : ℕ → Draft → List ℕ → Option (List ℕ) → Result Draft HostFault
eval_line n draft words text = option_map_or (eval_text n draft words) text (fail n BadWords)

-- `get LABEL CONTEXT KEY`; the key is the word itself
unfoldable pub get_line : ℕ → Draft → List ℕ → Option (List ℕ) → Result Draft HostFault
get_line n draft words text =
    if not (has_words 3 words text) then fail n BadWords
    else (new_name n draft.names (word 0 words) >>= λ label.
    context_named n draft.names (word 1 words) >>= λ context.
    Ok (with_call draft label (Get context (units_of (word 2 words)) Value)))

-- the primitive that the text of a `set` on line n is
abbrev pub value_of : ℕ → List ℕ → Result Leaf HostFault
value_of n text = option_map_or Ok (literal_of text) (fail n BadLiteral)

-- `set LABEL CONTEXT KEY` with this text
abbrev pub set_text : ℕ → Draft → List ℕ → List ℕ → Result Draft HostFault
set_text n draft words text =
    if not (word_count words == 3) then fail n BadWords
    else (new_name n draft.names (word 0 words) >>= λ label.
    context_named n draft.names (word 1 words) >>= λ context.
    value_of n text >>= λ root.
    Ok (with_call draft label (Set context (units_of (word 2 words)) (Literal (record { nodes = []; root = root })))))

-- `set LABEL CONTEXT KEY TEXT`
unfoldable pub set_line : ℕ → Draft → List ℕ → Option (List ℕ) → Result Draft HostFault
set_line n draft words text = option_map_or (set_text n draft words) text (fail n BadWords)

-- `dispose LABEL ISOLATE`
unfoldable pub dispose_line : ℕ → Draft → List ℕ → Option (List ℕ) → Result Draft HostFault
dispose_line n draft words text =
    if not (has_words 2 words text) then fail n BadWords
    else (new_name n draft.names (word 0 words) >>= λ label.
    isolate_named n draft.names (word 1 words) >>= λ isolate.
    Ok (with_call draft label (Dispose isolate)))

-- `wait`, `wait LABEL`
unfoldable pub wait_line : ℕ → Draft → List ℕ → Option (List ℕ) → Result Draft HostFault
wait_line n draft words text =
    if has_words 0 words text then Ok (with_wait draft None)
    else if not (has_words 1 words text) then fail n BadWords
    else (call_named n draft.names (word 0 words) >>= λ call. Ok (with_wait draft (Some call)))
