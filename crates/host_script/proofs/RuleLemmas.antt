-- Each command makes a sound draft of a sound one, or tells a fault of a line.
use Rattle.std.proofs.Common.{◌≡◌, ℕ, ◌+◌, ◌<◌, ◌≤◌, ◌==◌, ◌&&◌, Bool, true, false, IsTrue, List, [], ◌∷◌, length, length-append, not, nat_le, nat_lt, suc, zero, drop, if◌then◌else◌, Option, Some, None, Ok, is_some, pos, neg_ℤ, codes, refl, ap, subst, arith}
use Rattle.std.specs.List.{join_with_byte}
use Rattle.std.specs.Map.{lookup}
use Rattle.std.specs.Option.{option_map, option_map_or, option_and_then}
use Rattle.std.specs.Str.{bytes_eq, is_utf8}
use Rattle.std.proofs.lemmas.Bool.Decides.{nat_tests}
use Rattle.ivm_text.specs.Text.{units_of}
use Rattle.ivm_text.specs.declared.copies.Leaf.{Leaf}
use Rattle.ivm_text.specs.declared.copies.Leaf.TheVariants.{Undefined, Null, Bool as Boolean, Num}
use Rattle.ivm_text.specs.declared.copies.Want.TheVariants.{Value}
use Rattle.host_syntax.specs.declared.script.HostScript.{HostScript}
use Rattle.host_syntax.specs.declared.script.What.{What}
use Rattle.host_syntax.specs.declared.script.What.TheVariants.{Declare, Context, Eval, Get, Set, Dispose, Wait}
use Rattle.host_syntax.specs.declared.script.HostArgument.TheVariants.{Literal}
use Rattle.host_syntax.specs.Whole.{is_call, context_of, MakesContext, IsCall, IsPrimitiveLeaf}
use Rattle.host_script.specs.declared.commands.CommandWord.{CommandWord}
use Rattle.host_script.specs.declared.commands.CommandWord.TheVariants.{Isolate as IsolateWord, Context as ContextWord, Eval as EvalWord, Get as GetWord, Set as SetWord, Dispose as DisposeWord, Wait as WaitWord}
use Rattle.host_script.specs.declared.draft.Draft.{Draft}
use Rattle.host_script.specs.declared.fault.HostKind.TheVariants.{TooLong, BadWords, BadName, NameTaken, BadNumber, BadLiteral}
use Rattle.host_script.specs.declared.names.Named.{Named}
use Rattle.host_script.specs.declared.names.Named.TheVariants.{Isolate, Context as ContextLabel, Call}
use Rattle.host_script.specs.declared.text.Text.{Text}
use Rattle.host_script.specs.declared.text.Text.TheVariants.{Missing, Open, Given}
use Rattle.host_script.specs.Commands.{no_lines, cells_of, has_words, with_context, with_call, limit_given, limit_of, timeout_given, budget_of, isolate_line, context_line, eval_text, eval_line, get_line, value_of, set_text, set_line, dispose_line, wait_line}
use Rattle.host_script.specs.Faults.{◌>>=◌, fail}
use Rattle.host_script.specs.HostText.{command_line, command_of, can_have_text, unless_bad, with_text, with_command, with_line, with_lines, is_skipped}
use Rattle.host_script.specs.Literals.{literal_of, plain_literal, negative, number_of, lone_word, skip_spaces}
use Rattle.host_script.specs.Names.{named, new_name, isolate_among, context_among, call_among, isolate_named, context_named, call_named}
use Rattle.host_script.specs.Options.{words_with, number_between}
use Rattle.host_script.specs.Texts.{most_text, text_here, end_word, lines_until, first_bad, text_on, long_text, without_text, text_within, text_below, text_of}
use Rattle.host_script.specs.Words.{word, word_count, after_word, is_name}
use Rattle.host_script.proofs.WholeLemmas.{Holds, holds_if, holds_then, holds_found, IsSound, IsNew, IsMeant, found_holds, sound_none, sound_call, sound_wait, sound_isolate, get_pushed}

-- ---- names

is_true : (b : Bool) → b ≡ true → IsTrue b
is_true b e = grind (arith, nat_tests)

not_false : (b : Bool) → not b ≡ false → b ≡ true
not_false true e = refl
not_false false e = absurd (cc)

not_some : (found : Option Named) → is_some found ≡ false → found ≡ None
not_some None e = refl
not_some (Some meaning) e = absurd (cc)

new_name_holds : (n : ℕ) (draft : Draft) (name : List ℕ) → 1 ≤ n → Holds (IsNew draft) (new_name n draft.names name)
unfolding new_name named
new_name_holds n draft name some =
    holds_if (IsNew draft) (not (is_name name)) (fail n BadName) (if is_some (lookup (bytes_eq name) draft.names) then fail n NameTaken else Ok name) (λ _. some) (λ form.
    holds_if (IsNew draft) (is_some (lookup (bytes_eq name) draft.names)) (fail n NameTaken) (Ok name) (λ _. some) (λ free.
    (is_true (is_name name) (not_false (is_name name) form), not_some (lookup (bytes_eq name) draft.names) free)))

makes_is_call : (what : What) (isolate : ℕ) → context_of what ≡ Some isolate → is_call what ≡ true
makes_is_call Declare isolate e = absurd (cc)
makes_is_call (Context i) isolate e = refl
makes_is_call (Eval context budget want text) isolate e = refl
makes_is_call (Get target key want) isolate e = refl
makes_is_call (Set target key value) isolate e = refl
makes_is_call (Dispose i) isolate e = refl
makes_is_call (Wait target) isolate e = absurd (cc)

isolate_holds : (n : ℕ) (draft : Draft) (name : List ℕ) → 1 ≤ n → IsSound draft → Holds (λ isolate. isolate < length draft.script.isolates) (isolate_named n draft.names name)
unfolding isolate_named named
isolate_holds n draft name some sound = by (lookup (bytes_eq name) draft.names) (λ meaning found. found_holds (IsMeant draft.script) (bytes_eq name) draft.names meaning sound.listed found)
  where
    by : (found : Option Named) → ((meaning : Named) → found ≡ Some meaning → IsMeant draft.script meaning) → Holds (λ isolate. isolate < length draft.script.isolates) (isolate_among n found)
    by None meant = some
    by (Some (Isolate isolate)) meant = meant (Isolate isolate) refl
    by (Some (ContextLabel call)) meant = some
    by (Some (Call call)) meant = some

context_holds : (n : ℕ) (draft : Draft) (name : List ℕ) → 1 ≤ n → IsSound draft → Holds (MakesContext draft.script.commands (length draft.script.commands)) (context_named n draft.names name)
unfolding context_named named
context_holds n draft name some sound = by (lookup (bytes_eq name) draft.names) (λ meaning found. found_holds (IsMeant draft.script) (bytes_eq name) draft.names meaning sound.listed found)
  where
    by : (found : Option Named) → ((meaning : Named) → found ≡ Some meaning → IsMeant draft.script meaning) → Holds (MakesContext draft.script.commands (length draft.script.commands)) (context_among n found)
    by None meant = some
    by (Some (Isolate isolate)) meant = some
    by (Some (ContextLabel call)) meant = meant (ContextLabel call) refl
    by (Some (Call call)) meant = some

call_holds : (n : ℕ) (draft : Draft) (name : List ℕ) → 1 ≤ n → IsSound draft → Holds (IsCall draft.script.commands (length draft.script.commands)) (call_named n draft.names name)
unfolding call_named named
call_holds n draft name some sound = by (lookup (bytes_eq name) draft.names) (λ meaning found. found_holds (IsMeant draft.script) (bytes_eq name) draft.names meaning sound.listed found)
  where
    by : (found : Option Named) → ((meaning : Named) → found ≡ Some meaning → IsMeant draft.script meaning) → Holds (IsCall draft.script.commands (length draft.script.commands)) (call_among n found)
    by None meant = some
    by (Some (Isolate isolate)) meant = some
    by (Some (ContextLabel call)) meant =
        let made = meant (ContextLabel call) refl in
        (made.0, made.2, made.3, makes_is_call made.0.what made.1 made.4)
    by (Some (Call call)) meant = meant (Call call) refl

-- ---- literals

abbrev IsPrimitiveIfAny : Option Leaf → Type 0
IsPrimitiveIfAny None = Unit {0}
IsPrimitiveIfAny (Some leaf) = IsPrimitiveLeaf leaf

primitive_if : (b : Bool) (x y : Option Leaf) → IsPrimitiveIfAny x → IsPrimitiveIfAny y → IsPrimitiveIfAny (if b then x else y)
primitive_if true x y p q = p
primitive_if false x y p q = q

primitive_then : {A : Type 0} (f : A → Option Leaf) (found : Option A) → ((a : A) → IsPrimitiveIfAny (f a)) → IsPrimitiveIfAny (option_and_then f found)
primitive_then f None p = tt
primitive_then f (Some a) p = p a

primitive_number : (found : Option ℕ) → IsPrimitiveIfAny (option_map (λ n. Num (pos n)) found)
primitive_number None = tt
primitive_number (Some n) = tt

primitive_plain : (word : List ℕ) → IsPrimitiveIfAny (plain_literal word)
unfolding plain_literal
primitive_plain word = by (bytes_eq word (codes "undefined")) (bytes_eq word (codes "null")) (bytes_eq word (codes "true")) (bytes_eq word (codes "false"))
  where
    by : (a b c d : Bool)
        → IsPrimitiveIfAny (if a then Some Undefined else if b then Some Null else if c then Some (Boolean true) else if d then Some (Boolean false) else option_map (λ n. Num (pos n)) (number_of word))
    by true b c d = tt
    by false true c d = tt
    by false false true d = tt
    by false false false true = tt
    by false false false false = primitive_number (number_of word)

primitive_negative : (n : ℕ) → IsPrimitiveIfAny (negative n)
unfolding negative
primitive_negative n = primitive_if (n == 0) None (Some (Num (neg_ℤ (pos n)))) tt tt

primitive_literal : (text : List ℕ) → IsPrimitiveIfAny (literal_of text)
unfolding literal_of
primitive_literal text =
    primitive_if _ _ _ (primitive_then _ (lone_word (skip_spaces (drop 1 (skip_spaces text)))) (λ digits. primitive_then negative (number_of digits) primitive_negative))
    (primitive_then plain_literal (lone_word (skip_spaces text)) primitive_plain)

value_holds : (n : ℕ) (text : List ℕ) → 1 ≤ n → Holds IsPrimitiveLeaf (value_of n text)
value_holds n text some = by (literal_of text) (primitive_literal text)
  where
    by : (found : Option Leaf) → IsPrimitiveIfAny found → Holds IsPrimitiveLeaf (option_map_or Ok found (fail n BadLiteral))
    by None p = some
    by (Some leaf) p = p

-- ---- commands

-- a new command stands at the end
made_context : (draft : Draft) (label : List ℕ) (isolate : ℕ) → IsMeant (with_context draft label isolate).script (ContextLabel (length draft.script.commands))
made_context draft label isolate = (record { label = Some label; what = Context isolate }, isolate, longer, get_pushed draft.script.commands _, refl)
  where
    longer : length draft.script.commands < length (with_context draft label isolate).script.commands
    longer = omega (arith, length-append draft.script.commands ((record { label = Some label; what = Context isolate }) ∷ []))

made_call : (draft : Draft) (label : List ℕ) (what : What) → is_call what ≡ true → IsMeant (with_call draft label what).script (Call (length draft.script.commands))
made_call draft label what call = (record { label = Some label; what = what }, longer, get_pushed draft.script.commands _, call)
  where
    longer : length draft.script.commands < length (with_call draft label what).script.commands
    longer = omega (arith, length-append draft.script.commands ((record { label = Some label; what = what }) ∷ []))

-- a number that the value of an option may be
abbrev IsBetween : ℕ → ℕ → ℕ → Type 0
IsBetween least most number = (least ≤ number) × (number ≤ most)

number_holds : (least most n : ℕ) (value : List ℕ) → 1 ≤ n → Holds (IsBetween least most) (number_between least most n value)
unfolding number_between
number_holds least most n value some =
    holds_found (IsBetween least most) (number_of value) _ (fail n BadNumber) (λ number found.
    holds_if (IsBetween least most) (nat_le least number && nat_le number most) (Ok number) (fail n BadNumber) (both number) (λ _. some)) some
  where
    both : (number : ℕ) → (nat_le least number && nat_le number most) ≡ true → IsBetween least most number
    both number e = grind (arith, nat_tests)

-- a limit that a line may give
abbrev IsLimit : ℕ → Type 0
IsLimit = IsBetween 1000 4000000

limit_holds : (n : ℕ) (given : Option (List ℕ)) → 1 ≤ n → Holds IsLimit (limit_of n given)
limit_holds n None some = (omega arith, omega arith)
limit_holds n (Some value) some = number_holds 1000 4000000 n value some

-- a budget that a line may give
abbrev IsBudget : ℕ → Type 0
IsBudget = IsBetween 1 100000000

budget_holds : (n : ℕ) (given : Option (List ℕ)) → 1 ≤ n → Holds IsBudget (budget_of n given)
budget_holds n None some = (omega arith, omega arith)
budget_holds n (Some value) some = number_holds 1 100000000 n value some

isolate_line_holds : (n : ℕ) (draft : Draft) (words : List ℕ) (text : Option (List ℕ)) → 1 ≤ n → IsSound draft → Holds IsSound (isolate_line n draft words text)
unfolding isolate_line
isolate_line_holds n draft words text some sound =
    holds_if IsSound (not (has_words (words_with 1 (limit_given words)) words text)) _ _ (λ _. some) (λ _.
    holds_then (IsNew draft) IsSound (new_name n draft.names (word 0 words)) _ (new_name_holds n draft (word 0 words) some) (λ name new.
    holds_then IsLimit IsSound (limit_of n (limit_given words)) _ (limit_holds n (limit_given words) some) (λ limit allowed.
    holds_if IsSound (nat_le 64 (length draft.script.isolates)) _ _ (λ _. some) (λ few.
    holds_if IsSound (nat_lt 16000000 (cells_of draft.script + limit)) _ _ (λ _. some) (λ together.
    sound_isolate draft name limit sound new allowed (below few) (within limit together))))))
  where
    below : nat_le 64 (length draft.script.isolates) ≡ false → length draft.script.isolates < 64
    below e = grind (arith, nat_tests)

    within : (limit : ℕ) → nat_lt 16000000 (cells_of draft.script + limit) ≡ false → cells_of draft.script + limit ≤ 16000000
    within limit e = grind (arith, nat_tests)

context_line_holds : (n : ℕ) (draft : Draft) (words : List ℕ) (text : Option (List ℕ)) → 1 ≤ n → IsSound draft → Holds IsSound (context_line n draft words text)
unfolding context_line
context_line_holds n draft words text some sound =
    holds_if IsSound (not (has_words 2 words text)) _ _ (λ _. some) (λ _.
    holds_then (IsNew draft) IsSound (new_name n draft.names (word 0 words)) _ (new_name_holds n draft (word 0 words) some) (λ label new.
    holds_then (λ isolate. isolate < length draft.script.isolates) IsSound (isolate_named n draft.names (word 1 words)) _ (isolate_holds n draft (word 1 words) some sound) (λ isolate within.
    sound_call draft label (Context isolate) (ContextLabel (length draft.script.commands)) sound new refl within (made_context draft label isolate))))

dispose_line_holds : (n : ℕ) (draft : Draft) (words : List ℕ) (text : Option (List ℕ)) → 1 ≤ n → IsSound draft → Holds IsSound (dispose_line n draft words text)
unfolding dispose_line
dispose_line_holds n draft words text some sound =
    holds_if IsSound (not (has_words 2 words text)) _ _ (λ _. some) (λ _.
    holds_then (IsNew draft) IsSound (new_name n draft.names (word 0 words)) _ (new_name_holds n draft (word 0 words) some) (λ label new.
    holds_then (λ isolate. isolate < length draft.script.isolates) IsSound (isolate_named n draft.names (word 1 words)) _ (isolate_holds n draft (word 1 words) some sound) (λ isolate within.
    sound_call draft label (Dispose isolate) (Call (length draft.script.commands)) sound new refl within (made_call draft label (Dispose isolate) refl))))

eval_line_holds : (n : ℕ) (draft : Draft) (words : List ℕ) (text : Option (List ℕ)) → 1 ≤ n → ((t : List ℕ) → text ≡ Some t → length t ≤ 65536) → IsSound draft → Holds IsSound (eval_line n draft words text)
unfolding eval_line
eval_line_holds n draft words text some short sound =
    holds_found IsSound text (eval_text n draft words) (fail n BadWords) (λ t given.
    holds_if IsSound (not (word_count words == words_with 2 (timeout_given words))) _ _ (λ _. some) (λ _.
    holds_then (IsNew draft) IsSound (new_name n draft.names (word 0 words)) _ (new_name_holds n draft (word 0 words) some) (λ label new.
    holds_then (MakesContext draft.script.commands (length draft.script.commands)) IsSound (context_named n draft.names (word 1 words)) _ (context_holds n draft (word 1 words) some sound) (λ context made.
    holds_then IsBudget IsSound (budget_of n (timeout_given words)) _ (budget_holds n (timeout_given words) some) (λ budget allowed.
    sound_call draft label (Eval context budget Value t) (Call (length draft.script.commands)) sound new refl (made, allowed.0, allowed.1, refl, short t given) (made_call draft label (Eval context budget Value t) refl)))))) some

get_line_holds : (n : ℕ) (draft : Draft) (words : List ℕ) (text : Option (List ℕ)) → 1 ≤ n → IsSound draft → Holds IsSound (get_line n draft words text)
unfolding get_line
get_line_holds n draft words text some sound =
    holds_if IsSound (not (has_words 3 words text)) _ _ (λ _. some) (λ _.
    holds_then (IsNew draft) IsSound (new_name n draft.names (word 0 words)) _ (new_name_holds n draft (word 0 words) some) (λ label new.
    holds_then (MakesContext draft.script.commands (length draft.script.commands)) IsSound (context_named n draft.names (word 1 words)) _ (context_holds n draft (word 1 words) some sound) (λ context made.
    sound_call draft label (Get context (units_of (word 2 words)) Value) (Call (length draft.script.commands)) sound new refl (made, refl) (made_call draft label (Get context (units_of (word 2 words)) Value) refl))))

set_line_holds : (n : ℕ) (draft : Draft) (words : List ℕ) (text : Option (List ℕ)) → 1 ≤ n → IsSound draft → Holds IsSound (set_line n draft words text)
unfolding set_line
set_line_holds n draft words text some sound =
    holds_found IsSound text (set_text n draft words) (fail n BadWords) (λ t given.
    holds_if IsSound (not (word_count words == 3)) _ _ (λ _. some) (λ _.
    holds_then (IsNew draft) IsSound (new_name n draft.names (word 0 words)) _ (new_name_holds n draft (word 0 words) some) (λ label new.
    holds_then (MakesContext draft.script.commands (length draft.script.commands)) IsSound (context_named n draft.names (word 1 words)) _ (context_holds n draft (word 1 words) some sound) (λ context made.
    holds_then IsPrimitiveLeaf IsSound (value_of n t) _ (value_holds n t some) (λ root primitive.
    sound_call draft label (Set context (units_of (word 2 words)) (Literal (record { nodes = []; root = root }))) (Call (length draft.script.commands)) sound new refl (made, (refl, primitive))
    (made_call draft label (Set context (units_of (word 2 words)) (Literal (record { nodes = []; root = root }))) refl)))))) some

wait_line_holds : (n : ℕ) (draft : Draft) (words : List ℕ) (text : Option (List ℕ)) → 1 ≤ n → IsSound draft → Holds IsSound (wait_line n draft words text)
unfolding wait_line
wait_line_holds n draft words text some sound =
    holds_if IsSound (has_words 0 words text) _ _ (λ _. sound_wait draft None sound tt) (λ _.
    holds_if IsSound (not (has_words 1 words text)) _ _ (λ _. some) (λ _.
    holds_then (IsCall draft.script.commands (length draft.script.commands)) IsSound (call_named n draft.names (word 0 words)) _ (call_holds n draft (word 0 words) some sound) (λ call called.
    sound_wait draft (Some call) sound called)))

command_holds : (command : CommandWord) (n : ℕ) (draft : Draft) (words : List ℕ) (text : Option (List ℕ)) → 1 ≤ n → ((t : List ℕ) → text ≡ Some t → length t ≤ 65536) → IsSound draft
    → Holds IsSound (command_line command n draft words text)
unfolding command_line
command_holds IsolateWord n draft words text some short sound = isolate_line_holds n draft words text some sound
command_holds ContextWord n draft words text some short sound = context_line_holds n draft words text some sound
command_holds EvalWord n draft words text some short sound = eval_line_holds n draft words text some short sound
command_holds GetWord n draft words text some short sound = get_line_holds n draft words text some sound
command_holds SetWord n draft words text some short sound = set_line_holds n draft words text some sound
command_holds DisposeWord n draft words text some short sound = dispose_line_holds n draft words text some sound
command_holds WaitWord n draft words text some short sound = wait_line_holds n draft words text some sound

-- ---- texts

-- a text fits, and its first bad line is no line 0
abbrev IsGood : Text → Type 0
IsGood Missing = Unit {0}
IsGood Open = Unit {0}
IsGood (Given text bad) = (length text ≤ 65536) × ((n : ℕ) → bad ≡ Some n → 1 ≤ n)

bad_later : (n : ℕ) (lines : List (List ℕ)) (m : ℕ) → first_bad n lines ≡ Some m → n ≤ m
bad_later n [] m e = absurd (cc)
bad_later n (line ∷ lines) m e =
    elim (is_utf8 line) as (λ b. (if b then first_bad (n + 1) lines else Some n) ≡ Some m → n ≤ m)
    [ true ↦ (λ later. omega (arith, bad_later (n + 1) lines m later)) | false ↦ (λ here. let same : n ≡ m = cc in omega arith) ] e

text_on_holds : (n : ℕ) (body : List (List ℕ)) → 1 ≤ n → Holds (λ (t : Text × ℕ). IsGood t.0) (text_on n body)
text_on_holds n body some =
    holds_if (λ (t : Text × ℕ). IsGood t.0) (nat_lt most_text (length (join_with_byte 10 body))) _ _ (λ _. some) (λ short.
    (within (length (join_with_byte 10 body)) short, λ m bad. omega (arith, bad_later (n + 1) body m bad)))
  where
    within : (i : ℕ) → nat_lt most_text i ≡ false → i ≤ 65536
    within i e = grind (arith, nat_tests)

long_text_holds : (n : ℕ) (w : List ℕ) (lines : List (List ℕ)) → 1 ≤ n → Holds (λ (t : Text × ℕ). IsGood t.0) (long_text n w lines)
long_text_holds n w lines some = holds_found (λ (t : Text × ℕ). IsGood t.0) (lines_until w lines) (text_on n) (Ok (Open, length lines)) (λ body found. text_on_holds n body some) tt

abbrev Parts : Type 0
Parts = List ℕ × Text × ℕ

text_of_holds : (can_have : Bool) (n : ℕ) (rest : List ℕ) (lines : List (List ℕ)) → 1 ≤ n → Holds (λ (p : Parts). IsGood p.1) (text_of can_have n rest lines)
text_of_holds can_have n rest lines some =
    holds_found (λ (p : Parts). IsGood p.1) (text_here rest) (text_within n) _ (λ here found.
    holds_if (λ (p : Parts). IsGood p.1) (nat_lt most_text (length here.1)) _ _ (λ _. some) (λ short. (within (length here.1) short, λ m bad. absurd (cc))))
    (holds_if (λ (p : Parts). IsGood p.1) can_have _ (without_text rest)
    (λ _. holds_found (λ (p : Parts). IsGood p.1) (end_word rest) (text_below n lines) (without_text rest) (λ front found.
    holds_then (λ (t : Text × ℕ). IsGood t.0) (λ (p : Parts). IsGood p.1) (long_text n front.1 lines) _ (long_text_holds n front.1 lines some) (λ text good. good)) tt)
    (λ _. tt))
  where
    within : (i : ℕ) → nat_lt most_text i ≡ false → i ≤ 65536
    within i e = grind (arith, nat_tests)

-- ---- lines

abbrev IsSoundNext : Draft × ℕ → Type 0
IsSoundNext next = IsSound next.0

unless_bad_holds : (bad : Option ℕ) (next : Draft × ℕ) → ((n : ℕ) → bad ≡ Some n → 1 ≤ n) → IsSoundNext next → Holds IsSoundNext (unless_bad bad next)
unless_bad_holds None next late sound = sound
unless_bad_holds (Some n) next late sound = late n refl

with_text_holds : (command : CommandWord) (n : ℕ) (draft : Draft) (words : List ℕ) (text : Text) (taken : ℕ) → 1 ≤ n → IsGood text → IsSound draft → Holds IsSoundNext (with_text command n draft words text taken)
with_text_holds command n draft words Missing taken some good sound =
    holds_then IsSound IsSoundNext (command_line command n draft words None) _ (command_holds command n draft words None some (λ t e. absurd (cc)) sound) (λ next s. s)
with_text_holds command n draft words Open taken some good sound = some
with_text_holds command n draft words (Given text bad) taken some good sound =
    holds_then IsSound IsSoundNext (command_line command n draft words (Some text)) _
    (command_holds command n draft words (Some text) some (λ t e. let same : text ≡ t = cc in omega (arith, good.0, ap length same)) sound)
    (λ next s. unless_bad_holds bad (next, taken) good.1 s)

with_command_holds : (command : CommandWord) (n : ℕ) (draft : Draft) (line : List ℕ) (after : List (List ℕ)) → 1 ≤ n → IsSound draft → Holds IsSoundNext (with_command command n draft line after)
unfolding with_command
with_command_holds command n draft line after some sound =
    holds_then (λ (p : Parts). IsGood p.1) IsSoundNext (text_of (can_have_text command) n (after_word line) after) _ (text_of_holds (can_have_text command) n (after_word line) after some) (λ parts good.
    holds_if IsSoundNext (not (is_utf8 line)) _ _ (λ _. some) (λ _. with_text_holds command n draft parts.0 parts.1 parts.2 some good sound))

with_line_holds : (n : ℕ) (draft : Draft) (line : List ℕ) (after : List (List ℕ)) → 1 ≤ n → IsSound draft → Holds IsSoundNext (with_line n draft line after)
with_line_holds n draft line after some sound =
    holds_if IsSoundNext (is_skipped line) _ _
    (λ _. holds_if IsSoundNext (is_utf8 line) _ _ (λ _. sound) (λ _. some))
    (λ _. holds_found IsSoundNext (command_of (word 0 line)) (λ command. with_command command n draft line after) _ (λ command found. with_command_holds command n draft line after some sound) some)

with_lines_holds : (n inside : ℕ) (draft : Draft) (lines : List (List ℕ)) → 1 ≤ n → IsSound draft → Holds IsSound (with_lines n inside draft lines)
with_lines_holds n inside draft [] some sound = sound
with_lines_holds n (suc inside) draft (line ∷ after) some sound = with_lines_holds (n + 1) inside draft after (omega arith) sound
with_lines_holds n zero draft (line ∷ after) some sound =
    holds_then IsSoundNext IsSound (with_line n draft line after) (λ next. with_lines (n + 1) next.1 next.0 after) (with_line_holds n draft line after some sound)
    (λ next s. with_lines_holds (n + 1) next.1 next.0 after (omega arith) s)

-- what lines made is sound
pub lines_sound : (lines : List (List ℕ)) (draft : Draft) → with_lines 1 0 no_lines lines ≡ Ok draft → IsSound draft
lines_sound lines draft e = subst (Holds IsSound) e (with_lines_holds 1 0 no_lines lines (omega arith) sound_none)

-- no fault of a line is one of line 0
pub lines_late : (lines : List (List ℕ)) → (with_lines 1 0 no_lines lines >>= λ draft. Ok draft.script) ≡ fail {A = HostScript} 0 TooLong → ⊥
lines_late lines e = omega (
  arith,
  subst (Holds (λ (script : HostScript). Unit {0})) e
      (holds_then IsSound (λ (script : HostScript). Unit {0}) (with_lines 1 0 no_lines lines) (λ draft. Ok draft.script) (with_lines_holds 1 0 no_lines lines (omega arith) sound_none) (λ draft s. tt)),
)
