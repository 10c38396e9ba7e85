-- Every script that lines make is whole, its names are different, and no line of it is line 0.
use Rattle.std.proofs.Common.{◌≡◌, ℕ, ◌+◌, ◌<◌, ◌≤◌, Bool, true, false, IsTrue, List, [], ◌∷◌, ◌++◌, length, length-append, map, sum, nat_lt, if◌then◌else◌, Option, Some, None, Result, Ok, Err, slice_get, refl, ap, ◌∙◌, sym, subst, arith, append_assoc, append-nil}
use Rattle.std.specs.List.{filter_map, AllByRecursion, IsDistinct}
use Rattle.std.specs.Map.{lookup}
use Rattle.std.specs.Option.{option_map_or}
use Rattle.std.specs.Str.{bytes_eq}
use Rattle.std.proofs.lemmas.Bool.Decides.{nat_tests}
use Rattle.std.proofs.lemmas.List.{get_or_push}
use Rattle.std.proofs.lemmas.List.Elements.{filter_map-append}
use Rattle.std.proofs.lemmas.List.Sums.{sum_by_push}
use Rattle.std.proofs.lemmas.Option.{slice_get_within, slice_get_read, get_or_from_slice_get}
use Rattle.std.proofs.Math.ListN.{get_or-append}
use Rattle.host_syntax.specs.declared.script.HostScript.{HostScript}
use Rattle.host_syntax.specs.declared.script.IsolateDecl.{IsolateDecl}
use Rattle.host_syntax.specs.declared.script.Command.{Command}
use Rattle.host_syntax.specs.declared.script.What.{What}
use Rattle.host_syntax.specs.declared.script.What.TheVariants.{Declare, Context, Eval, Get, Set, Dispose, Wait}
use Rattle.host_syntax.specs.Whole.{is_call, MakesContext, IsCall, NamesEarlier, HasItsLabel, IsInPlace, IsWhole}
use Rattle.host_script.specs.declared.draft.Draft.{Draft}
use Rattle.host_script.specs.declared.fault.HostFault.{HostFault}
use Rattle.host_script.specs.declared.fault.HostFault.TheVariants.{At, NoMemory}
use Rattle.host_script.specs.declared.names.Named.{Named}
use Rattle.host_script.specs.declared.names.Named.TheVariants.{Isolate, Context as ContextLabel, Call}
use Rattle.host_script.specs.Commands.{no_lines, cells_of, with_isolate, with_named, with_wait}
use Rattle.host_script.proofs.NameLemmas.{bytes_differ, bytes_agree}
use Rattle.host_script.specs.Faults.{◌>>=◌}
use Rattle.host_script.specs.Script.{names_of}
use Rattle.host_script.specs.Words.{is_name}

-- ---- answers

-- an answer of which P holds, or a fault of a line
abbrev pub Holds : {A : Type 0} → (A → Type 0) → Result A HostFault → Type 0
Holds P (Ok answer) = P answer
Holds P (Err NoMemory) = Unit {0}
Holds P (Err (At n kind)) = 1 ≤ n

pub holds_if : {A : Type 0} (P : A → Type 0) (b : Bool) (x y : Result A HostFault) → (b ≡ true → Holds P x) → (b ≡ false → Holds P y) → Holds P (if b then x else y)
holds_if P true x y p q = p refl
holds_if P false x y p q = q refl

pub holds_then : {A B : Type 0} (P : A → Type 0) (Q : B → Type 0) (r : Result A HostFault) (f : A → Result B HostFault) → Holds P r → ((a : A) → P a → Holds Q (f a)) → Holds Q (r >>= f)
holds_then P Q (Ok a) f p q = q a p
holds_then P Q (Err NoMemory) f p q = tt
holds_then P Q (Err (At n kind)) f p q = p

pub holds_found : {A B : Type 0} (Q : B → Type 0) (found : Option A) (f : A → Result B HostFault) (otherwise : Result B HostFault) → ((a : A) → found ≡ Some a → Holds Q (f a)) → Holds Q otherwise → Holds Q (option_map_or f found otherwise)
holds_found Q None f otherwise p q = q
holds_found Q (Some a) f otherwise p q = p a refl

-- ---- lists

get_kept : {X : Type 0} (xs ys : List X) (k : ℕ) (x : X) → slice_get xs k ≡ Some x → slice_get (xs ++ ys) k ≡ Some x
get_kept xs ys k x e =
    let within = slice_get_within xs k x e in
    slice_get_read (xs ++ ys) (length (xs ++ ys)) k x refl (omega (arith, length-append xs ys)) (sym (get_or_from_slice_get xs k x x e) ∙ sym (get_or-append xs ys x k within))

pub get_pushed : {X : Type 0} (xs : List X) (x : X) → slice_get (xs ++ x ∷ []) (length xs) ≡ Some x
get_pushed xs x =
    slice_get_read (xs ++ x ∷ []) (length (xs ++ x ∷ [])) (length xs) x refl (omega (arith, length-append xs (x ∷ []))) (sym (get_or_push xs x x (length xs) refl))

get_before : {X : Type 0} (xs ys : List X) (k : ℕ) (x : X) → k < length xs → slice_get (xs ++ ys) k ≡ Some x → slice_get xs k ≡ Some x
get_before xs ys k x within e =
    slice_get_read xs (length xs) k x refl within (sym (get_or_from_slice_get (xs ++ ys) k x x e) ∙ get_or-append xs ys x k within)

get_last : {X : Type 0} (xs : List X) (y x : X) (k : ℕ) → length xs ≤ k → slice_get (xs ++ y ∷ []) k ≡ Some x → (k ≡ length xs) × (y ≡ x)
get_last xs y x k above e =
    let within = slice_get_within (xs ++ y ∷ []) k x e in
    let here : k ≡ length xs = omega (arith, length-append xs (y ∷ [])) in
    (here, sym (get_or_push xs y x k (sym here)) ∙ get_or_from_slice_get (xs ++ y ∷ []) k x x e)

all_push : {X : Type 0} (P : X → Type 0) (xs : List X) (x : X) → AllByRecursion P xs → P x → AllByRecursion P (xs ++ x ∷ [])
all_push P [] x all here = (here, tt)
all_push P (y ∷ ys) x all here = (all.0, all_push P ys x all.1 here)

all_weaker : {X : Type 0} (P Q : X → Type 0) (xs : List X) → ((x : X) → P x → Q x) → AllByRecursion P xs → AllByRecursion Q xs
all_weaker P Q [] f all = tt
all_weaker P Q (x ∷ xs) f all = (f x all.0, all_weaker P Q xs f all.1)

all_between : {X : Type 0} (P : X → Type 0) (xs ys : List X) (x : X) → AllByRecursion P (xs ++ ys) → P x → AllByRecursion P ((xs ++ x ∷ []) ++ ys)
all_between P [] ys x all here = (here, all)
all_between P (y ∷ xs) ys x all here = (all.0, all_between P xs ys x all.1 here)

differ_back : (x y : List ℕ) → bytes_eq x y ≡ false → bytes_eq y x ≡ false
differ_back x y e = bytes_differ y x (λ same. absurd_of (sym (bytes_agree x y (sym same)) ∙ e))
  where
    absurd_of : true ≡ false → ⊥
    absurd_of h = cc

-- a name is none of these
abbrev pub IsNoneOf : List ℕ → List (List ℕ) → Type 0
IsNoneOf name names = AllByRecursion (λ other. bytes_eq name other ≡ false) names

distinct_between : (xs ys : List (List ℕ)) (x : List ℕ) → IsDistinct bytes_eq (xs ++ ys) → IsNoneOf x (xs ++ ys) → IsDistinct bytes_eq ((xs ++ x ∷ []) ++ ys)
unfolding IsDistinct
distinct_between [] ys x distinct new = (new, distinct)
distinct_between (y ∷ xs) ys x distinct new =
    (all_between (λ other. bytes_eq y other ≡ false) xs ys x distinct.0 (differ_back x y new.0), distinct_between xs ys x distinct.1 new.1)

sum_push : (xs : List ℕ) (x : ℕ) → sum (xs ++ x ∷ []) ≡ sum xs + x
sum_push xs x = sum_by_push (λ y. y) xs x

map_push : {X Y : Type 0} (f : X → Y) (xs : List X) (x : X) → map f (xs ++ x ∷ []) ≡ map f xs ++ f x ∷ []
map_push f [] x = refl
map_push f (y ∷ xs) x = ap (λ l. f y ∷ l) (map_push f xs x)

-- ---- look-ups

abbrev pub Entries : Type 0
Entries = List (List ℕ × Named)

pub found_holds : (P : Named → Type 0) (test : List ℕ → Bool) (names : Entries) (meaning : Named) → AllByRecursion (λ (e : List ℕ × Named). P e.1) names → lookup test names ≡ Some meaning → P meaning
found_holds P test [] meaning all found = absurd (cc)
found_holds P test (e ∷ names) meaning all found =
    elim (test e.0) as (λ b. (if b then Some e.1 else lookup test names) ≡ Some meaning → P meaning)
    [ true ↦ (λ here. let same : e.1 ≡ meaning = cc in subst P same all.0) | false ↦ (λ later. found_holds P test names meaning all.1 later) ] found

none_before : (test : List ℕ → Bool) (names : Entries) (e : List ℕ × Named) → lookup test (names ++ e ∷ []) ≡ None → (lookup test names ≡ None) × (test e.0 ≡ false)
none_before test [] e none = (refl, elim (test e.0) as (λ b. (if b then Some e.1 else None) ≡ None → b ≡ false) [ true ↦ (λ h. absurd (cc)) | false ↦ (λ h. refl) ] none)
none_before test (x ∷ names) e none =
    elim (test x.0) as (λ b. (if b then Some x.1 else lookup test (names ++ e ∷ [])) ≡ None → ((if b then Some x.1 else lookup test names) ≡ None) × (test e.0 ≡ false))
    [ true ↦ (λ h. absurd (cc)) | false ↦ (λ h. none_before test names e h) ] none

-- ---- what commands name stays

module _ (isolates more : List IsolateDecl) (commands : List Command) (last : Command) (grown : length isolates ≤ length more) where
  abbrev before : HostScript
  before = record { isolates = isolates; commands = commands }

  abbrev behind : HostScript
  behind = record { isolates = more; commands = commands ++ last ∷ [] }

  makes_kept : (k i n : ℕ) → k ≤ i → MakesContext commands k n → MakesContext behind.commands i n
  makes_kept k i n later made = (made.0, made.1, omega (arith, made.2), get_kept commands (last ∷ []) n made.0 made.3, made.4)

  calls_kept : (k i n : ℕ) → k ≤ i → IsCall commands k n → IsCall behind.commands i n
  calls_kept k i n later called = (called.0, omega (arith, called.1), get_kept commands (last ∷ []) n called.0 called.2, called.3)

  names_kept : (k : ℕ) (what : What) → NamesEarlier before k what → NamesEarlier behind k what
  names_kept k Declare names = tt
  names_kept k (Context isolate) names = omega (arith, names)
  names_kept k (Eval context budget want text) names = (makes_kept k k context (omega arith) names.0, names.1, names.2, names.3, names.4)
  names_kept k (Get target key want) names = (makes_kept k k target (omega arith) names.0, names.1)
  names_kept k (Set target key value) names = (makes_kept k k target (omega arith) names.0, names.1)
  names_kept k (Dispose isolate) names = omega (arith, names)
  names_kept k (Wait None) names = tt
  names_kept k (Wait (Some target)) names = calls_kept k k target (omega arith) names

  in_place_kept : (k : ℕ) (command : Command) → IsInPlace before k command → IsInPlace behind k command
  in_place_kept k command place = record { labelled = place.labelled; names = names_kept k command.what place.names }

  -- a command more, whose names are there, keeps a script whole
  pub whole_more : IsWhole before → length more ≤ 64 → AllByRecursion (λ (decl : IsolateDecl). (1000 ≤ decl.limit) × (decl.limit ≤ 4000000)) more
      → sum (map (λ (decl : IsolateDecl). decl.limit) more) ≤ 16000000 → HasItsLabel last → NamesEarlier before (length commands) last.what → IsWhole behind
  whole_more whole few limits together labelled names = record {
    few = few;
    limits = limits;
    together = together;
    in_place = λ k command at. by k command at (nat_lt k (length commands)) refl;
  }
    where
      here : IsInPlace behind (length commands) last
      here = record { labelled = labelled; names = names_kept (length commands) last.what names }

      by : (k : ℕ) (command : Command) → slice_get (commands ++ last ∷ []) k ≡ Some command → (b : Bool) → nat_lt k (length commands) ≡ b → IsInPlace behind k command
      by k command at true known =
          let within : k < length commands = grind (arith, nat_tests) in
          in_place_kept k command (whole.in_place k command (get_before commands (last ∷ []) k command within at))
      by k command at false known =
          let above : length commands ≤ k = grind (arith, nat_tests) in
          let at_end = get_last commands last command k above at in
          subst (λ i. IsInPlace behind i command) (sym at_end.0) (subst (λ (c : Command). IsInPlace behind (length commands) c) at_end.1 here)

-- ---- drafts

-- what a name stands for is there
abbrev pub IsMeant : HostScript → Named → Type 0
IsMeant script (Isolate isolate) = isolate < length script.isolates
IsMeant script (ContextLabel call) = MakesContext script.commands (length script.commands) call
IsMeant script (Call call) = IsCall script.commands (length script.commands) call

-- a draft that lines made
pub record IsSound (draft : Draft) : Type 0 where
  pub whole : IsWhole draft.script
  pub names : AllByRecursion (λ name. IsTrue (is_name name)) (names_of draft.script)
  pub distinct : IsDistinct bytes_eq (names_of draft.script)
  pub listed : AllByRecursion (λ (e : List ℕ × Named). IsMeant draft.script e.1) draft.names
  pub free : (name : List ℕ) → lookup (bytes_eq name) draft.names ≡ None → IsNoneOf name (names_of draft.script)

pub sound_none : IsSound no_lines
unfolding IsDistinct
sound_none = record {
  whole = record { few = omega arith; limits = tt; together = omega arith; in_place = λ k command at. absurd (omega (arith, slice_get_within (let none : List Command = [] in none) k command at)) };
  names = tt;
  distinct = tt;
  listed = tt;
  free = λ name none. tt;
}

meant_kept : (isolates more : List IsolateDecl) (commands : List Command) (last : Command) (grown : length isolates ≤ length more) (meaning : Named)
    → IsMeant (record { isolates = isolates; commands = commands }) meaning → IsMeant (record { isolates = more; commands = commands ++ last ∷ [] }) meaning
meant_kept isolates more commands last grown (Isolate isolate) meant = omega (arith, meant)
meant_kept isolates more commands last grown (ContextLabel call) meant =
    makes_kept isolates more commands last grown (length commands) _ call (omega (arith, length-append commands (last ∷ []))) meant
meant_kept isolates more commands last grown (Call call) meant =
    calls_kept isolates more commands last grown (length commands) _ call (omega (arith, length-append commands (last ∷ []))) meant

-- a new name that a draft takes in
abbrev pub IsNew : Draft → List ℕ → Type 0
IsNew draft name = IsTrue (is_name name) × (lookup (bytes_eq name) draft.names ≡ None)

labels_more : (commands : List Command) (label : Option (List ℕ)) (what : What)
    → filter_map (λ (command : Command). command.label) (commands ++ (record { label = label; what = what }) ∷ [])
    ≡ filter_map (λ (command : Command). command.label) commands ++ filter_map (λ (command : Command). command.label) ((record { label = label; what = what }) ∷ [])
labels_more commands label what = filter_map-append (λ (command : Command). command.label) commands (record { label = label; what = what } ∷ [])

names_of_call : (script : HostScript) (label : List ℕ) (what : What)
    → names_of (record script { commands = script.commands ++ (record { label = Some label; what = what }) ∷ [] }) ≡ (names_of script ++ label ∷ []) ++ []
names_of_call script label what =
    ap (λ l. map (λ (decl : IsolateDecl). decl.name) script.isolates ++ l) (labels_more script.commands (Some label) what)
    ∙ sym (append_assoc (map (λ (decl : IsolateDecl). decl.name) script.isolates) (filter_map (λ (command : Command). command.label) script.commands) (label ∷ []))
    ∙ sym (append-nil (names_of script ++ label ∷ []))

names_of_wait : (script : HostScript) (what : What) → names_of (record script { commands = script.commands ++ (record { label = None; what = what }) ∷ [] }) ≡ names_of script
names_of_wait script what =
    ap (λ l. map (λ (decl : IsolateDecl). decl.name) script.isolates ++ l) (labels_more script.commands None what ∙ append-nil (filter_map (λ (command : Command). command.label) script.commands))

names_of_isolate : (draft : Draft) (name : List ℕ) (limit : ℕ)
    → names_of (with_isolate draft name limit).script ≡ (map (λ (decl : IsolateDecl). decl.name) draft.script.isolates ++ name ∷ []) ++ filter_map (λ (command : Command). command.label) draft.script.commands
names_of_isolate draft name limit =
    ap (λ l. l ++ filter_map (λ (command : Command). command.label) (with_isolate draft name limit).script.commands) (map_push (λ (decl : IsolateDecl). decl.name) draft.script.isolates (record { name = name; limit = limit }))
    ∙ ap (λ l. (map (λ (decl : IsolateDecl). decl.name) draft.script.isolates ++ name ∷ []) ++ l)
    (labels_more draft.script.commands None Declare ∙ append-nil (filter_map (λ (command : Command). command.label) draft.script.commands))

-- the names of a draft with a new one between
names_between : (draft : Draft) (xs ys : List (List ℕ)) (script : HostScript) (name : List ℕ) (meaning : Named) → IsSound draft → IsNew draft name → names_of draft.script ≡ xs ++ ys → names_of script ≡ (xs ++ name ∷ []) ++ ys
    → AllByRecursion (λ one. IsTrue (is_name one)) (names_of script) × IsDistinct bytes_eq (names_of script)
    × ((one : List ℕ) → lookup (bytes_eq one) (draft.names ++ (name, meaning) ∷ []) ≡ None → IsNoneOf one (names_of script))
names_between draft xs ys script name meaning sound new was now = (
  subst (AllByRecursion (λ one. IsTrue (is_name one))) (sym now) (all_between (λ one. IsTrue (is_name one)) xs ys name (subst (AllByRecursion (λ one. IsTrue (is_name one))) was sound.names) new.0),
  subst (IsDistinct bytes_eq) (sym now) (distinct_between xs ys name (subst (IsDistinct bytes_eq) was sound.distinct) (subst (IsNoneOf name) was (sound.free name new.1))),
  λ one none. let before = none_before (bytes_eq one) draft.names (name, meaning) none in
      subst (IsNoneOf one) (sym now) (all_between (λ other. bytes_eq one other ≡ false) xs ys name (subst (IsNoneOf one) was (sound.free one before.0)) before.1),
)

-- a call more
pub sound_call : (draft : Draft) (label : List ℕ) (what : What) (meaning : Named) → IsSound draft → IsNew draft label → is_call what ≡ true
    → NamesEarlier draft.script (length draft.script.commands) what → IsMeant (with_named draft label what meaning).script meaning → IsSound (with_named draft label what meaning)
sound_call draft label what meaning sound new call names meant =
    let last : Command = record { label = Some label; what = what } in
    let kept = names_between draft (names_of draft.script) [] (with_named draft label what meaning).script label meaning sound new (sym (append-nil (names_of draft.script))) (names_of_call draft.script label what) in
    record {
      whole = whole_more draft.script.isolates draft.script.isolates draft.script.commands last (omega arith) sound.whole sound.whole.few sound.whole.limits sound.whole.together
          ((λ _. (label, refl)), (λ none. absurd_of (sym call ∙ none))) names;
      names = kept.0;
      distinct = kept.1;
      listed = all_push (λ (e : List ℕ × Named). IsMeant (with_named draft label what meaning).script e.1) draft.names (label, meaning)
          (all_weaker _ _ draft.names (λ e was. meant_kept draft.script.isolates draft.script.isolates draft.script.commands last (omega arith) e.1 was) sound.listed) meant;
      free = kept.2;
    }
  where
    absurd_of : {A : Type 0} → true ≡ false → A
    absurd_of h = absurd (cc)

pub sound_wait : (draft : Draft) (target : Option ℕ) → IsSound draft → NamesEarlier draft.script (length draft.script.commands) (Wait target) → IsSound (with_wait draft target)
sound_wait draft target sound names =
    let last : Command = record { label = None; what = Wait target } in
    let same = names_of_wait draft.script (Wait target) in
    record {
      whole = whole_more draft.script.isolates draft.script.isolates draft.script.commands last (omega arith) sound.whole sound.whole.few sound.whole.limits sound.whole.together
          ((λ called. absurd_of (sym called)), (λ _. refl)) names;
      names = subst (AllByRecursion (λ one. IsTrue (is_name one))) (sym same) sound.names;
      distinct = subst (IsDistinct bytes_eq) (sym same) sound.distinct;
      listed = all_weaker _ _ draft.names (λ e was. meant_kept draft.script.isolates draft.script.isolates draft.script.commands last (omega arith) e.1 was) sound.listed;
      free = λ one none. subst (IsNoneOf one) (sym same) (sound.free one none);
    }
  where
    absurd_of : {A : Type 0} → true ≡ false → A
    absurd_of h = absurd (cc)

pub sound_isolate : (draft : Draft) (name : List ℕ) (limit : ℕ) → IsSound draft → IsNew draft name → (1000 ≤ limit) × (limit ≤ 4000000) → length draft.script.isolates < 64 → cells_of draft.script + limit ≤ 16000000
    → IsSound (with_isolate draft name limit)
sound_isolate draft name limit sound new within few together =
    let decl : IsolateDecl = record { name = name; limit = limit } in
    let last : Command = record { label = None; what = Declare } in
    let one_more = length-append draft.script.isolates (decl ∷ []) in
    let grown : length draft.script.isolates ≤ length (draft.script.isolates ++ decl ∷ []) = omega (arith, one_more) in
    let cells : sum (map (λ (d : IsolateDecl). d.limit) (draft.script.isolates ++ decl ∷ [])) ≡ cells_of draft.script + limit =
    ap sum (map_push (λ (d : IsolateDecl). d.limit) draft.script.isolates decl) ∙ sum_push (map (λ (d : IsolateDecl). d.limit) draft.script.isolates) limit in
    let kept = names_between draft (map (λ (d : IsolateDecl). d.name) draft.script.isolates) (filter_map (λ (command : Command). command.label) draft.script.commands)
    (with_isolate draft name limit).script name (Isolate (length draft.script.isolates)) sound new refl (names_of_isolate draft name limit) in
    record {
      whole = whole_more draft.script.isolates (draft.script.isolates ++ decl ∷ []) draft.script.commands last grown sound.whole (omega (arith, one_more))
          (all_push _ draft.script.isolates decl sound.whole.limits within) (omega (arith, cells))
          ((λ called. absurd_of (sym called)), (λ _. refl)) tt;
      names = kept.0;
      distinct = kept.1;
      listed = all_push (λ (e : List ℕ × Named). IsMeant (with_isolate draft name limit).script e.1) draft.names (name, Isolate (length draft.script.isolates))
          (all_weaker _ _ draft.names (λ e was. meant_kept draft.script.isolates (draft.script.isolates ++ decl ∷ []) draft.script.commands last grown e.1 was) sound.listed) (omega (arith, one_more));
      free = kept.2;
    }
  where
    absurd_of : {A : Type 0} → true ≡ false → A
    absurd_of h = absurd (cc)
