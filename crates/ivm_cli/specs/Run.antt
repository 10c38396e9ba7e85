-- What a call means to write, and what comes of it.
-- This project's own; docs/CLAIMS.md, "The top call".
use Rattle.std.specs.Prelude.{◌≡◌, ℕ, List, Ok, Err, Bool, true, false, Option}
use Rattle.std.specs.Io.KnownBytes.{Appends, Keeps}
use Rattle.ivm_io.specs.Transfers.{Reads, AppendsPrefix}
use Rattle.task_history.specs.Lists.{empty_record}
use Rattle.task_history.specs.declared.record.Record.{Record}
use Rattle.host_script.specs.HostText.{host_of}
use Rattle.host_syntax.specs.declared.script.HostScript.{HostScript}
use Rattle.host_script.specs.declared.fault.HostFault.TheVariants.{At}
use Rattle.host_script.specs.declared.fault.HostKind.{HostKind}
use Rattle.host_meaning.specs.Lawful.{IsLawful}
use Rattle.ivm_report.specs.Report.{report_of}
use Rattle.ivm_cli.specs.Texts.{usage_line, bad_host_line}
use Rattle.ivm_cli.specs.declared.status.Status.{Status}
use Rattle.ivm_cli.specs.declared.status.Status.TheVariants.{Done, Usage, BadHost, ReadFault, WriteFault, NoMemory}

-- the bytes that a host script may have at most
abbrev pub most : ℕ
most = 4194304

-- ---- what is to be written; left and rest: what was left to be read, before and after

-- the words are no command's: nothing is read
pub record WrongWords (left rest : Option (List ℕ)) (kept : Record) (text : List ℕ) : Type 0 where
  pub unread : Keeps left rest
  pub empty : kept ≡ empty_record
  pub says : text ≡ usage_line

-- the bytes that were read are no host script
pub record NoScript (left rest : Option (List ℕ)) (kept : Record) (text : List ℕ) : Type 0 where
  pub bytes : List ℕ
  pub read : Reads most left rest bytes
  pub line : ℕ
  pub kind : HostKind
  pub refused : host_of bytes ≡ Err (At line kind)
  pub empty : kept ≡ empty_record
  pub says : text ≡ bad_host_line line kind

-- they are a script, the record is lawful for it, and the text is the report of that record
pub record Ran (left rest : Option (List ℕ)) (kept : Record) (text : List ℕ) : Type 0 where
  pub bytes : List ℕ
  pub read : Reads most left rest bytes
  pub script : HostScript
  pub is_script : host_of bytes ≡ Ok script
  pub lawful : IsLawful script kept
  pub says : text ≡ report_of script kept

-- the text that is to be written with a status, where the words ask for a run and where they don't
abbrev pub Asks : Bool → Option (List ℕ) → Option (List ℕ) → Record → Status → List ℕ → Type 0
Asks false left rest kept Usage text = WrongWords left rest kept text
Asks false left rest kept Done text = ⊥
Asks false left rest kept BadHost text = ⊥
Asks false left rest kept ReadFault text = ⊥
Asks false left rest kept WriteFault text = ⊥
Asks false left rest kept NoMemory text = ⊥
Asks true left rest kept Done text = Ran left rest kept text
Asks true left rest kept BadHost text = NoScript left rest kept text
Asks true left rest kept Usage text = ⊥
Asks true left rest kept ReadFault text = ⊥
Asks true left rest kept WriteFault text = ⊥
Asks true left rest kept NoMemory text = ⊥

-- ---- what the sink got

-- the whole text of this status was written
pub record Whole (asks : Status → List ℕ → Type 0) (old new : Option (List ℕ)) (status : Status) : Type 0 where
  pub text : List ℕ
  pub asked : asks status text
  pub written : Appends old new text

-- a prefix of the text of some status was written
pub record CutShort (asks : Status → List ℕ → Type 0) (old new : Option (List ℕ)) : Type 0 where
  pub status : Status
  pub text : List ℕ
  pub asked : asks status text
  pub written : AppendsPrefix old new text

-- what the sink got at each status
abbrev pub Ends : (Status → List ℕ → Type 0) → Option (List ℕ) → Option (List ℕ) → Status → Type 0
Ends asks old new Done = Whole asks old new Done
Ends asks old new Usage = Whole asks old new Usage
Ends asks old new BadHost = Whole asks old new BadHost
Ends asks old new WriteFault = CutShort asks old new
Ends asks old new ReadFault = Keeps old new
Ends asks old new NoMemory = Keeps old new
