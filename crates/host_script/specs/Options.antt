-- The options that may stand behind the names of a command.
-- This project's own; docs/HOST.md, "Options".
use Rattle.std.specs.Prelude.{ℕ, ◌&&◌, suc, List, length, drop, nat_eq, nat_le, if◌then◌else◌, Option, None, Some, Result, Ok}
use Rattle.std.specs.List.{starts_with}
use Rattle.std.specs.Option.{option_map_or}
use Rattle.host_script.specs.declared.fault.HostFault.{HostFault}
use Rattle.host_script.specs.declared.fault.HostKind.TheVariants.{BadNumber}
use Rattle.host_script.specs.Faults.{fail}
use Rattle.host_script.specs.Literals.{number_of}

-- what a word gives to an option: all behind the option's name and `=`, with which the word begins
unfoldable pub given_to : List ℕ → List ℕ → Option (List ℕ)
given_to option word = if starts_with nat_eq word option then Some (drop (length option) word) else None

-- the words that a command wants where these many are no options, and this is what the next gives to its one option
abbrev pub words_with : ℕ → Option (List ℕ) → ℕ
words_with count None = count
words_with count (Some value) = suc count

-- the number from least to most that the value of an option on line n is
unfoldable pub number_between : ℕ → ℕ → ℕ → List ℕ → Result ℕ HostFault
number_between least most n value =
    option_map_or (λ number. if nat_le least number && nat_le number most then Ok number else fail n BadNumber) (number_of value) (fail n BadNumber)
