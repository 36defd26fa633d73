-- What each command has fetched and put.
use Rattle.std.specs.Prelude.{◌≡◌, ◌≤◌, ℕ, List, [], ◌∷◌, ◌++◌, Option, None, Some}
use Rattle.program_model.specs.declared.limits.Counted.{Counted}
use Rattle.program_model.specs.declared.limits.Counted.TheVariants.{RuleBytes, FileBytes, ScriptBytes}
use Rattle.command_line.specs.declared.command.CommandWords.{CommandWords}
use Rattle.command_line.specs.declared.command.CommandWords.TheVariants.{Nothing, Optimise, Check, Live, Trace, Workload}
use Rattle.command_line.specs.Spelling.{Spells}
use Rattle.redex_cli.specs.declared.fetching.Kind.{Kind}
use Rattle.redex_cli.specs.declared.fetching.Kind.TheVariants as kind

-- The words spell no command.
abbrev pub SpellsNothing : List (List ℕ) → Type 0
SpellsNothing words = (command : CommandWords) → Spells words command → ⊥

-- What a workload may count. The words spell no other.
abbrev pub CountsWithin : CommandWords → Type 0
CountsWithin (Workload count) = count ≤ 2000
CountsWithin _ = Unit {0}

-- A name that is fetched, and what it is read as.
pub record Fetch : Type 0 where
  pub name : List ℕ
  pub kind : Kind

-- What the bytes of such a name are counted as. A library is a file.
abbrev pub counted_as : Kind → Counted
counted_as kind.Rules = RuleBytes
counted_as kind.File = FileBytes
counted_as kind.Library = FileBytes
counted_as kind.Script = ScriptBytes

abbrev pub file_alone : List ℕ → List Fetch
file_alone input = record { name = input; kind = kind.File } ∷ []

abbrev pub rules_and_file : List ℕ → List ℕ → List Fetch
rules_and_file rules input = record { name = rules; kind = kind.Rules } ∷ record { name = input; kind = kind.File } ∷ []

abbrev pub library_file : Option (List ℕ) → List Fetch
library_file None = []
library_file (Some library) = record { name = library; kind = kind.Library } ∷ []

abbrev pub script_alone : List ℕ → List Fetch
script_alone script = record { name = script; kind = kind.Script } ∷ []

-- the rules, the file, and the library where the words name one
abbrev pub input_files : List ℕ → List ℕ → Option (List ℕ) → List Fetch
input_files rules input library = rules_and_file rules input ++ library_file library

-- the same, and the script
abbrev pub trace_files : List ℕ → List ℕ → Option (List ℕ) → List ℕ → List Fetch
trace_files rules input library script = input_files rules input library ++ script_alone script

-- The names that the command has fetched, in this order: the rules, the file, the library, the script.
abbrev pub fetches : CommandWords → List Fetch
fetches Nothing = []
fetches (Optimise words) = input_files words.rules words.input words.library
fetches (Check input) = file_alone input
fetches (Live rules input library) = input_files rules input library
fetches (Trace rules input script steps library) = trace_files rules input library script
fetches (Workload count) = []

-- The name that the command has put.
abbrev pub output_of : CommandWords → Option (List ℕ)
output_of (Optimise words) = Some words.output
output_of _ = None

-- The words have this name put.
pub record Puts (words : List (List ℕ)) (name : List ℕ) : Type 0 where
  pub command : CommandWords
  pub spelled : Spells words command
  pub output : output_of command ≡ Some name
