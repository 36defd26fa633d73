-- What a run has fetched that has no fault, and how the run ends then.
use Rattle.std.specs.Prelude.{◌≡◌, ◌≤◌, ◌<◌, ◌⊎◌, ℕ, true, List, [], ◌∷◌, length, slice_index, Some, Err}
use Rattle.command_line.specs.Spelling.{Spells as SpellsCommand}
use Rattle.command_line.specs.declared.command.CommandWords.{CommandWords}
use Rattle.dalvik_defs.specs.Naming.{named}
use Rattle.dex_defs.specs.Parts.{Fault}
use Rattle.dex_defs.specs.ClassFaults.{HasFault}
use Rattle.dex_defs.specs.Spells.{Spells}
use Rattle.dex_read.specs.File.{program_at}
use Rattle.dex_read.specs.declared.fault.DexFault.TheVariants as dex
use Rattle.if_text.specs.Faults.{IsIfFault}
use Rattle.pass_defs.specs.Typed.{IsTyped}
use Rattle.past_law.specs.Within.{IsWithin}
use Rattle.program_model.specs.Limits.{limit_of}
use Rattle.program_model.specs.declared.limits.LimitFault.{LimitFault}
use Rattle.program_model.specs.declared.program.Program.{Program}
use Rattle.redex_cli.specs.Commands.{Fetch, counted_as, fetches}
use Rattle.redex_cli.specs.Fetching.{Failures}
use Rattle.redex_cli.specs.Refusals.{IsRuleFault, CouldNotFetch, CouldNotPut, CouldNotSay}
use Rattle.redex_cli.specs.declared.fetching.Kind.{Kind}
use Rattle.redex_cli.specs.declared.fetching.Kind.TheVariants as kind
use Rattle.redex_cli.specs.declared.status.Status.{Status}
use Rattle.redex_cli.specs.declared.status.Status.TheVariants.{Done, Limit, ReadFault, WriteFault, NoMemory}
use Rattle.redex_outside.specs.Held.{Held}
use Rattle.refused_code.specs.Faultless.{IsFaultless}
use Rattle.rule_text.specs.declared.fault.RuleFault.{RuleFault}
use Rattle.text_defs.specs.Plays.{play_of}
use Rattle.text_defs.specs.declared.fault.ScriptFault.TheVariants as script

-- ---- good inputs

-- rules without a fault
abbrev pub AreGoodRules : List ℕ → Type 0
AreGoodRules text = (fault : RuleFault) → IsRuleFault fault → IsIfFault text fault → ⊥

-- A file without a fault, in its class graph neither, and what it spells is typed by names.
pub record IsGoodFile (bytes : List ℕ) : Type 0 where
  pub are_bytes : (i : ℕ) → slice_index bytes i < 256
  pub faultless : (fault : Fault) → HasFault bytes fault → ⊥
  pub typed : (program : Program) → Spells bytes program → IsTyped (named program)

-- A library in which no fault stands but in its class graph.
pub record IsGoodLibrary (bytes : List ℕ) : Type 0 where
  pub are_bytes : (i : ℕ) → slice_index bytes i < 256
  pub faultless : IsFaultless bytes

-- a script none of whose lines is outside the grammar
abbrev pub IsGoodScript : List ℕ → Type 0
IsGoodScript text = (line : ℕ) → play_of text ≡ Err (script.Line line) → ⊥

abbrev pub IsGoodAs : Kind → List ℕ → Type 0
IsGoodAs kind.Rules bytes = AreGoodRules bytes
IsGoodAs kind.File bytes = IsGoodFile bytes
IsGoodAs kind.Library bytes = IsGoodLibrary bytes
IsGoodAs kind.Script bytes = IsGoodScript bytes

-- The name holds such bytes, and no more of them than a fetch takes.
pub record HoldsGood (held : Held) (fetch : Fetch) : Type 0 where
  pub bytes : List ℕ
  pub there : held fetch.name ≡ Some bytes
  pub within : length bytes ≤ limit_of (counted_as fetch.kind)
  pub good : IsGoodAs fetch.kind bytes

abbrev pub AllGood : Held → List Fetch → Type 0
AllGood held [] = Unit {0}
AllGood held (fetch ∷ later) = HoldsGood held fetch × AllGood held later

-- something is fetched, and all of it is good
abbrev pub GoodFetches : Held → List Fetch → Type 0
GoodFetches held [] = ⊥
GoodFetches held (fetch ∷ later) = AllGood held (fetch ∷ later)

-- The words spell a command that has something fetched, and all of it is good.
pub record AreGood (words : List (List ℕ)) (held : Held) : Type 0 where
  pub command : CommandWords
  pub spelled : SpellsCommand words command
  pub good : GoodFetches held (fetches command)

-- ---- how a run ends

-- The name is fetched as a file or as a library, and its bytes pass this limit inside.
pub record HoldsPast (held : Held) (fetch : Fetch) (fault : LimitFault) : Type 0 where
  pub is_dex : (fetch.kind ≡ kind.File) ⊎ (fetch.kind ≡ kind.Library)
  pub bytes : List ℕ
  pub there : held fetch.name ≡ Some bytes
  pub passes : program_at bytes ≡ Err (dex.Limit fault)

abbrev pub OnePast : Held → List Fetch → LimitFault → Type 0
OnePast held [] fault = ⊥
OnePast held (fetch ∷ later) fault = HoldsPast held fetch fault ⊎ OnePast held later fault

pub record PassesOne (words : List (List ℕ)) (held : Held) (fault : LimitFault) : Type 0 where
  pub command : CommandWords
  pub spelled : SpellsCommand words command
  pub one : OnePast held (fetches command) fault

-- Done, for want of memory, where a count of the shelf or of the notes rose, or at a limit inside a file.
abbrev pub EndsGood : List (List ℕ) → Held → Failures → Failures → Failures → Failures → ℕ → ℕ → Status → Type 0
EndsGood words held fetches_old fetches_new puts_old puts_new notes_old notes_new Done = Unit {0}
EndsGood words held fetches_old fetches_new puts_old puts_new notes_old notes_new NoMemory = Unit {0}
EndsGood words held fetches_old fetches_new puts_old puts_new notes_old notes_new ReadFault = CouldNotFetch words true held fetches_old fetches_new
EndsGood words held fetches_old fetches_new puts_old puts_new notes_old notes_new WriteFault = CouldNotPut words true held puts_old puts_new ⊎ CouldNotSay words true held notes_old notes_new
EndsGood words held fetches_old fetches_new puts_old puts_new notes_old notes_new (Limit fault) = PassesOne words held fault
EndsGood words held fetches_old fetches_new puts_old puts_new notes_old notes_new status = ⊥

-- ---- and within all limits

-- The bytes under the name pass no limit inside, where it is fetched as a file or as a library.
abbrev pub IsInside : Held → Fetch → Type 0
IsInside held fetch = (fetch.kind ≡ kind.File) ⊎ (fetch.kind ≡ kind.Library) → (bytes : List ℕ) → held fetch.name ≡ Some bytes → IsWithin bytes

abbrev pub AllInside : Held → List Fetch → Type 0
AllInside held [] = Unit {0}
AllInside held (fetch ∷ later) = IsInside held fetch × AllInside held later

-- the same ends but for a passed limit
abbrev pub EndsWithin : List (List ℕ) → Held → Failures → Failures → Failures → Failures → ℕ → ℕ → Status → Type 0
EndsWithin words held fetches_old fetches_new puts_old puts_new notes_old notes_new (Limit fault) = ⊥
EndsWithin words held fetches_old fetches_new puts_old puts_new notes_old notes_new status = EndsGood words held fetches_old fetches_new puts_old puts_new notes_old notes_new status
