-- Why a run is refused, and what holds where it is not.
use Rattle.std.specs.Prelude.{◌≡◌, ◌⊎◌, ◌+◌, ℕ, List, Bool, IsTrue, Option, None, Some, Err}
use Rattle.if_text.specs.Faults.{IsIfFault}
use Rattle.rule_text.specs.declared.fault.RuleFault.{RuleFault}
use Rattle.rule_text.specs.declared.fault.RuleFault.TheVariants as rule
use Rattle.dex_read.specs.Counts.{PassesInFile}
use Rattle.dex_read.specs.declared.fault.DexFault.{DexFault}
use Rattle.dex_read.specs.declared.fault.DexFault.TheVariants as dex
use Rattle.hierarchy.specs.declared.fault.HierarchyFault.{HierarchyFault}
use Rattle.hierarchy.specs.declared.fault.HierarchyFault.TheVariants as classes
use Rattle.verify.specs.declared.fault.TypeFault.{TypeFault}
use Rattle.verify.specs.declared.fault.TypeFault.TheVariants as typing
use Rattle.text_defs.specs.Plays.{play_of}
use Rattle.text_defs.specs.declared.fault.ScriptFault.TheVariants as script
use Rattle.program_model.specs.Limits.{limit_of}
use Rattle.program_model.specs.declared.limits.Counted.{Counted}
use Rattle.program_model.specs.declared.limits.LimitFault.{LimitFault}
use Rattle.redex_outside.specs.Counts.{Rose}
use Rattle.redex_outside.specs.Held.{Held}
use Rattle.redex_outside.specs.Voices.{Voice}
use Rattle.command_line.specs.declared.command.CommandWords.{CommandWords}
use Rattle.command_line.specs.Spelling.{Spells}
use Rattle.redex_cli.specs.Commands.{Fetch, Puts, SpellsNothing, fetches, output_of}
use Rattle.redex_cli.specs.Fetching.{Failures, AllWithin, FetchFailed, FirstTooLong, OneBadLine, PassesByOne}
use Rattle.redex_cli.specs.Files.{AllInputsRead, AllRead, AllReadAs, BytesRefused, FileCause, HasLibrary, LibraryRefused, RulesCause}
use Rattle.redex_cli.specs.Finished.{IsOutputOf, Results}
use Rattle.redex_cli.specs.Stays.{Stays}
use Rattle.redex_cli.specs.declared.fetching.Inputs.{Inputs}
use Rattle.redex_cli.specs.declared.fetching.Kind.TheVariants as kind
use Rattle.redex_cli.specs.declared.status.InputFault.{InputFault}
use Rattle.redex_cli.specs.declared.status.InputFault.TheVariants as input
use Rattle.redex_cli.specs.declared.status.Status.{Status}
use Rattle.redex_cli.specs.declared.status.Status.TheVariants.{Done, Usage, BadRules, BadDex, Limit, ReadFault, WriteFault, NoMemory, BadScript}

-- ---- the faults of the inputs

-- Want of memory is a status of its own, and is not nested here.
abbrev pub IsRuleFault : RuleFault → Type 0
IsRuleFault rule.NoMemory = ⊥
IsRuleFault _ = Unit {0}

-- Nor is a limit.
abbrev pub IsDexFault : DexFault → Type 0
IsDexFault dex.NoMemory = ⊥
IsDexFault (dex.Limit fault) = ⊥
IsDexFault _ = Unit {0}

abbrev pub IsHierarchyFault : HierarchyFault → Type 0
IsHierarchyFault classes.NoMemory = ⊥
IsHierarchyFault _ = Unit {0}

abbrev pub IsTypeFault : TypeFault → Type 0
IsTypeFault typing.NoMemory = ⊥
IsTypeFault _ = Unit {0}

-- A fault of a file. A library is none.
abbrev pub IsInputFault : InputFault → Type 0
IsInputFault (input.Dex fault) = IsDexFault fault
IsInputFault (input.Hierarchy fault) = IsHierarchyFault fault
IsInputFault (input.Typing fault) = IsTypeFault fault
IsInputFault (input.Library fault) = ⊥

-- A fault of a library, where there is one.
abbrev pub IsLibraryFault : Option (List ℕ) → DexFault → Type 0
IsLibraryFault None fault = ⊥
IsLibraryFault (Some library) fault = IsDexFault fault

-- What the work on a library may be refused with.
abbrev pub IsLibraryRefusal : Status → Type 0
IsLibraryRefusal (BadDex (input.Library fault)) = IsDexFault fault
IsLibraryRefusal (Limit fault) = PassesInFile fault
IsLibraryRefusal NoMemory = Unit {0}
IsLibraryRefusal _ = ⊥

-- The same of a library that there may be, with what its bytes say of it.
abbrev pub LibraryEnds : Option (List ℕ) → Status → Type 0
LibraryEnds None status = ⊥
LibraryEnds (Some bytes) status = IsLibraryRefusal status × LibraryRefused bytes status

-- What the work on a file alone may be refused with.
abbrev pub ReadRefused : Status → Type 0
ReadRefused (BadDex fault) = IsInputFault fault
ReadRefused (Limit fault) = PassesInFile fault
ReadRefused NoMemory = Unit {0}
ReadRefused _ = ⊥

-- What the work on these inputs may be refused with.
abbrev pub WorkRefused : Inputs → Status → Type 0
WorkRefused inputs (BadRules fault) = IsRuleFault fault × IsIfFault inputs.rules fault
WorkRefused inputs (BadDex (input.Library fault)) = IsLibraryFault inputs.library fault
WorkRefused inputs status = ReadRefused status

-- The same of inputs that are made, whatever they are, without a library.
pub record MadeRefused (status : Status) : Type 0 where
  pub inputs : Inputs
  pub alone : inputs.library ≡ None
  pub refused : WorkRefused inputs status
  pub bytes : BytesRefused inputs status

-- What the work on these inputs and a script of this text may be refused with.
abbrev pub TraceRefused : Inputs → List ℕ → Status → Type 0
TraceRefused inputs text (BadScript line) = play_of text ≡ Err (script.Line line)
TraceRefused inputs text status = WorkRefused inputs status

-- ---- the limits and the faults of what is fetched

-- Refusals come in this order: the fetches, in the order of the names; the rules; the file, its class graph and its types; the library; the
-- script; the put; the saying. Each cause says that nothing before it is refused, where the shelf tells what it holds.

-- All names keep their limits, the rules are read, and a quantity that is counted inside the file or the library, which is none of bytes,
-- passes its own.
pub record PassesInside (tells : Bool) (held : Held) (names : List Fetch) (fault : LimitFault) : Type 0 where
  pub inside : PassesInFile fault
  pub within : IsTrue tells → AllWithin held names
  pub rules : IsTrue tells → AllReadAs kind.Rules held names
  pub file : IsTrue tells → FileCause held names (Limit fault)

-- A fault of a library comes where one is fetched.
abbrev pub IsFaultOf : List Fetch → InputFault → Type 0
IsFaultOf names (input.Library fault) = IsDexFault fault × HasLibrary names
IsFaultOf names fault = IsInputFault fault

-- A fault of the file, or of the library behind a file that is accepted, which is one of those that the bytes have. All names keep their
-- limits, and the rules are read.
pub record FileFault (tells : Bool) (held : Held) (names : List Fetch) (fault : InputFault) : Type 0 where
  pub carried : IsFaultOf names fault
  pub within : IsTrue tells → AllWithin held names
  pub rules : IsTrue tells → AllReadAs kind.Rules held names
  pub file : IsTrue tells → FileCause held names (BadDex fault)

-- A fault of the rules, which is the one that their text has. All names keep their limits.
pub record RulesFault (tells : Bool) (held : Held) (names : List Fetch) (fault : RuleFault) : Type 0 where
  pub carried : IsRuleFault fault
  pub within : IsTrue tells → AllWithin held names
  pub ruling : IsTrue tells → RulesCause held names fault

-- The first line of the script that is outside the grammar. All names keep their limits, the rules are read, the file is accepted, and the
-- library declares one.
pub record LineFault (tells : Bool) (held : Held) (names : List Fetch) (line : ℕ) : Type 0 where
  pub within : IsTrue tells → AllWithin held names
  pub read : IsTrue tells → AllInputsRead held names
  pub bad : IsTrue tells → OneBadLine held names line

-- A fetch passed its limit, or something inside the file or the library does. So the bytes of the rules, of a file or of a script are
-- named exactly where their fetch took one more than its limit.
abbrev pub LimitCause : Bool → Held → List Fetch → LimitFault → Type 0
LimitCause tells held names fault = PassesByOne tells held names fault ⊎ PassesInside tells held names fault

-- The run ends with this limit, passed by one, unless a fetch failed or memory ran out.
abbrev pub EndsTooLong : Counted → Status → Type 0
EndsTooLong counted (Limit fault) = (fault.counted ≡ counted) × (fault.number ≡ limit_of counted + 1)
EndsTooLong counted ReadFault = Unit {0}
EndsTooLong counted NoMemory = Unit {0}
EndsTooLong counted _ = ⊥

-- ---- a command

-- The count of failed puts of the output's name rose.
pub record OutputRose (output : Option (List ℕ)) (old new : Failures) : Type 0 where
  pub name : List ℕ
  pub is_output : output ≡ Some name
  pub rose : Rose (old name) (new name)

-- The same, behind all that is read.
pub record PutFailed (tells : Bool) (held : Held) (names : List Fetch) (output : Option (List ℕ)) (old new : Failures) : Type 0 where
  pub rose : OutputRose output old new
  pub read : IsTrue tells → AllRead held names

-- Why a command that has these names fetched and this one put is refused with this status.
abbrev pub Cause : List Fetch → Option (List ℕ) → Bool → Held → Failures → Failures → Failures → Failures → Status → Type 0
Cause names output tells held fetches_old fetches_new puts_old puts_new (BadRules fault) = RulesFault tells held names fault
Cause names output tells held fetches_old fetches_new puts_old puts_new (BadDex fault) = FileFault tells held names fault
Cause names output tells held fetches_old fetches_new puts_old puts_new (Limit fault) = LimitCause tells held names fault
Cause names output tells held fetches_old fetches_new puts_old puts_new ReadFault = FetchFailed tells held fetches_old fetches_new names
Cause names output tells held fetches_old fetches_new puts_old puts_new WriteFault = PutFailed tells held names output puts_old puts_new
Cause names output tells held fetches_old fetches_new puts_old puts_new NoMemory = Unit {0}
Cause names output tells held fetches_old fetches_new puts_old puts_new (BadScript line) = LineFault tells held names line
Cause names output tells held fetches_old fetches_new puts_old puts_new _ = ⊥

-- A command that has these names fetched and this one put, with a final output, is refused with this status.
pub record Refuses (names : List Fetch) (output : Option (List ℕ)) (IsFinal : List ℕ → List ℕ → Type 0) (tells : Bool) (old new : Held)
    (fetches_old fetches_new puts_old puts_new : Failures) (status : Status) : Type 0 where
  pub cause : Cause names output tells old fetches_old fetches_new puts_old puts_new status
  pub too_long : (counted : Counted) → IsTrue tells → FirstTooLong old names counted → EndsTooLong counted status
  pub stays : IsTrue tells → Stays (λ name. output ≡ Some name) IsFinal status puts_old puts_new old new

-- The name holds a final output that has this summary.
pub record HoldsSummed (IsFinal : List ℕ → List ℕ → Type 0) (summary : List ℕ) (held : Option (List ℕ)) : Type 0 where
  pub output : List ℕ
  pub final : IsFinal output summary
  pub there : held ≡ Some output

-- A command that has these names fetched and this one put, with a final output, gives this text to be said.
pub record Gives (names : List Fetch) (output : Option (List ℕ)) (IsFinal : List ℕ → List ℕ → Type 0) (IsAnswer : List ℕ → Type 0) (tells : Bool) (old new : Held)
    (text : List ℕ) : Type 0 where
  pub within : IsTrue tells → AllWithin old names
  pub read : IsTrue tells → AllRead old names
  pub answer : IsAnswer text
  pub others : IsTrue tells → (name : List ℕ) → (output ≡ Some name → ⊥) → new name ≡ old name
  pub put : IsTrue tells → (name : List ℕ) → output ≡ Some name → HoldsSummed IsFinal text (new name)

-- ---- words

-- The count of failed fetches rose for a name that the words have fetched, behind names that keep their limits.
pub record CouldNotFetch (words : List (List ℕ)) (tells : Bool) (held : Held) (old new : Failures) : Type 0 where
  pub command : CommandWords
  pub spelled : Spells words command
  pub cause : FetchFailed tells held old new (fetches command)

-- The count of failed puts rose for the name that the words have put, behind all that is read.
pub record CouldNotPut (words : List (List ℕ)) (tells : Bool) (held : Held) (old new : Failures) : Type 0 where
  pub command : CommandWords
  pub spelled : Spells words command
  pub cause : PutFailed tells held (fetches command) (output_of command) old new

-- The count of failed sayings rose at the result of what the words ask for, behind all that is read.
pub record CouldNotSay (words : List (List ℕ)) (tells : Bool) (held : Held) (old new : ℕ) : Type 0 where
  pub command : CommandWords
  pub spelled : Spells words command
  pub rose : Rose old new
  pub read : IsTrue tells → AllRead held (fetches command)

-- A limit is passed that the words' command counts.
pub record PassesLimit (words : List (List ℕ)) (tells : Bool) (held : Held) (fault : LimitFault) : Type 0 where
  pub command : CommandWords
  pub spelled : Spells words command
  pub cause : LimitCause tells held (fetches command) fault

-- A fault stands in the file or the library that the words' command reads.
pub record HasFileFault (words : List (List ℕ)) (tells : Bool) (held : Held) (fault : InputFault) : Type 0 where
  pub command : CommandWords
  pub spelled : Spells words command
  pub cause : FileFault tells held (fetches command) fault

-- The rules that the words' command reads have this fault.
pub record HasRulesFault (words : List (List ℕ)) (tells : Bool) (held : Held) (fault : RuleFault) : Type 0 where
  pub command : CommandWords
  pub spelled : Spells words command
  pub cause : RulesFault tells held (fetches command) fault

-- The words' command may have this output, with this summary, with advisers who reply so at first.
pub record OutputBy (words : List (List ℕ)) (voices : List Voice) (tells : Bool) (held : Held) (output summary : List ℕ) : Type 0 where
  pub command : CommandWords
  pub spelled : Spells words command
  pub final : IsOutputOf voices tells held command output summary

-- What the words have fetched keeps its limits and is read: the rules, the file, the library and the script.
abbrev pub ReadsAll : List (List ℕ) → Held → Type 0
ReadsAll words held = (command : CommandWords) → Spells words command → AllRead held (fetches command)

-- The script that the words have fetched has this first line outside the grammar, behind inputs that are read.
pub record HasBadLine (words : List (List ℕ)) (tells : Bool) (held : Held) (line : ℕ) : Type 0 where
  pub command : CommandWords
  pub spelled : Spells words command
  pub cause : LineFault tells held (fetches command) line

-- A name that the words have fetched holds too much, and is the first. Its bytes are counted as this.
pub record TooLong (words : List (List ℕ)) (held : Held) (counted : Counted) : Type 0 where
  pub command : CommandWords
  pub spelled : Spells words command
  pub first : FirstTooLong held (fetches command) counted

-- The words spell no command: the run ends so, or memory ran out.
abbrev pub EndsUnspelled : Status → Type 0
EndsUnspelled Usage = Unit {0}
EndsUnspelled NoMemory = Unit {0}
EndsUnspelled _ = ⊥

-- What words may be refused with before anything is fetched.
abbrev pub WordsRefused : List (List ℕ) → Status → Type 0
WordsRefused words Usage = SpellsNothing words
WordsRefused words NoMemory = Unit {0}
WordsRefused words _ = ⊥

-- Why these words are refused with this status.
abbrev pub CauseFor : List (List ℕ) → Bool → Held → Failures → Failures → Failures → Failures → Status → Type 0
CauseFor words tells held fetches_old fetches_new puts_old puts_new Done = ⊥
CauseFor words tells held fetches_old fetches_new puts_old puts_new Usage = SpellsNothing words
CauseFor words tells held fetches_old fetches_new puts_old puts_new (BadRules fault) = HasRulesFault words tells held fault
CauseFor words tells held fetches_old fetches_new puts_old puts_new (BadDex fault) = HasFileFault words tells held fault
CauseFor words tells held fetches_old fetches_new puts_old puts_new (Limit fault) = PassesLimit words tells held fault
CauseFor words tells held fetches_old fetches_new puts_old puts_new ReadFault = CouldNotFetch words tells held fetches_old fetches_new
CauseFor words tells held fetches_old fetches_new puts_old puts_new WriteFault = CouldNotPut words tells held puts_old puts_new
CauseFor words tells held fetches_old fetches_new puts_old puts_new NoMemory = Unit {0}
CauseFor words tells held fetches_old fetches_new puts_old puts_new (BadScript line) = HasBadLine words tells held line

-- These words are refused with this status.
pub record RefusesFor (words : List (List ℕ)) (voices : List Voice) (tells : Bool) (old new : Held)
    (fetches_old fetches_new puts_old puts_new : Failures) (status : Status) : Type 0 where
  pub cause : CauseFor words tells old fetches_old fetches_new puts_old puts_new status
  pub unspelled : SpellsNothing words → EndsUnspelled status
  pub too_long : (counted : Counted) → IsTrue tells → TooLong words old counted → EndsTooLong counted status
  pub stays : IsTrue tells → Stays (Puts words) (OutputBy words voices tells old) status puts_old puts_new old new

-- These words give this text to be said.
pub record GivesFor (words : List (List ℕ)) (voices : List Voice) (tells : Bool) (old new : Held) (text : List ℕ) : Type 0 where
  pub answer : Results words voices tells old text
  pub read : IsTrue tells → ReadsAll words old
  pub within : (counted : Counted) → IsTrue tells → TooLong words old counted → ⊥
  pub others : IsTrue tells → (name : List ℕ) → (Puts words name → ⊥) → new name ≡ old name
  pub put : IsTrue tells → (name : List ℕ) → Puts words name → HoldsSummed (OutputBy words voices tells old) text (new name)
