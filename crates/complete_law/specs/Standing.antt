-- What a run that is refused says of its inputs: the fault that it tells stands in one of them, and the quantity that it tells passes
-- its limit there. And what a run says that is not refused: no fault stands in what it fetched.
use Rattle.std.specs.Prelude.{◌≡◌, ◌⊎◌, ◌<◌, ◌≤◌, ℕ, true, List, [], ◌∷◌, length, slice_index, Some}
use Rattle.command_line.specs.Spelling.{Spells as SpellsCommand}
use Rattle.command_line.specs.declared.command.CommandWords.{CommandWords}
use Rattle.dalvik_defs.specs.Naming.{named}
use Rattle.dex_defs.specs.Parts as parts
use Rattle.dex_defs.specs.Parts.{Fault}
use Rattle.dex_defs.specs.ClassFaults.{HasFault}
use Rattle.dex_defs.specs.Limits.{IsPast}
use Rattle.dex_defs.specs.Spells.{Spells}
use Rattle.hierarchy.specs.declared.fault.HierarchyFault.{HierarchyFault}
use Rattle.hierarchy.specs.declared.fault.HierarchyFault.TheVariants as classes
use Rattle.pass_defs.specs.Typed.{IsTyped}
use Rattle.program_model.specs.Limits.{limit_of}
use Rattle.program_model.specs.declared.limits.LimitFault.{LimitFault}
use Rattle.program_model.specs.declared.program.Program.{Program}
use Rattle.redex_cli.specs.Accepted.{IsTypeCause}
use Rattle.redex_cli.specs.Commands.{Fetch, counted_as, fetches}
use Rattle.redex_cli.specs.Fetching.{PassesByOne}
use Rattle.redex_cli.specs.Files.{IsPlay, RulesCause}
use Rattle.redex_cli.specs.Refusals.{LineFault}
use Rattle.redex_cli.specs.declared.fetching.Kind.{Kind}
use Rattle.redex_cli.specs.declared.fetching.Kind.TheVariants as kind
use Rattle.redex_cli.specs.declared.status.InputFault.{InputFault}
use Rattle.redex_cli.specs.declared.status.InputFault.TheVariants as input
use Rattle.redex_cli.specs.declared.status.Status.{Status}
use Rattle.redex_cli.specs.declared.status.Status.TheVariants.{BadRules, BadDex, Limit, BadScript}
use Rattle.redex_outside.specs.Held.{Held}
use Rattle.refused_code.specs.Faultless.{IsFaultless}
use Rattle.refused_law.specs.Just.{IsJust}
use Rattle.complete_law.specs.Complete.{AreGoodRules}
use Rattle.verify.specs.declared.fault.TypeFault.{TypeFault}

-- what names hold are bytes
abbrev pub AreBytes : Held → Type 0
AreBytes held = (name bytes : List ℕ) → held name ≡ Some bytes → (i : ℕ) → slice_index bytes i < 256

-- ---- faults

abbrev pub GraphStands : List ℕ → HierarchyFault → Type 0
GraphStands bytes classes.NoMemory = ⊥
GraphStands bytes (classes.Cycle class) = HasFault bytes (parts.Cycle class)
GraphStands bytes (classes.Twice class) = HasFault bytes (parts.Twice class)
GraphStands bytes (classes.SplitOverride class method) = HasFault bytes (parts.SplitOverride class method)

-- what the bytes spell has this first ill typed method, and isn't typed by names
pub record TypeStands (bytes : List ℕ) (fault : TypeFault) : Type 0 where
  pub program : Program
  pub spells : Spells bytes program
  pub cause : IsTypeCause program fault

-- the fault of a file or a library stands in its bytes
abbrev pub Stands : List ℕ → InputFault → Type 0
Stands bytes (input.Dex fault) = IsJust bytes fault
Stands bytes (input.Hierarchy fault) = GraphStands bytes fault
Stands bytes (input.Typing fault) = TypeStands bytes fault
Stands bytes (input.Library fault) = IsJust bytes fault

abbrev pub kind_of : InputFault → Kind
kind_of (input.Library fault) = kind.Library
kind_of fault = kind.File

-- The name is fetched as what the fault is one of, and the fault stands in its bytes.
pub record HoldsFaulty (held : Held) (fetch : Fetch) (fault : InputFault) : Type 0 where
  pub is_kind : fetch.kind ≡ kind_of fault
  pub bytes : List ℕ
  pub there : held fetch.name ≡ Some bytes
  pub stands : Stands bytes fault

abbrev pub OneFaulty : Held → List Fetch → InputFault → Type 0
OneFaulty held [] fault = ⊥
OneFaulty held (fetch ∷ later) fault = HoldsFaulty held fetch fault ⊎ OneFaulty held later fault

-- ---- limits

-- The name is fetched as a file or as a library, and its bytes have one thing more of the kind than the limit.
pub record HoldsMore (held : Held) (fetch : Fetch) (fault : LimitFault) : Type 0 where
  pub is_dex : (fetch.kind ≡ kind.File) ⊎ (fetch.kind ≡ kind.Library)
  pub bytes : List ℕ
  pub there : held fetch.name ≡ Some bytes
  pub past : IsPast bytes fault

abbrev pub OneMore : Held → List Fetch → LimitFault → Type 0
OneMore held [] fault = ⊥
OneMore held (fetch ∷ later) fault = HoldsMore held fetch fault ⊎ OneMore held later fault

-- ---- what a status says

-- of what a command has fetched; one that has nothing fetched makes its own
abbrev pub SaysOf : Held → List Fetch → Status → Type 0
SaysOf held [] status = Unit {0}
SaysOf held (fetch ∷ later) (BadRules fault) = RulesCause held (fetch ∷ later) fault
SaysOf held (fetch ∷ later) (BadDex fault) = OneFaulty held (fetch ∷ later) fault
SaysOf held (fetch ∷ later) (Limit fault) = PassesByOne true held (fetch ∷ later) fault ⊎ OneMore held (fetch ∷ later) fault
SaysOf held (fetch ∷ later) (BadScript line) = LineFault true held (fetch ∷ later) line
SaysOf held (fetch ∷ later) status = Unit {0}

pub record Says (words : List (List ℕ)) (held : Held) (status : Status) : Type 0 where
  pub command : CommandWords
  pub spelled : SpellsCommand words command
  pub says : SaysOf held (fetches command) status

-- the statuses that tell a fault or a limit
abbrev pub IsTold : List (List ℕ) → Held → Status → Type 0
IsTold words held (BadRules fault) = Says words held (BadRules fault)
IsTold words held (BadDex fault) = Says words held (BadDex fault)
IsTold words held (Limit fault) = Says words held (Limit fault)
IsTold words held (BadScript line) = Says words held (BadScript line)
IsTold words held status = Unit {0}

-- ---- what a run that isn't refused says

-- no fault stands in the bytes, and the program that they spell is typed by names
pub record IsSound (bytes : List ℕ) : Type 0 where
  pub faultless : (fault : Fault) → HasFault bytes fault → ⊥
  pub program : Program
  pub spells : Spells bytes program
  pub typed : IsTyped (named program)

-- Rules and a file have no fault, a library none but those of its class graph, and a script spells a play.
abbrev pub IsSoundAs : Kind → List ℕ → Type 0
IsSoundAs kind.Rules bytes = AreGoodRules bytes
IsSoundAs kind.File bytes = IsSound bytes
IsSoundAs kind.Library bytes = IsFaultless bytes
IsSoundAs kind.Script bytes = IsPlay bytes

-- The name holds such bytes, and no more of them than a fetch takes.
pub record HoldsSound (held : Held) (fetch : Fetch) : Type 0 where
  pub bytes : List ℕ
  pub there : held fetch.name ≡ Some bytes
  pub within : length bytes ≤ limit_of (counted_as fetch.kind)
  pub sound : IsSoundAs fetch.kind bytes

abbrev pub AllSound : Held → List Fetch → Type 0
AllSound held [] = Unit {0}
AllSound held (fetch ∷ later) = HoldsSound held fetch × AllSound held later
