-- What the bytes of rules, of a file, of a library and of a script are to a run.
use Rattle.std.specs.Prelude.{◌≡◌, ◌⊎◌, ℕ, List, [], ◌∷◌, Bool, true, IsTrue, Option, None, Some, Ok, Err}
use Rattle.dex_read.specs.File.{program_at}
use Rattle.dex_read.specs.declared.fault.DexFault.TheVariants as dex
use Rattle.hierarchy.specs.Shapes.{IsCause}
use Rattle.hierarchy.specs.declared.fault.HierarchyFault.{HierarchyFault}
use Rattle.program_model.specs.ProgramRules.{is_well_formed}
use Rattle.program_model.specs.declared.program.Program.{Program}
use Rattle.redex_outside.specs.Held.{Held}
use Rattle.if_text.specs.Faults.{IsIfFault}
use Rattle.if_text.specs.Items.{Item, SpellsItems}
use Rattle.rule_text.specs.declared.fault.RuleFault.{RuleFault}
use Rattle.stub_library.specs.Stubs.{library_at}
use Rattle.stub_library.specs.declared.library.Library.{Library}
use Rattle.text_defs.specs.Plays.{play_of}
use Rattle.text_defs.specs.declared.play.Play.{Play}
use Rattle.verify.specs.declared.fault.TypeFault.{TypeFault}
use Rattle.redex_cli.specs.Accepted.{IsAccepted, IsTypeCause}
use Rattle.redex_cli.specs.Commands.{Fetch}
use Rattle.redex_cli.specs.Fetching.{AllWithin}
use Rattle.redex_cli.specs.declared.fetching.Inputs.{Inputs}
use Rattle.redex_cli.specs.declared.fetching.Kind.{Kind}
use Rattle.redex_cli.specs.declared.fetching.Kind.TheVariants as kind
use Rattle.redex_cli.specs.declared.status.InputFault.TheVariants as input
use Rattle.redex_cli.specs.declared.status.Status.{Status}
use Rattle.redex_cli.specs.declared.status.Status.TheVariants.{BadDex, Limit, NoMemory, BadScript}

-- The text spells rules and options, with conditions or without, and not too many.
pub record AreRules (text : List ℕ) : Type 0 where
  pub items : List Item
  pub spells : SpellsItems text items

-- The bytes spell a program that is accepted.
pub record IsRead (bytes : List ℕ) : Type 0 where
  pub program : Program
  pub reads : program_at bytes ≡ Ok program
  pub accepted : IsAccepted program

-- The bytes spell a well-formed program in whose class graph this fault stands.
pub record HasGraphFault (bytes : List ℕ) (fault : HierarchyFault) : Type 0 where
  pub program : Program
  pub reads : program_at bytes ≡ Ok program
  pub formed : is_well_formed program ≡ true
  pub cause : IsCause program fault

-- The bytes spell a program in whose bodies this fault stands.
pub record HasTypeFault (bytes : List ℕ) (fault : TypeFault) : Type 0 where
  pub program : Program
  pub reads : program_at bytes ≡ Ok program
  pub cause : IsTypeCause program fault

-- What a file of these bytes is refused with: a fault of its reading, or a passed limit, is the one that the bytes give;
-- a fault of classes or types stands in the program that they spell.
abbrev pub FileRefused : List ℕ → Status → Type 0
FileRefused bytes (BadDex (input.Dex fault)) = program_at bytes ≡ Err fault
FileRefused bytes (BadDex (input.Hierarchy fault)) = HasGraphFault bytes fault
FileRefused bytes (BadDex (input.Typing fault)) = HasTypeFault bytes fault
FileRefused bytes (BadDex (input.Library fault)) = ⊥
FileRefused bytes (Limit fault) = program_at bytes ≡ Err (dex.Limit fault)
FileRefused bytes _ = Unit {0}

-- What a library of these bytes is refused with: the fault of its reading, or the passed limit, that the bytes give.
abbrev pub LibraryRefused : List ℕ → Status → Type 0
LibraryRefused bytes (BadDex (input.Library fault)) = library_at bytes ≡ Err fault
LibraryRefused bytes (Limit fault) = library_at bytes ≡ Err (dex.Limit fault)
LibraryRefused bytes NoMemory = Unit {0}
LibraryRefused bytes _ = ⊥

-- The bytes declare a library.
pub record IsDeclared (bytes : List ℕ) : Type 0 where
  pub library : Library
  pub declares : library_at bytes ≡ Ok library

-- The text spells a play.
pub record IsPlay (text : List ℕ) : Type 0 where
  pub play : Play
  pub spells : play_of text ≡ Ok play

-- The rules are read, the file spells a program that is accepted, and the library, where there is one, declares one.
pub record AreRead (inputs : Inputs) : Type 0 where
  pub rules : AreRules inputs.rules
  pub file : IsRead inputs.file
  pub library : (bytes : List ℕ) → inputs.library ≡ Some bytes → IsDeclared bytes

-- A library that there is is refused so, behind a file that isn't refused.
pub record RefusedBehind (inputs : Inputs) (status : Status) : Type 0 where
  pub read : IsRead inputs.file
  pub bytes : List ℕ
  pub is : inputs.library ≡ Some bytes
  pub refused : LibraryRefused bytes status

-- What is read before inputs, and a script behind them, are refused so: the rules before the file and the library, and all of
-- them before the script.
abbrev pub ReadBefore : Inputs → Status → Type 0
ReadBefore inputs (BadDex fault) = AreRules inputs.rules
ReadBefore inputs (Limit fault) = AreRules inputs.rules
ReadBefore inputs (BadScript line) = AreRead inputs
ReadBefore inputs _ = Unit {0}

-- What the file of these inputs is refused with, or the library behind it, and what is read before.
pub record BytesRefused (inputs : Inputs) (status : Status) : Type 0 where
  pub bytes : FileRefused inputs.file status ⊎ RefusedBehind inputs status
  pub before : ReadBefore inputs status

-- The name holds bytes that spell this program.
pub record HoldsProgram (held : Held) (name : List ℕ) (program : Program) : Type 0 where
  pub bytes : List ℕ
  pub there : held name ≡ Some bytes
  pub reads : program_at bytes ≡ Ok program

-- The bytes are read as what is fetched so: they spell rules, or a program that is accepted, declare a library, or spell a play.
abbrev pub IsReadAs : Kind → List ℕ → Type 0
IsReadAs kind.Rules bytes = AreRules bytes
IsReadAs kind.File bytes = IsRead bytes
IsReadAs kind.Library bytes = IsDeclared bytes
IsReadAs kind.Script bytes = IsPlay bytes

-- The name holds bytes that are read as what it is fetched as.
pub record HoldsRead (held : Held) (fetch : Fetch) : Type 0 where
  pub bytes : List ℕ
  pub there : held fetch.name ≡ Some bytes
  pub read : IsReadAs fetch.kind bytes

-- Each of these names that is fetched as this holds such bytes.
abbrev pub AllReadAs : Kind → Held → List Fetch → Type 0
AllReadAs wanted held [] = Unit {0}
AllReadAs wanted held (fetch ∷ later) = (fetch.kind ≡ wanted → HoldsRead held fetch) × AllReadAs wanted held later

-- All that is read before a script: the rules, the files and the libraries.
pub record AllInputsRead (held : Held) (names : List Fetch) : Type 0 where
  pub rules : AllReadAs kind.Rules held names
  pub files : AllReadAs kind.File held names
  pub libraries : AllReadAs kind.Library held names

-- Each of these names holds bytes that keep their limit, and all of them are read, the scripts too.
pub record AllRead (held : Held) (names : List Fetch) : Type 0 where
  pub within : AllWithin held names
  pub inputs : AllInputsRead held names
  pub scripts : AllReadAs kind.Script held names

-- The name is fetched as a file, and holds bytes that are refused so.
pub record HoldsRefused (held : Held) (fetch : Fetch) (status : Status) : Type 0 where
  pub is_file : fetch.kind ≡ kind.File
  pub bytes : List ℕ
  pub there : held fetch.name ≡ Some bytes
  pub refused : FileRefused bytes status

-- One of these names holds such a file.
abbrev pub OneRefused : Held → List Fetch → Status → Type 0
OneRefused held [] status = ⊥
OneRefused held (fetch ∷ later) status = HoldsRefused held fetch status ⊎ OneRefused held later status

-- The name is fetched as a library, and holds bytes that are refused so.
pub record HoldsBadLibrary (held : Held) (fetch : Fetch) (status : Status) : Type 0 where
  pub is_library : fetch.kind ≡ kind.Library
  pub bytes : List ℕ
  pub there : held fetch.name ≡ Some bytes
  pub refused : LibraryRefused bytes status

-- One of these names holds such a library.
abbrev pub OneBadLibrary : Held → List Fetch → Status → Type 0
OneBadLibrary held [] status = ⊥
OneBadLibrary held (fetch ∷ later) status = HoldsBadLibrary held fetch status ⊎ OneBadLibrary held later status

-- One of these names holds such a file, or one holds such a library, and no file is refused.
abbrev pub FilesCause : Held → List Fetch → Status → Type 0
FilesCause held names status = OneRefused held names status ⊎ (AllReadAs kind.File held names × OneBadLibrary held names status)

-- The same of a command that has names fetched. One that fetches nothing makes its file itself.
abbrev pub FileCause : Held → List Fetch → Status → Type 0
FileCause held [] status = Unit {0}
FileCause held (fetch ∷ later) status = FilesCause held (fetch ∷ later) status

-- One of these names is fetched as a library.
abbrev pub HasLibrary : List Fetch → Type 0
HasLibrary [] = ⊥
HasLibrary (fetch ∷ later) = (fetch.kind ≡ kind.Library) ⊎ HasLibrary later

-- The name is fetched as rules, and holds a text that has this fault.
pub record HoldsBadRules (held : Held) (fetch : Fetch) (fault : RuleFault) : Type 0 where
  pub are_rules : fetch.kind ≡ kind.Rules
  pub bytes : List ℕ
  pub there : held fetch.name ≡ Some bytes
  pub bad : IsIfFault bytes fault

-- One of these names holds such rules.
abbrev pub OneBadRules : Held → List Fetch → RuleFault → Type 0
OneBadRules held [] fault = ⊥
OneBadRules held (fetch ∷ later) fault = HoldsBadRules held fetch fault ⊎ OneBadRules held later fault

-- The same of a command that has names fetched. One that fetches nothing has rules of its own.
abbrev pub RulesCause : Held → List Fetch → RuleFault → Type 0
RulesCause held [] fault = Unit {0}
RulesCause held (fetch ∷ later) fault = OneBadRules held (fetch ∷ later) fault

-- A library that is named is these bytes, where the shelf tells what it holds. Where none is named, there are none.
abbrev pub HoldsNamed : Bool → Held → Option (List ℕ) → Option (List ℕ) → Type 0
HoldsNamed tells held None None = Unit {0}
HoldsNamed tells held (Some name) (Some bytes) = IsTrue tells → held name ≡ Some bytes
HoldsNamed tells held _ _ = ⊥

-- The inputs are what these names hold, where the shelf tells it.
pub record AreHeld (tells : Bool) (held : Held) (rules input : List ℕ) (library : Option (List ℕ)) (inputs : Inputs) : Type 0 where
  pub ruled : IsTrue tells → held rules ≡ Some inputs.rules
  pub filed : IsTrue tells → held input ≡ Some inputs.file
  pub named : HoldsNamed tells held library inputs.library
