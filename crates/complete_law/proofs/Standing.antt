-- What a run that is refused tells stands in what it fetched.
use Rattle.std.proofs.Common.{◌≡◌, ◌<◌, inl, inr, ℕ, true, List, [], ◌∷◌, Err, refl}
use Rattle.std.specs.Prelude.{slice_index}
use Rattle.dex_defs.specs.ClassFaults.{BadGraph, DefinedTwice, OwnAncestor, Split}
use Rattle.dex_defs.specs.Limits.{IsPast}
use Rattle.dex_defs.specs.Spells.{Spells}
use Rattle.dex_read.specs.File.{program_at}
use Rattle.dex_read.specs.declared.fault.DexFault.{DexFault}
use Rattle.dex_read.specs.declared.fault.DexFault.TheVariants as dex
use Rattle.hierarchy.specs.Shapes.{IsCause}
use Rattle.hierarchy.specs.declared.fault.HierarchyFault.{HierarchyFault}
use Rattle.hierarchy.specs.declared.fault.HierarchyFault.TheVariants as classes
use Rattle.past_law.proofs.Whole as limits
use Rattle.program_model.specs.declared.limits.LimitFault.{LimitFault}
use Rattle.program_model.specs.declared.program.Program.{Program}
use Rattle.redex_cli.specs.Commands.{Fetch, fetches}
use Rattle.redex_cli.specs.Ends.{Caused}
use Rattle.redex_cli.specs.Fetching.{Failures}
use Rattle.redex_cli.specs.Files.{FileCause, FileRefused, OneBadLibrary, OneRefused, RulesCause}
use Rattle.redex_cli.specs.Refusals.{IsFaultOf, IsHierarchyFault, IsInputFault, LimitCause, LineFault}
use Rattle.redex_cli.specs.declared.status.InputFault.{InputFault}
use Rattle.redex_cli.specs.declared.status.InputFault.TheVariants as input
use Rattle.redex_cli.specs.declared.status.Status.{Status}
use Rattle.redex_cli.specs.declared.status.Status.TheVariants.{Done, Usage, BadRules, BadDex, Limit, ReadFault, WriteFault, NoMemory, BadScript}
use Rattle.redex_outside.specs.Held.{Held}
use Rattle.refused_code.proofs.Joined as faults
use Rattle.rule_text.specs.declared.fault.RuleFault.{RuleFault}
use Rattle.spelled_law.proofs.Whole.{read_is_spelled}
use Rattle.complete_law.specs.Standing.{AreBytes, GraphStands, Stands, OneFaulty, OneMore, SaysOf, IsTold}
use Rattle.complete_law.proofs.Files.{of_library}

-- a passed limit of bytes that are read
pub passes : (bytes : List ℕ) → ((i : ℕ) → slice_index bytes i < 256) → (fault : LimitFault) → program_at bytes ≡ Err (dex.Limit fault) → IsPast bytes fault
passes bytes are fault h = (limits.fails_program bytes are).fault (dex.Limit fault) h

graph_stands : (bytes : List ℕ) (program : Program) → Spells bytes program → (e : HierarchyFault) → IsHierarchyFault e → IsCause program e → GraphStands bytes e
graph_stands bytes program spells classes.NoMemory is cause = is
graph_stands bytes program spells (classes.Cycle class) is cause = BadGraph program spells (OwnAncestor class cause.is refl)
graph_stands bytes program spells (classes.Twice class) is cause = BadGraph program spells (DefinedTwice class cause.twice refl)
graph_stands bytes program spells (classes.SplitOverride class method) is cause = BadGraph program spells (Split class method cause.is.is refl)

module _ (held : Held) (are : AreBytes held) where
  -- ---- faults

  refused_stands : (bytes : List ℕ) → ((i : ℕ) → slice_index bytes i < 256) → (fault : InputFault) → IsInputFault fault → FileRefused bytes (BadDex fault) → Stands bytes fault
  refused_stands bytes it (input.Dex e) is h = (faults.fails_program bytes it).fault e h
  refused_stands bytes it (input.Hierarchy e) is h = graph_stands bytes h.program (read_is_spelled bytes h.program it h.reads) e is h.cause
  refused_stands bytes it (input.Typing e) is h = record { program = h.program; spells = read_is_spelled bytes h.program it h.reads; cause = h.cause }
  refused_stands bytes it (input.Library e) is h = absurd h

  of_file : (names : List Fetch) (fault : InputFault) → IsInputFault fault → OneRefused held names (BadDex fault) → OneFaulty held names fault
  of_file [] fault is h = h
  of_file (fetch ∷ later) (input.Dex e) is (inl h) = inl (record { is_kind = h.is_file; bytes = h.bytes; there = h.there; stands = refused_stands h.bytes (are fetch.name h.bytes h.there) (input.Dex e) is h.refused })
  of_file (fetch ∷ later) (input.Hierarchy e) is (inl h) = inl (record { is_kind = h.is_file; bytes = h.bytes; there = h.there; stands = refused_stands h.bytes (are fetch.name h.bytes h.there) (input.Hierarchy e) is h.refused })
  of_file (fetch ∷ later) (input.Typing e) is (inl h) = inl (record { is_kind = h.is_file; bytes = h.bytes; there = h.there; stands = refused_stands h.bytes (are fetch.name h.bytes h.there) (input.Typing e) is h.refused })
  of_file (fetch ∷ later) (input.Library e) is (inl h) = absurd is
  of_file (fetch ∷ later) fault is (inr h) = inr (of_file later fault is h)

  of_libraries : (names : List Fetch) (fault : InputFault) → OneBadLibrary held names (BadDex fault) → OneFaulty held names fault
  of_libraries [] fault h = h
  of_libraries (fetch ∷ later) (input.Library e) (inl h) =
      inl (record { is_kind = h.is_library; bytes = h.bytes; there = h.there; stands = (faults.fails_program h.bytes (are fetch.name h.bytes h.there)).fault e (of_library h.bytes e h.refused) })
  of_libraries (fetch ∷ later) (input.Dex e) (inl h) = absurd h.refused
  of_libraries (fetch ∷ later) (input.Hierarchy e) (inl h) = absurd h.refused
  of_libraries (fetch ∷ later) (input.Typing e) (inl h) = absurd h.refused
  of_libraries (fetch ∷ later) fault (inr h) = inr (of_libraries later fault h)

  -- a library's fault is none of a file
  no_file : {P : Type 0} (names : List Fetch) (e : DexFault) → OneRefused held names (BadDex (input.Library e)) → P
  no_file [] e h = absurd h
  no_file (fetch ∷ later) e (inl h) = absurd h.refused
  no_file (fetch ∷ later) e (inr h) = no_file later e h

  one_faulty : (names : List Fetch) (fault : InputFault) → IsFaultOf names fault → OneRefused held names (BadDex fault) → OneFaulty held names fault
  one_faulty names (input.Dex e) is h = of_file names (input.Dex e) is h
  one_faulty names (input.Hierarchy e) is h = of_file names (input.Hierarchy e) is h
  one_faulty names (input.Typing e) is h = of_file names (input.Typing e) is h
  one_faulty names (input.Library e) is h = no_file names e h

  dex_says : (names : List Fetch) (fault : InputFault) → IsFaultOf names fault → FileCause held names (BadDex fault) → SaysOf held names (BadDex fault)
  dex_says [] fault is h = tt
  dex_says (fetch ∷ later) fault is (inl h) = one_faulty (fetch ∷ later) fault is h
  dex_says (fetch ∷ later) fault is (inr h) = of_libraries (fetch ∷ later) fault h.1

  -- ---- limits

  file_more : (names : List Fetch) (fault : LimitFault) → OneRefused held names (Limit fault) → OneMore held names fault
  file_more [] fault h = h
  file_more (fetch ∷ later) fault (inl h) = inl (record { is_dex = inl h.is_file; bytes = h.bytes; there = h.there; past = passes h.bytes (are fetch.name h.bytes h.there) fault h.refused })
  file_more (fetch ∷ later) fault (inr h) = inr (file_more later fault h)

  library_more : (names : List Fetch) (fault : LimitFault) → OneBadLibrary held names (Limit fault) → OneMore held names fault
  library_more [] fault h = h
  library_more (fetch ∷ later) fault (inl h) =
      inl (record { is_dex = inr h.is_library; bytes = h.bytes; there = h.there; past = passes h.bytes (are fetch.name h.bytes h.there) fault (of_library h.bytes (dex.Limit fault) h.refused) })
  library_more (fetch ∷ later) fault (inr h) = inr (library_more later fault h)

  limit_says : (names : List Fetch) (fault : LimitFault) → LimitCause true held names fault → SaysOf held names (Limit fault)
  limit_says [] fault h = tt
  limit_says (fetch ∷ later) fault (inl h) = inl h
  limit_says (fetch ∷ later) fault (inr h) = by (h.file refl)
    where
      by : FileCause held (fetch ∷ later) (Limit fault) → SaysOf held (fetch ∷ later) (Limit fault)
      by (inl g) = inr (file_more (fetch ∷ later) fault g)
      by (inr g) = inr (library_more (fetch ∷ later) fault g.1)

rules_say : (held : Held) (names : List Fetch) (fault : RuleFault) → RulesCause held names fault → SaysOf held names (BadRules fault)
rules_say held [] fault h = tt
rules_say held (fetch ∷ later) fault h = h

line_says : (held : Held) (names : List Fetch) (line : ℕ) → LineFault true held names line → SaysOf held names (BadScript line)
line_says held [] line h = tt
line_says held (fetch ∷ later) line h = h

pub told : (words : List (List ℕ)) (held : Held) (fetches_old fetches_new puts_old puts_new : Failures) (notes_old notes_new : ℕ) (status : Status)
    → AreBytes held → Caused words true held fetches_old fetches_new puts_old puts_new notes_old notes_new status → IsTold words held status
told words held fo fn po pn ns nn Done are h = tt
told words held fo fn po pn ns nn Usage are h = tt
told words held fo fn po pn ns nn (BadRules fault) are h = record { command = h.command; spelled = h.spelled; says = let cause = h.cause in rules_say held (fetches h.command) fault (cause.ruling refl) }
told words held fo fn po pn ns nn (BadDex fault) are h = record { command = h.command; spelled = h.spelled; says = let cause = h.cause in dex_says held are (fetches h.command) fault cause.carried (cause.file refl) }
told words held fo fn po pn ns nn (Limit fault) are h = record { command = h.command; spelled = h.spelled; says = limit_says held are (fetches h.command) fault h.cause }
told words held fo fn po pn ns nn ReadFault are h = tt
told words held fo fn po pn ns nn WriteFault are h = tt
told words held fo fn po pn ns nn NoMemory are h = tt
told words held fo fn po pn ns nn (BadScript line) are h = record { command = h.command; spelled = h.spelled; says = line_says held (fetches h.command) line h.cause }
