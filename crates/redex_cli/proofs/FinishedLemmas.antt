-- Finished outputs.
use Rattle.std.proofs.Common.{◌≡◌, ◌≤◌, ℕ, List, [], Bool, length, true, false, Option, None, Some, Result, Ok, Err, refl, subst, sym, inl, inr}
use Rattle.std.specs.Prelude.{◌<◌, IfOk, slice_index}
use Rattle.call_graph.specs.Closed.{IsClosedSet}
use Rattle.call_graph.specs.Least.{IsLeastSet}
use Rattle.call_graph.specs.declared.live_set.LiveSet.{LiveSet}
use Rattle.command_line.specs.declared.command.Tell.{Tell}
use Rattle.dex_base.specs.Reading.{Gives}
use Rattle.dex_read.specs.Faults.{is_free}
use Rattle.dex_read.specs.File.{program_at}
use Rattle.dex_read.specs.declared.fault.DexFault.{DexFault}
use Rattle.dex_write.specs.Written.{IsWritten}
use Rattle.hierarchy.specs.Shapes.{IsCause}
use Rattle.hierarchy.specs.declared.fault.HierarchyFault.{HierarchyFault}
use Rattle.if_text.specs.Readings.{IsIfReading}
use Rattle.if_text.specs.declared.rules.IfRules.{IfRules}
use Rattle.pipeline.specs.Inlined.{IsOptimisedInlined}
use Rattle.pipeline.specs.Rounds.{IsOptimisedBy}
use Rattle.program_model.specs.ProgramRules.{is_well_formed}
use Rattle.program_model.specs.declared.pass.Origin.{Origin}
use Rattle.program_model.specs.declared.pass.Outside.{Outside}
use Rattle.program_model.specs.declared.program.Program.{Program}
use Rattle.redex_outside.specs.Voices.{Voice}
use Rattle.rule_text.specs.declared.fault.RuleFault.{RuleFault}
use Rattle.redex_cli.specs.Accepted.{IsAccepted, IsOfBytes}
use Rattle.redex_cli.specs.Files.{AreRead, AreRules, BytesRefused, FileRefused, HasGraphFault, IsDeclared, IsRead, ReadBefore, RefusedBehind}
use Rattle.redex_cli.specs.Finished.{AreTold, Checks, Finished, IsWorkload, LeavesBy, Shrunk, program_text, sizes_in, summary_text}
use Rattle.redex_cli.specs.Lists.{ListsFile, live_text}
use Rattle.redex_cli.specs.Refusals.{IsDexFault, IsLibraryFault, IsLibraryRefusal, LibraryEnds, MadeRefused, ReadRefused, WorkRefused}
use Rattle.redex_cli.specs.Tables.{IsTableWith}
use Rattle.redex_cli.specs.declared.fetching.Inputs.{Inputs}
use Rattle.redex_cli.specs.declared.status.InputFault.TheVariants as input
use Rattle.redex_cli.specs.declared.status.Status.{Status}
use Rattle.redex_cli.specs.declared.status.Status.TheVariants.{Done, Usage, BadRules, BadDex, Limit, ReadFault, WriteFault, NoMemory, BadScript}
use Rattle.redex_cli.specs.declared.summary.Sizes.{Sizes}

-- what is read of bytes that spell well-formed programs alone
pub well_formed_if : (bytes : List ℕ) (result : Result Program DexFault) → ((p : Program) → program_at bytes ≡ Ok p → is_well_formed p ≡ true)
    → Gives is_free (λ program. program) result (program_at bytes) → IfOk result (λ program. is_well_formed program ≡ true)
well_formed_if bytes (Ok p) formed gives = formed p gives
well_formed_if bytes (Err e) formed gives = tt

-- what is read of bytes
pub read_if : (bytes : List ℕ) (result : Result Program DexFault) → ((i : ℕ) → slice_index bytes i < 256) → Gives is_free (λ program. program) result (program_at bytes) → IfOk result IsOfBytes
read_if bytes (Ok p) small gives = record { bytes = bytes; are_bytes = small; reads = gives }
read_if bytes (Err e) small gives = tt

pub leaves : (inline : Bool) (voices news : List Voice) (given answers : List Bool) (program : Program) (outside : Outside) (left : Program) (rounds spared : ℕ) (origins : List (List Origin))
    → inline ≡ false → IsOptimisedBy outside program voices news given answers spared left origins rounds → LeavesBy inline voices given program outside left rounds spared
leaves inline voices news given answers program outside left rounds spared origins none optimised =
    subst (λ (chosen : Bool). LeavesBy chosen voices given program outside left rounds spared) (sym none) (record { news = news; answers = answers; origins = origins; optimised = optimised })

pub leaves_inlined : (inline : Bool) (voices news : List Voice) (given answers : List Bool) (program : Program) (outside : Outside) (left : Program) (rounds spared : ℕ) (origins : List (List Origin))
    → inline ≡ true → IsOptimisedInlined outside program voices news given answers spared left origins rounds → LeavesBy inline voices given program outside left rounds spared
leaves_inlined inline voices news given answers program outside left rounds spared origins some optimised =
    subst (λ (chosen : Bool). LeavesBy chosen voices given program outside left rounds spared) (sym some) (record { news = news; answers = answers; origins = origins; optimised = optimised })

pub shrunk : (inline : Bool) (voices : List Voice) (given : List Bool) (program : Program) (outside : Outside) (before after : Sizes) (left : Program) (rounds spared : ℕ) (output summary : List ℕ)
    → LeavesBy inline voices given program outside left rounds spared
    → IsWritten left output → ((i : ℕ) → slice_index output i < 256) → after ≡ sizes_in left (length output) → summary ≡ summary_text before after rounds spared → 1 ≤ rounds
    → Shrunk inline voices given program outside before output summary
shrunk inline voices given program outside before after left rounds spared output summary leaves written bytes sizes says one_round = record {
  left = left;
  rounds = rounds;
  spared = spared;
  leaves = leaves;
  written = written;
  are_bytes = bytes;
  says = subst (λ (sizes : Sizes). summary ≡ summary_text before sizes rounds spared) sizes says;
  one_round = one_round;
}

-- the file is found to have so many bytes, and the advisers were told and not yet asked
pub finished : (inline : Bool) (voices told : List Voice) (tells : List Tell) (given : List Bool) (program : Program) (outside : Outside) (inputs : Inputs) (bytes : ℕ) (output summary : List ℕ) → bytes ≡ length inputs.file
    → program_at inputs.file ≡ Ok program → ((i : ℕ) → slice_index inputs.file i < 256) → IsAccepted program → IsTableWith inputs.rules inputs.library program outside → AreTold tells voices told → given ≡ []
    → Shrunk inline told given program outside (sizes_in program bytes) output summary → Finished inline voices tells inputs output summary
finished inline voices told tells given program outside inputs bytes output summary same reads small accepted table are_told unasked shrunk = record {
  program = program;
  reads = reads;
  small = small;
  accepted = accepted;
  outside = outside;
  table = table;
  told = told;
  are_told = are_told;
  shrunk = subst (λ (n : ℕ). Shrunk inline told [] program outside (sizes_in program n) output summary) same
      (subst (λ (answers : List Bool). Shrunk inline told answers program outside (sizes_in program bytes) output summary) unasked shrunk);
}

pub is_workload : (voices : List Voice) (tells : List Tell) (inputs : Inputs) (output text : List ℕ) → tells ≡ [] → inputs.library ≡ None → Finished false voices tells inputs output text → IsWorkload voices text
is_workload voices tells inputs output text none alone finished = record {
  inputs = inputs;
  alone = alone;
  output = output;
  finished = subst (λ (l : List Tell). Finished false voices l inputs output text) none finished;
}

-- want of memory may come anywhere
pub no_memory : (inputs : Inputs) → BytesRefused inputs NoMemory
no_memory inputs = record { bytes = inl tt; before = tt }

-- nothing is read before the rules
pub bad_rules : (inputs : Inputs) (fault : RuleFault) → BytesRefused inputs (BadRules fault)
bad_rules inputs fault = record { bytes = inl tt; before = tt }

-- a script comes behind all inputs
pub bad_script : (inputs : Inputs) (line : ℕ) → AreRead inputs → BytesRefused inputs (BadScript line)
bad_script inputs line read = record { bytes = inl tt; before = read }

pub made : (inputs : Inputs) (status : Status) → inputs.library ≡ None → WorkRefused inputs status → BytesRefused inputs status → MadeRefused status
made inputs status alone refused bytes = record { inputs = inputs; alone = alone; refused = refused; bytes = bytes }

-- no memory for inputs
pub none_made : MadeRefused NoMemory
none_made = made (record { rules = []; file = []; library = None }) NoMemory refl tt (no_memory (record { rules = []; file = []; library = None }))

-- ---- what refuses the work

-- what refuses the work on a file refuses that on all inputs
pub work_reads : (inputs : Inputs) (status : Status) → ReadRefused status → WorkRefused inputs status
work_reads inputs (BadRules fault) r = absurd r
work_reads inputs (BadDex (input.Library fault)) r = absurd r
work_reads inputs (BadDex (input.Dex fault)) r = r
work_reads inputs (BadDex (input.Hierarchy fault)) r = r
work_reads inputs (BadDex (input.Typing fault)) r = r
work_reads inputs Done r = r
work_reads inputs Usage r = r
work_reads inputs (Limit fault) r = r
work_reads inputs ReadFault r = r
work_reads inputs WriteFault r = r
work_reads inputs NoMemory r = r
work_reads inputs (BadScript line) r = r

-- the text that was read, which is found to be the one of the inputs
pub are_rules : (given text : List ℕ) (rules : IfRules) → given ≡ text → IsIfReading given rules → AreRules text
are_rules given text rules same reading = subst (λ (t : List ℕ). AreRules t) same (record { items = reading.items; spells = reading.spells })

-- no status of the work on inputs alone has anything read before it but the rules
rules_before : (inputs : Inputs) (status : Status) → WorkRefused inputs status → AreRules inputs.rules → ReadBefore inputs status
rules_before inputs (BadRules fault) r rules = tt
rules_before inputs (BadDex fault) r rules = rules
rules_before inputs Done r rules = tt
rules_before inputs Usage r rules = tt
rules_before inputs (Limit fault) r rules = rules
rules_before inputs ReadFault r rules = tt
rules_before inputs WriteFault r rules = tt
rules_before inputs NoMemory r rules = tt
rules_before inputs (BadScript line) r rules = absurd r

pub bytes_read : (inputs : Inputs) (status : Status) → AreRules inputs.rules → ReadRefused status → FileRefused inputs.file status → BytesRefused inputs status
bytes_read inputs status rules refused r = record { bytes = inl r; before = rules_before inputs status (work_reads inputs status refused) rules }

some_library : (library : Option (List ℕ)) (bytes : List ℕ) (fault : DexFault) → library ≡ Some bytes → IsDexFault fault → IsLibraryFault library fault
some_library None bytes fault e r = cc
some_library (Some other) bytes fault e r = r

library_refusal : (inputs : Inputs) (bytes : List ℕ) (status : Status) → inputs.library ≡ Some bytes → IsLibraryRefusal status → WorkRefused inputs status
library_refusal inputs bytes (BadRules fault) is r = absurd r
library_refusal inputs bytes (BadDex (input.Library fault)) is r = some_library inputs.library bytes fault is r
library_refusal inputs bytes (BadDex (input.Dex fault)) is r = absurd r
library_refusal inputs bytes (BadDex (input.Hierarchy fault)) is r = absurd r
library_refusal inputs bytes (BadDex (input.Typing fault)) is r = absurd r
library_refusal inputs bytes Done is r = absurd r
library_refusal inputs bytes Usage is r = absurd r
library_refusal inputs bytes (Limit fault) is r = r
library_refusal inputs bytes ReadFault is r = absurd r
library_refusal inputs bytes WriteFault is r = absurd r
library_refusal inputs bytes NoMemory is r = tt
library_refusal inputs bytes (BadScript line) is r = absurd r

ends_work : (inputs : Inputs) (library : Option (List ℕ)) (status : Status) → inputs.library ≡ library → LibraryEnds library status → WorkRefused inputs status
ends_work inputs None status is r = absurd r
ends_work inputs (Some bytes) status is r = library_refusal inputs bytes status is r.0

-- what refuses the library refuses the work on all inputs
pub library_work : (inputs : Inputs) (status : Status) → LibraryEnds inputs.library status → WorkRefused inputs status
library_work inputs status r = ends_work inputs inputs.library status refl r

ends_bytes : (inputs : Inputs) (library : Option (List ℕ)) (status : Status) → IsRead inputs.file → inputs.library ≡ library → LibraryEnds library status → RefusedBehind inputs status
ends_bytes inputs None status read is r = absurd r
ends_bytes inputs (Some bytes) status read is r = record { read = read; bytes = bytes; is = is; refused = r.1 }

pub library_bytes : (inputs : Inputs) (program : Program) (status : Status) → AreRules inputs.rules → program_at inputs.file ≡ Ok program → IsAccepted program → LibraryEnds inputs.library status
    → BytesRefused inputs status
library_bytes inputs program status rules reads accepted r = record {
  bytes = inr (ends_bytes inputs inputs.library status (record { program = program; reads = reads; accepted = accepted }) refl r);
  before = rules_before inputs status (library_work inputs status r) rules;
}

declared_by : (rules : List ℕ) (library : Option (List ℕ)) (program : Program) (outside : Outside) → IsTableWith rules library program outside → (bytes : List ℕ)
    → library ≡ Some bytes → IsDeclared bytes
declared_by rules None program outside table bytes e = cc
declared_by rules (Some other) program outside table bytes e =
    subst (λ (b : List ℕ). IsDeclared b) (same other bytes e) (record { library = table.library; declares = table.declares })
  where
    same : (other bytes : List ℕ) → Some other ≡ Some bytes → other ≡ bytes
    same other bytes e = cc

pub are_read : (inputs : Inputs) (program : Program) (outside : Outside) → AreRules inputs.rules → program_at inputs.file ≡ Ok program → IsAccepted program
    → IsTableWith inputs.rules inputs.library program outside → AreRead inputs
are_read inputs program outside rules reads accepted table = record {
  rules = rules;
  file = record { program = program; reads = reads; accepted = accepted };
  library = declared_by inputs.rules inputs.library program outside table;
}

-- ---- a file alone

pub checked : (program : Program) (bytes text : List ℕ) → program_at bytes ≡ Ok program → IsAccepted program → text ≡ program_text program
    → Checks bytes text
checked program bytes text reads accepted says = record { program = program; reads = reads; accepted = accepted; says = says }

pub graph_fault : (program : Program) (bytes : List ℕ) (fault : HierarchyFault) → program_at bytes ≡ Ok program
    → is_well_formed program ≡ true → (is_well_formed program ≡ true → IsCause program fault) → HasGraphFault bytes fault
graph_fault program bytes fault reads well cause = record { program = program; reads = reads; formed = well; cause = cause well }

-- ---- what is live

pub lists_file : (inputs : Inputs) (program : Program) (outside : Outside) (live : LiveSet) (text : List ℕ) → program_at inputs.file ≡ Ok program
    → IsAccepted program → IsTableWith inputs.rules inputs.library program outside → IsClosedSet program outside live → IsLeastSet program outside live
    → text ≡ live_text program live
    → ListsFile inputs text
lists_file inputs program outside live text reads accepted table closed least says = record {
  program = program;
  reads = reads;
  accepted = accepted;
  outside = outside;
  table = table;
  live = live;
  closed = closed;
  least = least;
  says = says;
}
