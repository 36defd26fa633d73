-- What a command gives: a file to be put, and a text to be said.
use Rattle.std.specs.Prelude.{◌≡◌, ◌<◌, ◌≤◌, ℕ, Bool, true, false, IsTrue, Ok, None, List, [], ◌++◌, length, map, slice_index, sum_by, codes}
use Rattle.std.specs.Fmt.{decimal}
use Rattle.command_line.specs.Spelling.{Spells}
use Rattle.command_line.specs.declared.command.CommandWords.{CommandWords}
use Rattle.command_line.specs.declared.command.CommandWords.TheVariants.{Nothing, Optimise, Check, Live, Trace, Workload}
use Rattle.command_line.specs.declared.command.OptimiseWords.{OptimiseWords}
use Rattle.command_line.specs.declared.command.Tell.{Tell}
use Rattle.command_line.specs.declared.command.Tell.TheVariants as say
use Rattle.redex_cli.specs.FaultLines.{usage_text}
use Rattle.dex_read.specs.File.{program_at}
use Rattle.dex_write.specs.Written.{IsWritten}
use Rattle.redex_outside.specs.Held.{Held}
use Rattle.redex_outside.specs.Panels.{HasRun}
use Rattle.redex_outside.specs.Turns.{Turn, Told}
use Rattle.redex_outside.specs.Voices.{Voice}
use Rattle.redex_outside.specs.declared.adviser.Key.TheVariants as key
use Rattle.redex_cli.specs.Files.{AreHeld, HoldsProgram}
use Rattle.program_model.specs.declared.pass.Origin.{Origin}
use Rattle.program_model.specs.declared.pass.Outside.{Outside}
use Rattle.program_model.specs.declared.program.Program.{Program}
use Rattle.program_model.specs.Cells.{capped}
use Rattle.pipeline.specs.Counts.{insns_of, members_of}
use Rattle.pipeline.specs.Inlined.{IsOptimisedInlined}
use Rattle.pipeline.specs.Rounds.{IsOptimisedBy}
use Rattle.redex_cli.specs.Accepted.{IsAccepted}
use Rattle.redex_cli.specs.Lists.{IsListed}
use Rattle.redex_cli.specs.Tables.{IsTableWith}
use Rattle.redex_cli.specs.Traces.{IsTraced}
use Rattle.redex_cli.specs.declared.fetching.Inputs.{Inputs}
use Rattle.redex_cli.specs.declared.summary.Sizes.{Sizes}

-- A line of the summary: `WHAT A -> B`.
abbrev pub change_line : List ℕ → ℕ → ℕ → List ℕ
change_line what before after = what ++ codes " " ++ decimal before ++ codes " -> " ++ decimal after ++ codes "\n"

-- `WHAT N`
abbrev pub count_line : List ℕ → ℕ → List ℕ
count_line what count = what ++ codes " " ++ decimal count ++ codes "\n"

-- The six lines of the summary.
abbrev pub summary_text : Sizes → Sizes → ℕ → ℕ → List ℕ
summary_text before after rounds spared =
    change_line (codes "classes") before.classes after.classes
    ++ change_line (codes "members") before.members after.members
    ++ change_line (codes "instructions") before.instructions after.instructions
    ++ change_line (codes "bytes") before.bytes after.bytes
    ++ count_line (codes "rounds") rounds
    ++ count_line (codes "spared") spared

-- How large a program is whose file has so many bytes.
abbrev pub sizes_in : Program → ℕ → Sizes
sizes_in program bytes = record {
  classes = length program.classes;
  members = capped (members_of program);
  instructions = capped (insns_of program);
  bytes = bytes;
}

-- ---- what is left

-- The turn that each adviser takes when it is told something.
abbrev pub turn_told : Tell → Turn
turn_told (say.Spare prefix) = Told key.Spare 0 prefix
turn_told (say.AtMost number) = Told key.AtMost number []

-- Advisers who reply so at first were told this, and nothing was asked; they reply so then, as they would have behind what they were
-- told.
abbrev pub AreTold : List Tell → List Voice → List Voice → Type 0
AreTold tells voices told = HasRun (map turn_told tells) voices told [] []

-- What is left of the program in so many rounds, with so many methods spared, wherever its positions come from. Advisers who reply so,
-- and whose answers stand behind those that were given, were asked about methods.
pub record Leaves (voices : List Voice) (given : List Bool) (program : Program) (outside : Outside) (left : Program) (rounds spared : ℕ) : Type 0 where
  pub news : List Voice
  pub answers : List Bool
  pub origins : List (List Origin)
  pub optimised : IsOptimisedBy outside program voices news given answers spared left origins rounds

-- The same where calls are inlined before the rounds, about which they were asked too.
pub record LeavesInlined (voices : List Voice) (given : List Bool) (program : Program) (outside : Outside) (left : Program) (rounds spared : ℕ) : Type 0 where
  pub news : List Voice
  pub answers : List Bool
  pub origins : List (List Origin)
  pub optimised : IsOptimisedInlined outside program voices news given answers spared left origins rounds

-- The one or the other, as the words ask.
abbrev pub LeavesBy : Bool → List Voice → List Bool → Program → Outside → Program → ℕ → ℕ → Type 0
LeavesBy false voices given program outside left rounds spared = Leaves voices given program outside left rounds spared
LeavesBy true voices given program outside left rounds spared = LeavesInlined voices given program outside left rounds spared

-- The output is the file that is written for what is left of the program by this table, in bytes, when such advisers are asked, and the
-- summary counts the program, whose sizes are these, what is left, its file, the rounds and the spared methods.
pub record Shrunk (inline : Bool) (voices : List Voice) (given : List Bool) (program : Program) (outside : Outside) (before : Sizes) (output summary : List ℕ) : Type 0 where
  pub left : Program
  pub rounds : ℕ
  pub spared : ℕ
  pub leaves : LeavesBy inline voices given program outside left rounds spared
  pub written : IsWritten left output
  pub are_bytes : (i : ℕ) → slice_index output i < 256
  pub says : summary ≡ summary_text before (sizes_in left (length output)) rounds spared
  pub one_round : 1 ≤ rounds

-- The output is the finished one of these inputs, and this is its summary: the file's bytes spell a program that is accepted, and the
-- output is what is written for what is left of it by the table of the rules and the library. The advisers, who reply so at first, were
-- told this, and asked then.
pub record Finished (inline : Bool) (voices : List Voice) (tells : List Tell) (inputs : Inputs) (output summary : List ℕ) : Type 0 where
  pub program : Program
  pub reads : program_at inputs.file ≡ Ok program
  pub small : (i : ℕ) → slice_index inputs.file i < 256
  pub accepted : IsAccepted program
  pub outside : Outside
  pub table : IsTableWith inputs.rules inputs.library program outside
  pub told : List Voice
  pub are_told : AreTold tells voices told
  pub shrunk : Shrunk inline told [] program outside (sizes_in program (length inputs.file)) output summary

-- The same of what the names hold that these words have fetched, where the shelf tells it, with the advisers told what the words say.
pub record FinishedOf (voices : List Voice) (tells : Bool) (held : Held) (words : OptimiseWords) (output summary : List ℕ) : Type 0 where
  pub inputs : Inputs
  pub are : AreHeld tells held words.rules words.input words.library inputs
  pub finished : Finished words.inline voices words.tells inputs output summary

-- The output and the summary that a command may have, on what the names hold, with advisers who reply so at first. The workload's is put nowhere.
abbrev pub IsOutputOf : List Voice → Bool → Held → CommandWords → List ℕ → List ℕ → Type 0
IsOutputOf voices tells held (Optimise words) output summary = FinishedOf voices tells held words output summary
IsOutputOf voices tells held _ output summary = ⊥

-- A text that is the summary of such an output.
pub record IsSummary (IsOutput : List ℕ → List ℕ → Type 0) (text : List ℕ) : Type 0 where
  pub output : List ℕ
  pub final : IsOutput output text

-- The same of some inputs without a library, which the workload makes itself. Nothing is inlined, and the advisers are told nothing.
pub record IsWorkload (voices : List Voice) (text : List ℕ) : Type 0 where
  pub inputs : Inputs
  pub alone : inputs.library ≡ None
  pub output : List ℕ
  pub finished : Finished false voices [] inputs output text

-- `ok: C classes, M methods, I instructions`
abbrev pub checked_text : ℕ → ℕ → ℕ → List ℕ
checked_text classes methods instructions =
    codes "ok: " ++ decimal classes ++ codes " classes, " ++ decimal methods ++ codes " methods, " ++ decimal instructions ++ codes " instructions\n"

abbrev pub methods_of : Program → ℕ
methods_of program = sum_by (λ class. length class.methods) program.classes

-- how many classes, methods and instructions a program has
abbrev pub program_text : Program → List ℕ
program_text program = checked_text (length program.classes) (capped (methods_of program)) (capped (insns_of program))

-- The text says how many classes, methods and instructions the program has that these bytes spell, which is accepted.
pub record Checks (bytes text : List ℕ) : Type 0 where
  pub program : Program
  pub reads : program_at bytes ≡ Ok program
  pub accepted : IsAccepted program
  pub says : text ≡ program_text program

-- The text says so of the program that the name holds, where the shelf tells what it holds.
pub record IsChecked (tells : Bool) (held : Held) (name text : List ℕ) : Type 0 where
  pub program : Program
  pub holds : IsTrue tells → HoldsProgram held name program
  pub accepted : IsAccepted program
  pub says : text ≡ program_text program

-- The text is the command's result on what the names hold, with advisers who reply so at first.
abbrev pub IsResult : List Voice → Bool → Held → CommandWords → List ℕ → Type 0
IsResult voices tells held Nothing text = text ≡ usage_text
IsResult voices tells held (Optimise words) text = IsSummary (FinishedOf voices tells held words) text
IsResult voices tells held (Check input) text = IsChecked tells held input text
IsResult voices tells held (Live rules input library) text = IsListed tells held rules input library text
IsResult voices tells held (Trace rules input script steps library) text = IsTraced tells held rules input library script steps text
IsResult voices tells held (Workload count) text = IsWorkload voices text

-- The text is the result of the command that the words spell.
pub record Results (words : List (List ℕ)) (voices : List Voice) (tells : Bool) (held : Held) (text : List ℕ) : Type 0 where
  pub command : CommandWords
  pub spelled : Spells words command
  pub result : IsResult voices tells held command text
