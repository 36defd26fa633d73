-- What `trace` says.
use Rattle.std.specs.Prelude.{◌≡◌, ◌≤◌, ℕ, Bool, IsTrue, List, length, Option, Some, Ok}
use Rattle.dalvik_defs.specs.Naming.{named}
use Rattle.dalvik_defs.specs.Outer.{outer_of}
use Rattle.dalvik_defs.specs.Step.{shows}
use Rattle.dalvik_defs.specs.declared.events.Event.{Event}
use Rattle.dex_read.specs.File.{program_at}
use Rattle.program_model.specs.declared.pass.Outside.{Outside}
use Rattle.program_model.specs.declared.program.Program.{Program}
use Rattle.redex_outside.specs.Held.{Held}
use Rattle.text_defs.specs.EventLines.{event_lines}
use Rattle.text_defs.specs.Plays.{play_of}
use Rattle.text_defs.specs.declared.play.Play.{Play}
use Rattle.redex_cli.specs.Accepted.{IsAccepted}
use Rattle.redex_cli.specs.Files.{AreHeld}
use Rattle.redex_cli.specs.Tables.{IsTableWith}
use Rattle.redex_cli.specs.declared.fetching.Inputs.{Inputs}

-- The text is the lines of events, one for a step at most: exactly those that the program shows in so many steps of the play,
-- by the table of these rules and this library.
pub record Traces (rules : List ℕ) (library : Option (List ℕ)) (program : Program) (play : Play) (steps : ℕ) (text : List ℕ) : Type 0 where
  pub outside : Outside
  pub table : IsTableWith rules library program outside
  pub events : List Event
  pub says : text ≡ event_lines events
  pub few : length events ≤ steps
  pub shown : events ≡ shows (named program) (outer_of program outside) play.framework play.floats play.moves steps

-- The same of the program that the file of these inputs spells, which is accepted, of their rules and their library, and of the play that the
-- script spells.
pub record TracesFile (inputs : Inputs) (script : List ℕ) (steps : ℕ) (text : List ℕ) : Type 0 where
  pub program : Program
  pub reads : program_at inputs.file ≡ Ok program
  pub accepted : IsAccepted program
  pub play : Play
  pub plays : play_of script ≡ Ok play
  pub traces : Traces inputs.rules inputs.library program play steps text

-- The same of what the names hold, where the shelf tells it.
pub record IsTraced (tells : Bool) (held : Held) (rules input : List ℕ) (library : Option (List ℕ)) (script : List ℕ) (steps : ℕ) (text : List ℕ) : Type 0 where
  pub inputs : Inputs
  pub are : AreHeld tells held rules input library inputs
  pub play : List ℕ
  pub plays : IsTrue tells → held script ≡ Some play
  pub traces : TracesFile inputs play steps text
