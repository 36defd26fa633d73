-- What each ask about a method says, and turns that advisers took.
use Rattle.std.specs.Prelude.{◌≡◌, ℕ, Bool, if◌then◌else◌, List, [], ◌∷◌, ◌++◌, flat_map}
use Rattle.program_model.specs.declared.program.Method.{Method}
use Rattle.program_model.specs.declared.program.Class.{Class}
use Rattle.program_model.specs.declared.program.Program.{Program}
use Rattle.redex_outside.specs.declared.adviser.Ask.{Ask}
use Rattle.redex_outside.specs.Turns.{Turn, Weighed}
use Rattle.redex_outside.specs.Voices.{Voice}
use Rattle.redex_outside.specs.Panels.{HasRun}
use Rattle.call_graph.specs.declared.live_set.LiveSet.{LiveSet}
use Rattle.pipeline.specs.Asks.{ask_of, is_asked}
use Rattle.pipeline.specs.Counts.{counted, method_insns}

-- ---- asks about methods

-- the ask about a method: its class's and its own names, and how many instructions it has
abbrev pub ask_about : Program → Class → Method → Ask
ask_about p c m = ask_of p c.name m.name (counted (method_insns m))

abbrev pub turns_one : LiveSet → Program → Class → Method → List Turn
turns_one s p c m = if is_asked s m then Weighed (ask_about p c m) ∷ [] else []

abbrev pub turns_in : LiveSet → Program → Class → List Turn
turns_in s p c = flat_map (turns_one s p c) c.methods

-- in class and method order
abbrev pub turns_about : LiveSet → Program → List Turn
turns_about s p = flat_map (turns_in s p) p.classes

-- ---- turns that were taken

-- The advisers took turns for which this holds. Behind the answers before there is an answer of each adviser for each ask among
-- these turns; read by adviser, the answers are what it would have replied at the beginning to these turns in order.
pub record HaveTaken (P : List Turn → Type 0) (olds news : List Voice) (before after : List Bool) : Type 0 where
  pub turns : List Turn
  pub run : HasRun turns olds news before after
  pub holds : P turns

-- some turns are the first of these
pub record AreFirstOf (turns some : List Turn) : Type 0 where
  pub left : List Turn
  pub all : turns ≡ some ++ left
