-- What is left of a program of which calls are inlined before the rounds, by number (this project's profile).
use Rattle.std.specs.Prelude.{ℕ, Bool, List, ◌++◌, length, map}
use Rattle.program_model.specs.declared.pass.Origin.{Origin}
use Rattle.program_model.specs.declared.pass.Outside.{Outside}
use Rattle.program_model.specs.declared.program.Program.{Program}
use Rattle.redex_outside.specs.Turns.{Turn}
use Rattle.redex_outside.specs.Voices.{Voice}
use Rattle.redex_outside.specs.Panels.{HasRun}
use Rattle.inline_calls.specs.Asked.{Row, turn_of, AreAnswered}
use Rattle.pipeline.specs.declared.traces.Traced.{Traced}
use Rattle.pipeline.specs.Asks.{Verdict}
use Rattle.pipeline.specs.Inlining.{IsInlining, InliningBegins}
use Rattle.pipeline.specs.Prepared.{IsPrepared, MayBegin}
use Rattle.pipeline.specs.Rounds.{HaveRunFrom}

-- What is left of a well-formed program, and where its positions come from. The advisers, who reply so before and after, are asked
-- about methods, by which so many methods are spared, and the silent calls of the admitted methods are nops. Behind these asks they
-- are asked about the calls that may be inlined, and the accepted ones are inlined; then rounds ran, so many, until one left the
-- program the same. Read by adviser, all answers, those about methods first, are what it would have replied at the beginning to all
-- these asks in order.
pub record IsOptimisedInlined (o : Outside) (p : Program) (olds news : List Voice) (before after : List Bool) (spared : ℕ) (r : Program) (origins : List (List Origin)) (rounds : ℕ) : Type 0 where
  pub admitted : List Bool
  pub middle : List Bool
  pub methods : List Turn
  pub silenced : Program
  pub prepared : IsPrepared o p (length olds) before middle (record { admitted = admitted; spared = spared }) silenced methods
  pub between : List Voice
  pub told : HasRun methods olds between before middle
  pub calls : List Row
  pub answered : AreAnswered calls between news middle after
  pub inlined : Traced
  pub inlining : IsInlining o admitted silenced inlined calls
  pub replied : HasRun (methods ++ map turn_of calls) olds news before after
  pub ran : HaveRunFrom o admitted inlined (record { program = r; origins = origins }) rounds

-- Memory did not suffice: of so many advisers' turns the first about methods were taken, or all of these and then the first about
-- calls, and no other.
pub data InlinedBegins (o : Outside) (p : Program) (advisers : ℕ) (before : List Bool) : List Turn → Type 0 where
  OfMethods : (turns : List Turn) → MayBegin o p turns → InlinedBegins o p advisers before turns
  OfCalls : (middle : List Bool) (v : Verdict) (silenced : Program) (methods : List Turn) (calls : List Row) → IsPrepared o p advisers before middle v silenced methods
      → InliningBegins o v.admitted silenced calls → InlinedBegins o p advisers before (methods ++ map turn_of calls)
