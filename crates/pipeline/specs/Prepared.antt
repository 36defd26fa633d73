-- What is asked about methods and what becomes of a program then, by number, before any pass runs (this project's profile).
use Rattle.std.specs.Prelude.{◌≡◌, ◌⊎◌, ℕ, Bool, true, false, List, []}
use Rattle.program_model.specs.declared.pass.Outside.{Outside}
use Rattle.program_model.specs.declared.program.Program.{Program}
use Rattle.program_model.specs.ProgramRules.{is_well_formed}
use Rattle.redex_outside.specs.Turns.{Turn}
use Rattle.call_graph.specs.declared.live_set.LiveSet.{LiveSet}
use Rattle.call_graph.specs.Least.{IsLeastSet}
use Rattle.reach.specs.Marked.{IsMarked}
use Rattle.pipeline.specs.Advised.{IsAsked, IsUnasked}
use Rattle.pipeline.specs.Asks.{Verdict}
use Rattle.pipeline.specs.Replies.{turns_about, AreFirstOf}
use Rattle.pipeline.specs.Silence.{IsSilent}

-- ---- all asks

-- The advisers are asked about the methods that some marks say, and these are the turns that they take.
pub record IsAskedBy (o : Outside) (p : Program) (advisers : ℕ) (before after : List Bool) (v : Verdict) (turns : List Turn) : Type 0 where
  pub asked : IsAsked o p advisers before after v
  pub turns_are : turns ≡ turns_about asked.marks p

-- nobody is asked, and no turn taken
pub record IsUnaskedBy (o : Outside) (p : Program) (before after : List Bool) (v : Verdict) (turns : List Turn) : Type 0 where
  pub unasked : IsUnasked o p before after v
  pub none : turns ≡ []

abbrev pub IsAdvisedBy : Outside → Program → ℕ → List Bool → List Bool → Verdict → List Turn → Type 0
IsAdvisedBy o p advisers before after v turns = IsAskedBy o p advisers before after v turns ⊎ IsUnaskedBy o p before after v turns

-- So many advisers took these turns about the methods of a well-formed program. The silent calls of the admitted methods are nops,
-- of none where the rules forbid it, and the program is well-formed still.
pub record IsPrepared (o : Outside) (p : Program) (advisers : ℕ) (before after : List Bool) (v : Verdict) (q : Program) (turns : List Turn) : Type 0 where
  pub advised : IsAdvisedBy o p advisers before after v turns
  pub silent : IsSilent o.silent v.admitted p q
  pub unsilenced : o.optimise ≡ false → q ≡ p
  pub formed : is_well_formed q ≡ true

-- ---- where memory does not suffice

-- The first turns about methods, some or none. The marks are the least ones that are closed under what the outside keeps.
pub data MayBegin (o : Outside) (p : Program) : List Turn → Type 0 where
  NoneTaken : MayBegin o p []
  SomeTaken : (s : LiveSet) (turns : List Turn) → o.optimise ≡ true → IsMarked p o s → IsLeastSet p o s → AreFirstOf (turns_about s p) turns → MayBegin o p turns
