-- The choice of methods that a plan makes, as the laws of methods made static take it, and what is known of a plan.
use Rattle.std.specs.Prelude.{ℕ, Bool, List, Option}
use Rattle.program_model.specs.declared.pass.Outside.{Outside}
use Rattle.program_model.specs.declared.program.Program.{Program}
use Rattle.facts.specs.declared.facts.Facts.{Facts}
use Rattle.staticise.specs.Called.{AreKnown}
use Rattle.staticise.specs.Judging.{judged}
use Rattle.staticise.specs.Loosened.{given_at}
use Rattle.staticise.specs.Made.{AreMade, IsFresh, WasLoose}

-- the new proto of each method number that is made static
abbrev pub given_by : Program → Facts → Outside → List Bool → ℕ → Option ℕ
given_by p facts o admitted n = given_at (judged p facts o admitted).given n

-- What staticise's laws say of its plan: each method that is made static was loose, its new name is free, and its calls are known.
pub record IsPlan (p : Program) (facts : Facts) (o : Outside) (admitted : List Bool) : Type 0 where
  pub made : AreMade p facts o admitted (judged p facts o admitted)
  pub fresh : (n : ℕ) (w : WasLoose p facts o admitted n) → IsFresh p w.name w.proto w.class
  pub known : AreKnown p facts admitted (judged p facts o admitted)
