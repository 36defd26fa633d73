-- What narrowing answers.
use Rattle.std.specs.Prelude.{◌≡◌, ℕ, ◌<◌, List, length, All, Bool}
use Rattle.std.specs.List.{AllPairs}
use Rattle.stub_library.specs.Shut.{passing_below}
use Rattle.stub_library.specs.Marking.{is_on}
use Rattle.program_model.specs.declared.pass.Outside.{Outside}
use Rattle.program_model.specs.declared.program.Program.{Program}

-- the marked numbers below the size
abbrev pub numbers_of : List Bool → ℕ → List ℕ
numbers_of marks n = passing_below (is_on marks) n

-- numbers of a table of this size, in order and without duplicates
pub record AreNumbers (size : ℕ) (numbers : List ℕ) : Type 0 where
  pub below : All (λ n. n < size) numbers
  pub ascend : AllPairs (λ a b. a < b) numbers

-- all but the list of shut methods is handed on, and that list has numbers of the table of methods
pub record Narrows (p : Program) (old new : Outside) : Type 0 where
  pub rest : new ≡ record old { shut = new.shut }
  pub numbers : AreNumbers (length p.methods) new.shut
