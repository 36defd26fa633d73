-- What the names hold behind a run.
use Rattle.std.specs.Prelude.{◌≡◌, ◌⊎◌, ℕ, List, Option, Some}
use Rattle.redex_outside.specs.Counts.{Rose}
use Rattle.redex_outside.specs.Held.{Held, AllSame, OldOrPrefix}
use Rattle.redex_cli.specs.Fetching.{Failures}
use Rattle.redex_cli.specs.declared.status.Status.{Status}
use Rattle.redex_cli.specs.declared.status.Status.TheVariants.{Done, WriteFault, NoMemory}

-- A refusal before the put.
abbrev pub IsRefusal : Status → Type 0
IsRefusal Done = ⊥
IsRefusal WriteFault = ⊥
IsRefusal NoMemory = ⊥
IsRefusal _ = Unit {0}

-- The name holds a finished output, where `IsFinal` says which output is one, with which summary.
pub record HoldsFinished (IsFinal : List ℕ → List ℕ → Type 0) (held : Option (List ℕ)) : Type 0 where
  pub output : List ℕ
  pub summary : List ℕ
  pub final : IsFinal output summary
  pub there : held ≡ Some output

-- The name's count of failed puts rose, and it holds its old bytes or a prefix of a finished output.
pub record HoldsPart (IsFinal : List ℕ → List ℕ → Type 0) (faults_old faults_new : ℕ) (old new : Option (List ℕ)) : Type 0 where
  pub output : List ℕ
  pub summary : List ℕ
  pub final : IsFinal output summary
  pub rose : Rose faults_old faults_new
  pub there : OldOrPrefix old new output

-- What the output's name holds behind a run that ended so.
abbrev pub OutputHolds : (List ℕ → List ℕ → Type 0) → Status → ℕ → ℕ → Option (List ℕ) → Option (List ℕ) → Type 0
OutputHolds IsFinal Done faults_old faults_new old new = HoldsFinished IsFinal new
OutputHolds IsFinal WriteFault faults_old faults_new old new = HoldsFinished IsFinal new ⊎ HoldsPart IsFinal faults_old faults_new old new
OutputHolds IsFinal NoMemory faults_old faults_new old new = (new ≡ old) ⊎ HoldsFinished IsFinal new
OutputHolds IsFinal _ faults_old faults_new old new = new ≡ old

-- What all names hold behind a run that ended so, where `IsOutput` says which name it had to put, and `IsFinal` with what.
pub record Stays (IsOutput : List ℕ → Type 0) (IsFinal : List ℕ → List ℕ → Type 0) (status : Status) (faults_old faults_new : Failures)
    (old new : Held) : Type 0 where
  -- After a refusal each name holds what it held.
  pub refused : IsRefusal status → AllSame old new
  -- Whatever comes, all other names do.
  pub others : (name : List ℕ) → (IsOutput name → ⊥) → new name ≡ old name
  pub output : (name : List ℕ) → IsOutput name → OutputHolds IsFinal status (faults_old name) (faults_new name) (old name) (new name)
