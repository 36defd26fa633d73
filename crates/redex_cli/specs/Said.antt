-- What was said in a run.
use Rattle.std.specs.Prelude.{◌≡◌, ◌⊎◌, ℕ, List, ◌++◌, Bool, IsTrue, take}
use Rattle.redex_outside.specs.Counts.{Rose}
use Rattle.redex_cli.specs.FaultLines.{status_text}
use Rattle.redex_cli.specs.declared.status.Status.{Status}
use Rattle.redex_cli.specs.declared.status.Status.TheVariants.{Done, WriteFault, NoMemory}

-- A prefix of the text was said.
pub record SaidPart (text old new : List ℕ) : Type 0 where
  pub kept : ℕ
  pub said : new ≡ old ++ take kept text

-- The whole text was said, or a prefix of it where the count of failed sayings rose.
abbrev pub SaidUnlessRose : List ℕ → ℕ → ℕ → List ℕ → List ℕ → Type 0
SaidUnlessRose text faults_old faults_new old new =
    (new ≡ old ++ text) ⊎ (Rose faults_old faults_new × SaidPart text old new)

-- A whole result was said.
pub record SaidResult (IsResult : List ℕ → Type 0) (old new : List ℕ) : Type 0 where
  pub text : List ℕ
  pub result : IsResult text
  pub said : new ≡ old ++ text

-- A prefix of a result was said.
pub record SaidResultPart (IsResult : List ℕ → Type 0) (old new : List ℕ) : Type 0 where
  pub text : List ℕ
  pub result : IsResult text
  pub said : SaidPart text old new

-- What was said in a run that ended so, where `IsResult` says which text its result may be.
abbrev pub Said : (List ℕ → Type 0) → Status → ℕ → ℕ → List ℕ → List ℕ → Type 0
Said IsResult Done faults_old faults_new old new = SaidResult IsResult old new
Said IsResult WriteFault faults_old faults_new old new =
    SaidPart (status_text WriteFault) old new ⊎ SaidResultPart IsResult old new
Said IsResult NoMemory faults_old faults_new old new = SaidPart (status_text NoMemory) old new
Said IsResult status faults_old faults_new old new = SaidUnlessRose (status_text status) faults_old faults_new old new

-- What the saying of a result ends with, and what was said.
abbrev pub SaysResult : List ℕ → Bool → ℕ → ℕ → List ℕ → List ℕ → Status → Type 0
SaysResult text tells faults_old faults_new old new Done = IsTrue tells → new ≡ old ++ text
SaysResult text tells faults_old faults_new old new NoMemory = IsTrue tells → new ≡ old
SaysResult text tells faults_old faults_new old new WriteFault = Rose faults_old faults_new × (IsTrue tells → SaidPart text old new)
SaysResult text tells faults_old faults_new old new _ = ⊥

-- The status of a run whose line found no memory: a fault of the output or the notes stays.
abbrev pub unsaid : Status → Status
unsaid WriteFault = WriteFault
unsaid _ = NoMemory

-- The line of a status was said, with this status at the end.
pub record SaysStatus (status : Status) (tells : Bool) (faults_old faults_new : ℕ) (old new : List ℕ) (last : Status) : Type 0 where
  pub becomes : (last ≡ status) ⊎ (last ≡ unsaid status)
  pub said : (status ≡ Done → ⊥) → IsTrue tells → Said (λ text. ⊥) last faults_old faults_new old new
