-- What is asked of the program, and what is marked class by class.
use Rattle.std.specs.Prelude.{◌≡◌, ◌<◌, ◌⊎◌, ℕ, ◌&&◌, ◌||◌, Bool, true, List, length, Some, slice_get}
use Rattle.std.specs.List.{list_any, range_with_len}
use Rattle.program_model.specs.ProgramRules.{is_well_formed}
use Rattle.program_model.specs.declared.pass.Outside.{Outside}
use Rattle.program_model.specs.declared.pools.MethodName.{MethodName}
use Rattle.program_model.specs.declared.program.Class.{Class}
use Rattle.program_model.specs.declared.program.Method.{Method}
use Rattle.program_model.specs.declared.program.Program.{Program}
use Rattle.class_defs.specs.Places.{is_under}
use Rattle.hierarchy.specs.Shapes.{IsResolved}
use Rattle.loose_methods.specs.declared.candidates.Judged.{Judged}
use Rattle.loose_methods.specs.Loose.{lists_outer}
use Rattle.loose_methods.specs.Candidates.{is_candidate}
use Rattle.loose_methods.specs.Marking.{is_on, IsCandidate}

-- the program is well-formed, and the hierarchy is that of its classes
pub record IsJudged (j : Judged) : Type 0 where
  pub formed : is_well_formed j.program.now ≡ true
  pub resolved : IsResolved j.program.now j.hierarchy.now

-- the classes under one are marked too, if it lists a type of the framework
pub record MarksOutward (p : Program) (place : ℕ) (old new : List Bool) : Type 0 where
  pub long : length new ≡ length old
  pub are : length old ≡ length p.classes → (d : ℕ) → d < length p.classes → is_on new d ≡ (is_on old d || (is_under p d place && lists_outer p (slice_get p.classes place)))

-- so many classes were looked at
pub record Outwards (p : Program) (done : ℕ) (marks : List Bool) : Type 0 where
  pub long : length marks ≡ length p.classes
  pub are : (d : ℕ) → d < length p.classes → is_on marks d ≡ list_any (λ e. is_under p d e && lists_outer p (slice_get p.classes e)) (range_with_len 0 done)

-- the candidates of the class at a place are marked too
pub record MarksClass (p : Program) (o : Outside) (place : ℕ) (old new : List Bool) : Type 0 where
  pub long : length new ≡ length old
  pub keeps : (n : ℕ) → is_on old n ≡ true → is_on new n ≡ true
  pub only : (n : ℕ) → is_on new n ≡ true → (is_on old n ≡ true) ⊎ IsCandidate p o n
  pub all : (k : Class) (i : ℕ) (m : Method) (q : MethodName) → slice_get p.classes place ≡ Some k → slice_get k.methods i ≡ Some m → slice_get p.methods m.name ≡ Some q → is_candidate p o place k q m ≡ true → is_on new m.name ≡ true

-- just those of so many classes are
pub record CandidatesTo (p : Program) (o : Outside) (done : ℕ) (marks : List Bool) : Type 0 where
  pub long : length marks ≡ length p.methods
  pub only : (n : ℕ) → is_on marks n ≡ true → IsCandidate p o n
  pub all : (place i : ℕ) (k : Class) (m : Method) (q : MethodName) → place < done → slice_get p.classes place ≡ Some k → slice_get k.methods i ≡ Some m → slice_get p.methods m.name ≡ Some q
      → is_candidate p o place k q m ≡ true → is_on marks m.name ≡ true

-- just the candidates are marked
pub record AreCandidates (p : Program) (o : Outside) (marks : List Bool) : Type 0 where
  pub long : length marks ≡ length p.methods
  pub only : (n : ℕ) → is_on marks n ≡ true → IsCandidate p o n
  pub all : (place i : ℕ) (k : Class) (m : Method) (q : MethodName) → slice_get p.classes place ≡ Some k → slice_get k.methods i ≡ Some m → slice_get p.methods m.name ≡ Some q
      → is_candidate p o place k q m ≡ true → is_on marks m.name ≡ true
