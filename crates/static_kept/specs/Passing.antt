-- What the rounds say of a pass that makes methods static (this project's profile).
use Rattle.std.specs.Prelude.{◌≡◌, Bool, List}
use Rattle.program_model.specs.declared.pass.Changed.{Changed}
use Rattle.program_model.specs.declared.pass.Outside.{Outside}
use Rattle.program_model.specs.declared.program.Program.{Program}
use Rattle.hierarchy.specs.Shapes.{IsResolved}
use Rattle.hierarchy.specs.declared.build.Hierarchy.{Hierarchy}
use Rattle.facts.specs.declared.facts.Facts.{Facts}
use Rattle.summaries.specs.Certified.{IsCertified}
use Rattle.premises.specs.Makers.{MakersAreOwn}
use Rattle.premises.specs.Numbers.{AllHaveWords}
use Rattle.premises.specs.Plain.{ListsPlainly}
use Rattle.staticise.specs.Left.{NoneLeft}
use Rattle.staticise.specs.Loosened.{IsStaticisedBy}

-- Facts are known of the program, and the methods are static that they let be so. Where the program is left the same, none is.
pub record Loosens (o : Outside) (admitted : List Bool) (p q : Program) : Type 0 where
  pub hierarchy : Hierarchy
  pub resolved : IsResolved p hierarchy
  pub facts : Facts
  pub certified : IsCertified p o facts
  pub words : AllHaveWords p
  pub makers : MakersAreOwn p o
  pub plain : ListsPlainly p
  pub changed : Changed
  pub staticised : IsStaticisedBy p facts o admitted changed
  pub left : q ≡ changed.program
  pub none_left : q ≡ p → NoneLeft p facts o admitted
