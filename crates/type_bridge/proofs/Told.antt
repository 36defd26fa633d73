-- What the tables of a verifier of a well-formed program say.
use Rattle.std.proofs.Common.{◌≡◌, ℕ, true}
use Rattle.program_model.specs.declared.program.Program.{Program}
use Rattle.program_model.specs.ProgramRules.{is_well_formed}
use Rattle.class_defs.specs.ClassGraph.{IsTwice}
use Rattle.class_defs.proofs.WellFormed.{Sound, sound}
use Rattle.hierarchy.specs.Ranks.{IsRanked}
use Rattle.hierarchy.specs.Shapes.{IsOf}
use Rattle.hierarchy.specs.declared.build.Hierarchy.{Hierarchy}
use Rattle.verify.specs.Building.{AreChainsOf, FollowsClasses}
use Rattle.verify.specs.Descriptors.{AreTypesOf, SaysTexts}
use Rattle.verify.specs.Meeting.{IsMeeting}
use Rattle.verify.specs.Methods.{IsFor}
use Rattle.verify.specs.declared.tables.Tables.{Tables}
use Rattle.verify.specs.declared.typed.Verifier.{Verifier}
use Rattle.verify.proofs.Follows.{follows}
use Rattle.verify.proofs.Passing.{says}

pub record Told (p : Program) (t : Tables) : Type 0 where
  pub well : is_well_formed p ≡ true
  pub sound : Sound p
  pub once : (class : ℕ) → IsTwice p class → ⊥
  pub ranked : IsRanked p
  pub meets : IsMeeting t
  pub chains : AreChainsOf p t.chains
  pub types : AreTypesOf p t
  pub says : SaysTexts p t
  pub follows : FollowsClasses p t.chains

pub told : (p : Program) (h : Hierarchy) (v : Verifier) → is_well_formed p ≡ true → IsOf p h → IsFor p h v → Told p v.tables
told p h v w o i = record {
  well = w;
  sound = sound p w;
  once = o.once;
  ranked = o.ranked;
  meets = i.meets;
  chains = i.chains w o;
  types = i.types w o;
  says = says p w o.once v.tables (i.types w o) (i.chains w o);
  follows = follows p v.tables.chains o.ranked (i.chains w o);
}
