-- A program whose classes have no fault has no cause of a refusal.
use Rattle.std.proofs.Common.{◌≡◌, refl}
use Rattle.program_model.specs.declared.program.Program.{Program}
use Rattle.hierarchy.specs.Shapes.{IsCause}
use Rattle.hierarchy.specs.declared.fault.HierarchyFault.{HierarchyFault}
use Rattle.hierarchy.specs.declared.fault.HierarchyFault.TheVariants.{NoMemory, Cycle, Twice, SplitOverride}
use Rattle.dalvik_lookups.specs.Accepting.{IsAccepted}

pub no_cause : (p : Program) (f : HierarchyFault) → IsAccepted p → IsCause p f → (f ≡ NoMemory → ⊥) → ⊥
no_cause p NoMemory a c n = n refl
no_cause p (Cycle class) a c n = a.acyclic class c.is.own
no_cause p (Twice class) a c n = a.once class c.twice
no_cause p (SplitOverride class method) a c n = a.unsplit class method c.is.is
