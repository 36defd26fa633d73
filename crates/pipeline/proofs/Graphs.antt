-- The class graph that was found, or the fault.
use Rattle.std.proofs.Common.{◌≡◌, Option, Some, None, subst}
use Rattle.std.specs.Prelude.{MatchOption}
use Rattle.program_model.specs.declared.program.Program.{Program}
use Rattle.hierarchy.specs.Shapes.{IsAcyclic, IsCause, IsResolved}
use Rattle.hierarchy.specs.declared.build.Hierarchy.{Hierarchy}
use Rattle.hierarchy.specs.declared.fault.HierarchyFault.{HierarchyFault}
use Rattle.pipeline.specs.Graph.{HasGraph, HasGraphFault, IsFault}

pub graph : (p : Program) (h : Hierarchy) → IsResolved p h → IsAcyclic p → HasGraph p h
graph p h resolved grounded = record { resolved = resolved; grounded = grounded }

pub graph_fault : (p : Program) (f : HierarchyFault) → IsFault f → IsCause p f → HasGraphFault p
graph_fault p f is cause = record { fault = f; is = is; cause = cause }

pub found_graph : (p : Program) (found : Option Hierarchy) (h : Hierarchy) → MatchOption found (HasGraphFault p) (HasGraph p) → found ≡ Some h → HasGraph p h
found_graph p found h m e = subst (λ (f : Option Hierarchy). MatchOption f (HasGraphFault p) (HasGraph p)) e m

pub found_fault : (p : Program) (found : Option Hierarchy) → MatchOption found (HasGraphFault p) (HasGraph p) → found ≡ None → HasGraphFault p
found_fault p found m e = subst (λ (f : Option Hierarchy). MatchOption f (HasGraphFault p) (HasGraph p)) e m
