-- A program of which a hierarchy was built has no fault in its class graph.
use Rattle.program_model.specs.declared.program.Program.{Program}
use Rattle.hierarchy.specs.Shapes.{IsAcyclic, IsCause, IsOf}
use Rattle.hierarchy.specs.Splitting.{NoSplit}
use Rattle.hierarchy.specs.declared.build.Hierarchy.{Hierarchy}
use Rattle.hierarchy.specs.declared.fault.HierarchyFault.{HierarchyFault}
use Rattle.hierarchy.specs.declared.fault.HierarchyFault.TheVariants as fault
use Rattle.pipeline.specs.Graph.{HasGraphFault, IsFault}

pub unfaulted : (p : Program) (h : Hierarchy) → IsOf p h → IsAcyclic p → NoSplit p → HasGraphFault p → ⊥
unfaulted p h of acyclic whole x = by x.fault x.is x.cause
  where
    by : (f : HierarchyFault) → IsFault f → IsCause p f → ⊥
    by fault.NoMemory is cause = is
    by (fault.Cycle class) is cause = acyclic class cause.is.own
    by (fault.Twice class) is cause = of.once class cause.twice
    by (fault.SplitOverride class method) is cause = whole class method cause.is.is
