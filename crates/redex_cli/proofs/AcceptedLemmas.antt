-- From what the class graph and the verifier say to what a run says of programs.
use Rattle.std.proofs.Common.{◌≡◌, ◌⊎◌, ℕ, List, true, Ok, inl, inr}
use Rattle.dex_read.specs.File.{program_at}
use Rattle.hierarchy.specs.Shapes.{IsAcyclic, IsResolved}
use Rattle.hierarchy.specs.Splitting.{NoSplit}
use Rattle.hierarchy.specs.declared.build.Hierarchy.{Hierarchy}
use Rattle.program_model.specs.ProgramRules.{is_well_formed}
use Rattle.program_model.specs.declared.program.Program.{Program}
use Rattle.type_bridge.proofs.Programs.{typed_program}
use Rattle.type_bridge.proofs.Refused.{refused_program}
use Rattle.verify.specs.Methods.{RefusesOne, TypesAll}
use Rattle.verify.specs.declared.fault.TypeFault.{TypeFault}
use Rattle.verify.specs.declared.fault.TypeFault.TheVariants.{NoMemory, IllTyped}
use Rattle.redex_cli.specs.Accepted.{IsOfBytes, IsAccepted, IsGraphOf, IsIllTyped, IsTypeCause}
use Rattle.redex_cli.specs.Files.{HasTypeFault}

graph_of : (p : Program) (h : Hierarchy) → IsResolved p h → IsAcyclic p → NoSplit p → IsGraphOf p h
graph_of p h resolved acyclic unsplit = record { resolved = resolved; once = resolved.of.once; acyclic = acyclic; unsplit = unsplit }

pub accepted : (p : Program) (h : Hierarchy) → IsOfBytes p → is_well_formed p ≡ true → (is_well_formed p ≡ true → IsResolved p h) → (is_well_formed p ≡ true → IsAcyclic p)
    → (is_well_formed p ≡ true → NoSplit p) → TypesAll p h → IsAccepted p
accepted p h read well resolved acyclic unsplit types = record {
  read = read;
  formed = well;
  hierarchy = h;
  graph = graph_of p h (resolved well) (acyclic well) (unsplit well);
  types = types;
  typed = typed_program p h well (resolved well) types;
}

ill_typed : (p : Program) (h : Hierarchy) (method position register : ℕ) → is_well_formed p ≡ true → IsGraphOf p h
    → RefusesOne p h (IllTyped method position register) → IsIllTyped p method position register
ill_typed p h method position register well graph refuses = record {
  formed = well;
  hierarchy = h;
  graph = graph;
  refuses = refuses;
  untyped = refused_program p h well graph.resolved method position register refuses;
}

some_memory : (method position register : ℕ) → IllTyped method position register ≡ NoMemory → ⊥
some_memory method position register e = cc

-- a refusal for want of memory, or for which there is a cause
by_fault : (Refuses Cause : TypeFault → Type 0) → Cause NoMemory
    → ((method position register : ℕ) → Refuses (IllTyped method position register) → Cause (IllTyped method position register))
    → (fault : TypeFault) → (fault ≡ NoMemory) ⊎ Refuses fault → Cause fault
by_fault Refuses Cause none ill NoMemory refuses = none
by_fault Refuses Cause none ill (IllTyped method position register) (inl e) = absurd (some_memory method position register e)
by_fault Refuses Cause none ill (IllTyped method position register) (inr refuses) = ill method position register refuses

cause_of : (p : Program) (h : Hierarchy) → is_well_formed p ≡ true → IsGraphOf p h → (fault : TypeFault)
    → (fault ≡ NoMemory) ⊎ RefusesOne p h fault → IsTypeCause p fault
cause_of p h well graph fault refuses =
    by_fault (RefusesOne p h) (IsTypeCause p) tt (λ method position register. ill_typed p h method position register well graph) fault refuses

pub type_fault : (p : Program) (h : Hierarchy) (bytes : List ℕ) (fault : TypeFault) → program_at bytes ≡ Ok p → is_well_formed p ≡ true
    → (is_well_formed p ≡ true → IsResolved p h) → (is_well_formed p ≡ true → IsAcyclic p) → (is_well_formed p ≡ true → NoSplit p)
    → (fault ≡ NoMemory) ⊎ RefusesOne p h fault → HasTypeFault bytes fault
type_fault p h bytes fault reads well resolved acyclic unsplit refuses = record {
  program = p;
  reads = reads;
  cause = cause_of p h well (graph_of p h (resolved well) (acyclic well) (unsplit well)) fault refuses;
}
