-- What is asked of the targets.
use Rattle.std.proofs.Common.{◌≡◌, ℕ, length, Option, Some, None, Result, Ok, Err, refl, ap, ◌∙◌}
use Rattle.std.specs.Prelude.{slice_get, IfOk}
use Rattle.std.specs.Option.{option_map}
use Rattle.std.proofs.lemmas.Option.{slice_get-map}
use Rattle.program_model.specs.declared.pools.FieldName.{FieldName}
use Rattle.program_model.specs.declared.pools.MethodName.{MethodName}
use Rattle.program_model.specs.declared.program.Program.{Program}
use Rattle.class_defs.specs.Finding.{by_entry, field_by, resolves_field, resolves_method}
use Rattle.hierarchy.specs.declared.build.Hierarchy.{Hierarchy}
use Rattle.hierarchy.specs.declared.build.Targets.{Targets}
use Rattle.hierarchy.specs.declared.fault.HierarchyFault.{HierarchyFault}
use Rattle.hierarchy.specs.Shapes.{IsOf, AreTargets, IsResolved}
use Rattle.class_defs.specs.Starts.{is_trivial}
use Rattle.hierarchy.specs.Quieting.{Marks}
use Rattle.hierarchy.specs.Starting.{HasStarts}
use Rattle.hierarchy.specs.Tables.{answer}
use Rattle.hierarchy.specs.Touring.{IsToured}
use Rattle.hierarchy.specs.Walking.{method_by}

pub field_answer : (p : Program) (h : Hierarchy) (n : ℕ) → IsResolved p h → answer (slice_get h.targets.fields.items n) ≡ resolves_field p n
field_answer p h n r = ap (λ l. answer (slice_get l n)) r.targets.fields ∙ ap answer (slice_get-map (λ f. field_by p (Some f)) p.fields n) ∙ by_entry_of (slice_get p.fields n)
  where
    by_entry_of : (o : Option FieldName) → answer (option_map (λ f. field_by p (Some f)) o) ≡ field_by p o
    by_entry_of None = refl
    by_entry_of (Some f) = refl

pub method_answer : (p : Program) (h : Hierarchy) (n : ℕ) → IsResolved p h → answer (slice_get h.targets.methods.items n) ≡ resolves_method p n
method_answer p h n r = ap (λ l. answer (slice_get l n)) r.targets.methods ∙ ap answer (slice_get-map (method_by p) p.methods n) ∙ by_entry_of (slice_get p.methods n)
  where
    by_entry_of : (o : Option MethodName) → answer (option_map (method_by p) o) ≡ by_entry (method_by p) o
    by_entry_of None = refl
    by_entry_of (Some m) = refl

pub resolved : (p : Program) (r : Result Hierarchy HierarchyFault) → IfOk r (λ h. IsOf p h) → IfOk r (λ h. IsOf p h → AreTargets p h.targets) → IfOk r (λ h. HasStarts p h.starts.initialisers.items)
    → IfOk r (λ h. Marks (length p.classes) (is_trivial p) h.starts.trivial.items) → IfOk r (λ h. IsToured p h.tour) → IfOk r (λ h. IsResolved p h)
resolved p (Err e) h t s k u = h
resolved p (Ok x) h t s k u = record { of = h; targets = t h; starts = s; trivial = k; toured = u }

-- the tables say the same whatever the targets
pub retarget : (p : Program) (h : Hierarchy) (t : Targets) → IsOf p (record { shape = h.shape; tour = h.tour; named = h.named; starts = h.starts; targets = t }) → IsOf p h
retarget p h t o = record { once = o.once; places = o.places; supers = o.supers; lists = o.lists; count = o.count; ranked = o.ranked; named = o.named }
