-- What field numbers name.
use Rattle.std.proofs.Common.{◌≡◌, ℕ, ◌<◌, ◌≤◌, length, arith, ap, refl, sym, subst, ◌∙◌}
use Rattle.std.specs.Prelude.{Option, Some, None, slice_get}
use Rattle.class_defs.proofs.WellFormed.{sound}
use Rattle.program_model.specs.declared.pools.FieldName.{FieldName}
use Rattle.program_model.specs.declared.program.Program.{Program}
use Rattle.name_bridge.proofs.Tables.{field_class, field_is, field_kind}
use Rattle.dalvik_defs.specs.Naming.{field_at, type_at}
use Rattle.dalvik_defs.specs.declared.names.FieldKey.{FieldKey}
use Rattle.dalvik_lookups.specs.Tables.{kind_in, IsRight}
use Rattle.dalvik_lookups.specs.Views.{type_text}
use Rattle.dalvik_lookups.specs.declared.lookups.Lookups.{Lookups}
use Rattle.dalvik_lookups.specs.declared.types.Kind.{Kind}
use Rattle.dalvik_state.specs.States.{IsFineKind}
use Rattle.dalvik_steps.proofs.Depths.{fine_type}
use Rattle.dalvik_state.proofs.Places.{none_past}

module _ (l : Lookups) (r : IsRight l) (field : ℕ) (q : FieldName) (e : slice_get l.program.now.fields field ≡ Some q) (k : Kind) where
  pub kind_text_is : k ≡ kind_in l.kinds.items q.kind → type_text l.types k ≡ (field_at l.program.now field).kind
  kind_text_is h =
      let s = sound l.program.now r.well in
      ap (type_text l.types) h
      ∙ (r.tabled.named.kinds q.kind (field_kind l.program.now s field q e)).text
      ∙ sym (ap (λ (x : FieldKey). x.kind) (field_is l.program.now s field q e))

  pub kind_is_fine : k ≡ kind_in l.kinds.items q.kind → IsFineKind l k
  kind_is_fine h = subst (IsFineKind l) (sym h) (fine_type l r q.kind (field_kind l.program.now (sound l.program.now r.well) field q e))

  pub class_text_is : k ≡ kind_in l.kinds.items q.class → type_text l.types k ≡ (field_at l.program.now field).class
  class_text_is h =
      let s = sound l.program.now r.well in
      ap (type_text l.types) h
      ∙ (r.tabled.named.kinds q.class (field_class l.program.now s field q e)).text
      ∙ sym (ap (λ (x : FieldKey). x.class) (field_is l.program.now s field q e))

-- a number of the table names a field
pub no_name : (X : Type 0) (p : Program) (field : ℕ) → field < length p.fields → slice_get p.fields field ≡ None → X
no_name X p field low e = (let past = none_past p.fields field e in absurd (omega (arith, low, past)))
