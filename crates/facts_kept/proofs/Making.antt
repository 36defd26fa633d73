-- Kept constructors of classes that can have objects are defined by these classes, by names as by number.
use Rattle.std.proofs.Common.{◌≡◌, ℕ, ◌<◌, ◌≤◌, ◌⊎◌, inl, inr, Bool, true, false, length, Option, Some, None, sym, ap, ◌∙◌}
use Rattle.std.specs.Prelude.{◌&&◌, is_some, not, slice_get}
use Rattle.std.proofs.lemmas.Bool.{cases_lt}
use Rattle.program_model.specs.declared.pass.Outside.{Outside}
use Rattle.program_model.specs.declared.program.Class.{Class}
use Rattle.program_model.specs.declared.program.Method.{Method}
use Rattle.program_model.specs.declared.program.Program.{Program}
use Rattle.class_defs.specs.ClassGraph.{IsTwice}
use Rattle.class_defs.proofs.Positions.{entry_at}
use Rattle.class_defs.proofs.WellFormed.{Sound, class_parts}
use Rattle.dalvik_defs.specs.Find.{defined_method, method_in}
use Rattle.dalvik_defs.specs.Flags as flags
use Rattle.dalvik_defs.specs.Names.{constructor_name, method_eq, text_eq}
use Rattle.dalvik_defs.specs.Naming.{method_at, named, named_class, signature_at, text_at, type_at}
use Rattle.dalvik_defs.specs.Outer.{outer_of}
use Rattle.dalvik_defs.specs.Under.{class_named}
use Rattle.dalvik_defs.specs.declared.names.MethodKey.{MethodKey}
use Rattle.dalvik_defs.specs.declared.program.NamedClass.{NamedClass}
use Rattle.dalvik_defs.specs.declared.program.NamedMethod.{NamedMethod}
use Rattle.dalvik_defs.proofs.Calm.{text_sound}
use Rattle.name_bridge.proofs.Found.{text_same}
use Rattle.name_bridge.proofs.Tables.{method_class, method_is, type_once}
use Rattle.pass_defs.specs.Live.{is_concrete, is_constructor}
use Rattle.reach_bridge.proofs.Keeping.{concrete_can}
use Rattle.removal_law.proofs.Lists.{In, contained}
use Rattle.removal_law.proofs.Outward.{any_where}
use Rattle.removal_bridge.proofs.Members.{class_known, method_known}
use Rattle.premises.specs.Makers.{MakersAreOwn}
use Rattle.facts_kept.proofs.Defining.{named_class_type, past_empty}
use Rattle.facts_kept.proofs.Made.{concrete_class}
use Rattle.facts_kept.proofs.Numbers.{method_sound}
use Rattle.facts_kept.proofs.Places.{found_at}

module _ (p : Program) (s : Sound p) (once : (class : ℕ) → IsTwice p class → ⊥) (o : Outside) (own : MakersAreOwn p o) where
  -- a method of a class is defined under its name
  method_defined : (c : ℕ) (d : Class) (j : ℕ) (m : Method) → slice_get p.classes c ≡ Some d → slice_get d.methods j ≡ Some m → (k : MethodKey) → type_at p d.name ≡ k.class → method_at p m.name ≡ k
      → is_some (defined_method (named p) k) ≡ true
  method_defined c d j m e f k class is =
      ap (λ o. is_some (elim o as (λ o. Option NamedMethod) [ Some c ↦ method_in c k.name k.signature | None ↦ None ])) (ap (class_named (named p)) (sym class) ∙ class_known p s once c d e)
      ∙ ap (λ k. is_some (method_in (named_class p d) k.name k.signature)) (sym is)
      ∙ ap is_some (method_known p s c d e j m f)

  pub makers_named : (k : MethodKey) → (outer_of p o).methods k ≡ true → is_constructor k ≡ true → is_concrete (named p) k.class ≡ true → is_some (defined_method (named p) k) ≡ true
  makers_named k has maker concrete = by (cases_lt r.0 (length p.methods))
    where
      r : (n : ℕ) × (In n o.methods × (method_eq (method_at p n) k ≡ true))
      r = any_where (λ n. method_eq (method_at p n) k) o.methods has

      is : method_at p r.0 ≡ k
      is = method_sound (method_at p r.0) k r.1.1

      by : (r.0 < length p.methods) ⊎ (length p.methods ≤ r.0) → is_some (defined_method (named p) k) ≡ true
      by (inl low) =
          let q = entry_at p.methods r.0 low in
          let key : record { class = type_at p q.0.class; name = text_at p q.0.name; signature = signature_at p q.0.proto } ≡ k = sym (method_is p s r.0 q.0 q.1) ∙ is in
          let c = concrete_class (named p) k.class concrete in
          let x = found_at (named_class p) (λ c. text_eq c.name k.class) p.classes c.0 c.1 in
          let class : type_at p x.entry.name ≡ k.class = ap (λ c. c.name) x.is ∙ text_sound c.0.name k.class x.passes in
          let same = type_once p s x.entry.name q.0.class (class_parts p s x.place x.entry x.is_entry).name (method_class p s r.0 q.0 q.1) (class ∙ ap (λ k. k.class) (sym key)) in
          let flagged : (not (flags.is_interface c.0.flags) && not (flags.is_abstract c.0.flags)) ≡ true = flags_of c.0 c.1 in
          let named_so = ap (λ t. text_eq t constructor_name) (sym (text_same p q.0.name)) ∙ ap (λ k. text_eq k.name constructor_name) key ∙ maker in
          let m = own r.0 q.0 x.place x.entry (contained r.0 o.methods r.1.0) q.1 named_so x.is_entry same (concrete_can p x.entry c.0 x.is flagged) in
          method_defined x.place x.entry m.0 m.1.0 x.is_entry m.1.1.0 k class (ap (method_at p) m.1.1.1 ∙ is)
        where
          flags_of : (c : NamedClass) → class_named (named p) k.class ≡ Some c → (not (flags.is_interface c.flags) && not (flags.is_abstract c.flags)) ≡ true
          flags_of c e = sym (ap (λ o. elim o as (λ o. Bool) [ Some c ↦ not (flags.is_interface c.flags) && not (flags.is_abstract c.flags) | None ↦ false ]) e) ∙ concrete
      by (inr past) =
          let c = concrete_class (named p) k.class concrete in
          let x = found_at (named_class p) (λ c. text_eq c.name k.class) p.classes c.0 c.1 in
          let class : type_at p x.entry.name ≡ k.class = ap (λ c. c.name) x.is ∙ text_sound c.0.name k.class x.passes in
          absurd (named_class_type p s x.place x.entry x.is_entry (class ∙ ap (λ k. k.class) (sym is) ∙ past_empty p s r.0 past))
