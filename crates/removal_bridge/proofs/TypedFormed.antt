-- The named program of a well-formed program is regular, where its code is typed.
use Rattle.std.proofs.Common.{◌≡◌, ℕ, Bool, true, false, true≢false, Option, Some, None, refl, sym, ap, ◌∙◌, subst}
use Rattle.std.specs.Prelude.{Contains}
use Rattle.std.specs.Option.{option_map}
use Rattle.program_model.specs.ProgramRules.{is_well_formed}
use Rattle.program_model.proofs.Formed.{formed}
use Rattle.program_model.specs.declared.body.Body.{Body}
use Rattle.program_model.specs.declared.program.Method.{Method}
use Rattle.program_model.specs.declared.program.Program.{Program}
use Rattle.program_model.specs.declared.value.EncValue.{EncValue}
use Rattle.class_defs.specs.ClassGraph.{IsTwice}
use Rattle.class_defs.proofs.WellFormed.{Sound, sound, class_parts}
use Rattle.dalvik_defs.specs.Names.{Text, is_class_type}
use Rattle.dalvik_defs.specs.Fields.{first_value}
use Rattle.dalvik_defs.specs.Find.{defined_method, method_in}
use Rattle.dalvik_defs.specs.Naming.{body_of, form_of, named, named_class, named_field, named_method, value_of}
use Rattle.dalvik_defs.specs.Silence.{key_in}
use Rattle.dalvik_defs.specs.Under.{class_named, defines}
use Rattle.dalvik_defs.specs.declared.encoded.NamedValue.{NamedValue}
use Rattle.dalvik_defs.specs.declared.forms.Form.{Form}
use Rattle.dalvik_defs.specs.declared.program.NamedBody.{NamedBody}
use Rattle.dalvik_defs.specs.declared.program.NamedClass.{NamedClass}
use Rattle.dalvik_defs.specs.declared.program.NamedField.{NamedField}
use Rattle.dalvik_defs.specs.declared.program.NamedMethod.{NamedMethod}
use Rattle.pass_defs.specs.Typed.{IsTyped}
use Rattle.run_laws.specs.Regular.{IsRegular, reads_value, suits, taken}
use Rattle.run_laws.proofs.Climbs.{name_of, class_in}
use Rattle.removal_bridge.proofs.Listed.{Image, image, some_same, none_same, field_fits_at, name_fits}
use Rattle.removal_bridge.proofs.Members.{class_known, method_known, taken_known, reads_known}
use Rattle.removal_bridge.proofs.FirstValues.{first_suits}
use Rattle.removal_bridge.proofs.Standing.{interfaces_free}

module _ (p : Program) (fits : is_well_formed p ≡ true) (twice : (class : ℕ) → IsTwice p class → ⊥) where
  s : Sound p
  s = sound p fits

  -- a class of the named program by its place
  of_class : (c : NamedClass) → Contains (named p).classes c → Image (named_class p) p.classes c
  of_class c h = image (named_class p) p.classes c h

  class_under : (c : NamedClass) → Contains (named p).classes c → class_named (named p) c.name ≡ Some c
  class_under c h = let m = of_class c h in subst (λ c. class_named (named p) c.name ≡ Some c) m.is (class_known p s twice m.place m.entry m.is_entry)

  class_fits : (t : Text) → defines (named p) t ≡ true → is_class_type t ≡ true
  class_fits t d = by (class_named (named p) t) refl d
    where
      by : (o : Option NamedClass) → class_named (named p) t ≡ o → (elim o as (λ o. Bool) [ Some c ↦ true | None ↦ false ]) ≡ true → is_class_type t ≡ true
      by None e i = absurd (true≢false (sym i))
      by (Some c) e i = let m = of_class c (class_in (named p) t c e) in
          subst (λ u. is_class_type u ≡ true) (ap (λ c. c.name) m.is ∙ name_of (named p) t c e) (name_fits p s m.place m.entry m.is_entry)

  -- a method of a class of the named program by its places
  record Placed (c : NamedClass) (m : NamedMethod) : Type 0 where
    pub class : Image (named_class p) p.classes c
    pub method : Image (named_method p) class.entry.methods m

  placed : (c : NamedClass) (m : NamedMethod) → Contains (named p).classes c → Contains c.methods m → Placed c m
  placed c m h i = let k = of_class c h in record { class = k; method = image (named_method p) k.entry.methods m (subst (λ c. Contains c.methods m) (sym k.is) i) }

  method_under : (c : NamedClass) (m : NamedMethod) → Contains (named p).classes c → Contains c.methods m → defined_method (named p) (key_in c m) ≡ Some m
  method_under c m h i = ap (λ o. elim o as (λ o. Option NamedMethod) [ Some c ↦ method_in c m.name m.signature | None ↦ None ]) (class_under c h)
      ∙ subst (λ c. method_in c m.name m.signature ≡ Some m) at.class.is (subst (λ m. method_in (named_class p at.class.entry) m.name m.signature ≡ Some m) at.method.is (method_known p s at.class.place at.class.entry at.class.is_entry at.method.place at.method.entry at.method.is_entry))
    where
      at : Placed c m
      at = placed c m h i

  -- a body is that of its method
  bodied : (m : Method) (b : NamedBody) → (named_method p m).body ≡ Some b → (x : Body) × ((m.body ≡ Some x) × (body_of p x ≡ b))
  bodied m b e = by m.body refl e
    where
      by : (o : Option Body) → m.body ≡ o → option_map (body_of p) o ≡ Some b → (x : Body) × ((m.body ≡ Some x) × (body_of p x ≡ b))
      by None i j = none_same b j
      by (Some x) i j = (x, (i, some_same (body_of p x) b j))

  entered : (c : NamedClass) (m : NamedMethod) (b : NamedBody) → Contains (named p).classes c → Contains c.methods m → m.body ≡ Some b → b.ins ≡ taken m
  entered c m b h i e = let at = placed c m h i in
      let x = bodied at.method.entry b (ap (λ m. m.body) at.method.is ∙ e) in
      sym (ap (λ b. b.ins) x.1.1) ∙ (taken_known p s at.class.place at.class.entry at.class.is_entry at.method.place at.method.entry at.method.is_entry x.0 x.1.0 ∙ ap taken at.method.is)

  read : (c : NamedClass) (m : NamedMethod) (b : NamedBody) (f : Form) → Contains (named p).classes c → Contains c.methods m → m.body ≡ Some b → Contains b.forms f → reads_value f ≡ true
  read c m b f h i e j = let at = placed c m h i in
      let x = bodied at.method.entry b (ap (λ m. m.body) at.method.is ∙ e) in
      let k = image (form_of p) x.0.insns f (subst (λ b. Contains b.forms f) (sym x.1.1) j) in
      subst (λ f. reads_value f ≡ true) k.is (reads_known p s k.entry)

  begun : (c : NamedClass) (g : NamedField) (v : NamedValue) → Contains (named p).classes c → Contains c.fields g → g.first ≡ Some v → suits g.kind (first_value v) ≡ true
  begun c g v h i e = by at.entry.first refl (ap (λ g. g.first) at.is ∙ e)
    where
      k : Image (named_class p) p.classes c
      k = of_class c h

      at : Image (named_field p) k.entry.fields g
      at = image (named_field p) k.entry.fields g (subst (λ c. Contains c.fields g) (sym k.is) i)

      by : (o : Option EncValue) → at.entry.first ≡ o → option_map (value_of p) o ≡ Some v → suits g.kind (first_value v) ≡ true
      by None l n = none_same v n
      by (Some x) l n = subst (λ v. suits g.kind (first_value v) ≡ true) (some_same (value_of p x) v n)
          (subst (λ g. suits g.kind (first_value (value_of p x)) ≡ true) at.is (first_suits p s k.entry.name at.entry x ((class_parts p s k.place k.entry k.is_entry).fields at.place at.entry at.is_entry) (field_fits_at p s k.place k.entry k.is_entry at.place at.entry at.is_entry) l))

  pub regular_program : IsTyped (named p) → IsRegular (named p)
  regular_program typed = record {
    typed = typed;
    named = class_under;
    class_types = class_fits;
    methods = method_under;
    above_interfaces = interfaces_free p s (formed p fits).stands;
    firsts = begun;
    entries = entered;
    reads = read;
  }
