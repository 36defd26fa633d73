-- Certified facts by number say what their names say.
use Rattle.std.proofs.Common.{◌≡◌, inl, inr, ℕ, zero, suc, ◌<◌, ◌≤◌, Bool, true, false, List, [], ◌∷◌, ◌++◌, length, Option, Some, None, refl, sym, ap, ◌∙◌, subst, arith}
use Rattle.std.specs.Prelude.{map, slice_get, slice_index_or, option_and_then, Contains}
use Rattle.std.specs.Option.{option_map, option_or}
use Rattle.std.proofs.lemmas.Bool.{cases_lt}
use Rattle.lemmas.proofs.Lists.{got_short}
use Rattle.lemmas.proofs.Options.{before_map, none_some}
use Rattle.insn_set.specs.declared.form.Insn.{Insn}
use Rattle.insn_set.specs.declared.form.Insn.TheVariants as insn
use Rattle.program_model.specs.declared.body.Body.{Body}
use Rattle.program_model.specs.declared.pass.Outside.{Outside}
use Rattle.program_model.specs.declared.program.Class.{Class}
use Rattle.program_model.specs.declared.program.Field.{Field}
use Rattle.program_model.specs.declared.program.Method.{Method}
use Rattle.program_model.specs.declared.program.Program.{Program}
use Rattle.class_defs.specs.Finding.{resolves_field}
use Rattle.class_defs.proofs.WellFormed.{Sound}
use Rattle.hierarchy.specs.Ranks.{IsRanked}
use Rattle.call_graph.specs.declared.live_set.LiveSet.{LiveSet}
use Rattle.call_targets.specs.declared.table.Targets.{Targets}
use Rattle.dalvik_defs.specs.Find.{field_from, field_in as find_field_in, finds_field, first_field}
use Rattle.dalvik_defs.specs.declared.names.FieldKey.{FieldKey}
use Rattle.dalvik_defs.specs.declared.program.NamedClass.{NamedClass}
use Rattle.program_model.specs.declared.pools.FieldName.{FieldName}
use Rattle.dalvik_defs.specs.Names.{Text}
use Rattle.dalvik_defs.specs.Naming.{field_at, form_of, named, text_at, named_class, named_method, type_at}
use Rattle.dalvik_defs.specs.Outer.{outer_of}
use Rattle.dalvik_defs.specs.Silence.{key_in}
use Rattle.dalvik_defs.specs.Under.{class_named}
use Rattle.dalvik_defs.specs.declared.forms.Form.{Form}
use Rattle.dalvik_defs.specs.declared.forms.Form.TheVariants as form
use Rattle.dalvik_defs.specs.declared.program.NamedField.{NamedField}
use Rattle.domains.specs.Values.{any_value, Parts}
use Rattle.dom_frame.specs.Registers.{Registers}
use Rattle.dom_frame.specs.declared.frames.Frame.{Frame}
use Rattle.facts.specs.Lent.{frame_at}
use Rattle.facts.specs.declared.facts.Facts.{Facts}
use Rattle.pass_defs.specs.Facts.{own_key}
use Rattle.reach.specs.Marked.{IsMarked}
use Rattle.reach_bridge.proofs.Based.{S, empty_undefined}
use Rattle.run_facts.specs.Closed as name
use Rattle.closed_facts.specs.Edges as numbered
use Rattle.closed_facts.specs.Found as found
use Rattle.closed_facts.specs.Tables.{registers_at}
use Rattle.facts_kept.specs.Names.{named_facts, values, values_of}
use Rattle.facts_kept.proofs.Fielding.{field_value_same}
use Rattle.facts_kept.proofs.Inverse.{of_call}
use Rattle.facts_kept.proofs.Places.{at_number, own_key as own_number}
use Rattle.const_prop.specs.Given.{behind}
use Rattle.const_prop.specs.Known.{field_in, field_value}
use Rattle.facts_kept.specs.Folds.{AreNamed, StandsAt}
use Rattle.premises.specs.Plain.{ListsPlainly}
use Rattle.facts_kept.proofs.Joins.{below_any, Under}
use Rattle.facts_kept.proofs.Results.{call_given, call_left}

module _ (p : Program) (o : Outside) (live : LiveSet) (g : IsMarked p o live) (targets : Targets) (r : IsRanked p) (plainly : ListsPlainly p) (t : Facts) where
  abbrev s : Sound p
  s = S p o live g

  -- a method of a list stands at a place
  record At {A : Type 0} (xs : List A) (x : A) : Type 0 where
    place : ℕ
    is : slice_get xs place ≡ Some x

  placed : {A : Type 0} (xs : List A) (x : A) → Contains xs x → At xs x
  placed [] x (k, l, e) = let f : ⊥ = omega (arith, l) in absurd f
  placed (y ∷ xs) x (zero, l, e) = record { place = 0; is = ap Some e }
  placed (y ∷ xs) x (suc k, l, e) = let i = placed xs x (k, omega (arith, l), e) in record { place = suc i.place; is = i.is }

  -- ---- registers

  frames : (class : ℕ) (c : Class) (m : Method) (n : ℕ) (x : ℕ → Parts) → slice_get p.classes class ≡ Some c → Contains c.methods m
      → (named_facts p t).registers (key_in (named_class p c) (named_method p m)) n ≡ Some x → StandsAt x (frame_at t.frames.items m.name n)
  frames class c m n x is_class in_class e =
      let i = placed c.methods m in_class in
      let k = own_number p s class i.place c m is_class i.is in
      let y = before_map values_of (registers_at t m.name n) x (sym (at_number p s t (key_in (named_class p c) (named_method p m)) m.name n k) ∙ e) in
      let z = before_map (λ (f : Frame). f.registers) (frame_at t.frames.items m.name n) y.0 y.1.0 in
      subst (StandsAt x) (sym z.1.0) (stands z.0 y.0 z.1.1 y.1.1)
    where
      stands : (f : Frame) (w : Registers) → f.registers ≡ w → values_of w ≡ x → StandsAt x (Some f)
      stands f w e i = subst (λ x. StandsAt x (Some f)) (ap values_of e ∙ i) (λ r d h. h)

  -- ---- fields

  field_same : (field : ℕ) → numbered.field_value p t field ≡ field_value p t field
  field_same field = by (resolves_field p field)
    where
      in_class : (c : Option Class) (place : ℕ) → numbered.value_by t (option_map (λ (f : Field). f.name) (option_and_then (λ (c : Class). slice_get c.fields place) c)) ≡ field_in t c place
      in_class None place = refl
      in_class (Some c) place = there (slice_get c.fields place)
        where
          there : (f : Option Field) → numbered.value_by t (option_map (λ (f : Field). f.name) f) ≡ elim f as (λ f. Parts) [ Some f ↦ slice_index_or t.fields.items f.name t.any | None ↦ any_value ]
          there None = refl
          there (Some f) = refl

      by : (y : Option (ℕ × ℕ)) → numbered.value_by t (option_and_then (λ at. option_map (λ (f : Field). f.name) (found.field_in p at)) y) ≡ elim y as (λ y. Parts) [ Some at ↦ field_in t (slice_get p.classes at.0) at.1 | None ↦ any_value ]
      by None = refl
      by (Some at) = in_class (slice_get p.classes at.0) at.1

  fields : (field : ℕ) (f : Text × NamedField) → finds_field (named p) (field_at p field) ≡ Some f → Under ((named_facts p t).fields (own_key (field_at p field) f)) (field_value p t field)
  fields field f e = elim (cases_lt field (length p.fields)) [
    | inl low ↦ inside low
    | inr high ↦ outside high
  ]
    where
      inside : field < length p.fields → Under ((named_facts p t).fields (own_key (field_at p field) f)) (field_value p t field)
      inside low = subst (λ v. Under ((named_facts p t).fields (own_key (field_at p field) f)) v)
          (sym (ap (λ (y : Option (Text × NamedField)). elim y as (λ y. Parts) [ Some f ↦ (named_facts p t).fields (own_key (field_at p field) f) | None ↦ any_value ]) e) ∙ field_value_same p s t field low ∙ field_same field) (λ d h. h)

      no_field : {A : Type 0} (k : FieldKey) (n : ℕ) → field_from n (named p) k [] ≡ Some f → A
      no_field k zero h = none_some f h
      no_field {A} k (suc n) h = by (class_named (named p) []) refl h
        where
          by : (y : Option NamedClass) → class_named (named p) [] ≡ y
              → elim y as (λ y. Option (Text × NamedField)) [
                | Some c ↦ option_or (option_map (λ f. (c.name, f)) (find_field_in c k.name k.kind)) (first_field (map (field_from n (named p) k) (c.interfaces ++ c.superclass ∷ [])))
                | None ↦ None
              ] ≡ Some f → A
          by None i h = none_some f h
          by (Some c) i h = empty_undefined p o live g (ap (λ y. elim y as (λ y. Bool) [ Some c ↦ true | None ↦ false ]) i)

      outside : length p.fields ≤ field → Under ((named_facts p t).fields (own_key (field_at p field) f)) (field_value p t field)
      outside high = by (slice_get p.fields field) refl
        where
          by : (y : Option FieldName) → slice_get p.fields field ≡ y → Under ((named_facts p t).fields (own_key (field_at p field) f)) (field_value p t field)
          by (Some y) i = let l = got_short p.fields field y i in let f : ⊥ = omega (arith, l, high) in absurd f
          by None i =
              let k : field_at p field ≡ record { class = []; name = []; kind = [] } = ap (λ y. elim y as (λ y. FieldKey) [
                | Some f ↦ record { class = type_at p f.class; name = text_at p f.name; kind = type_at p f.kind }
                | None ↦ record { class = []; name = []; kind = [] }
              ]) i in
              no_field (record { class = []; name = []; kind = [] }) (length (named p).classes) (sym (ap (finds_field (named p)) k) ∙ e)

  -- ---- results

  no_call : (class : ℕ) (i : Insn) (kind : Text) (args : List ℕ) → form_of p i ≡ form.FilledNewArray kind args → behind p t class (Some i) ≡ any_value
  no_call class (insn.Invoke k m a) kind args e = absurd (cc)
  no_call class i kind args e = refl

  results : (class : ℕ) (c : Class) (m : Method) (b : Body) (n : ℕ) (i : Insn) (x : ℕ → Parts) (v : Parts) → slice_get p.classes class ≡ Some c → Contains c.methods m → m.body ≡ Some b → slice_get b.insns n ≡ Some i
      → name.Results (values p) (named p) (outer_of p o) (named_facts p t) (key_in (named_class p c) (named_method p m)) x (form_of p i) v → Under v (behind p t class (Some i))
  results class c m b n i x v is_class in_class has there h = by (form_of p i) refl v h
    where
      by : (f : Form) → form_of p i ≡ f → (v : Parts) → name.Results (values p) (named p) (outer_of p o) (named_facts p t) (key_in (named_class p c) (named_method p m)) x f v → Under v (behind p t class (Some i))
      by f e v (name.Given kind k args callee may) =
          let y = of_call p i kind k args e in
          subst (λ z. Under ((named_facts p t).results callee.key) (behind p t class (Some z))) (sym y.is)
          (call_given p o live g targets r plainly.listed t class c is_class y.method k y.named x args kind callee may)
      by f e v (name.Left kind k args may) =
          let y = of_call p i kind k args e in
          subst (λ z. Under any_value (behind p t class (Some z))) (sym y.is)
          (call_left p o live g targets r plainly.listed t class c is_class y.method k y.named x args kind may)
      by f e v (name.Filled kind args) = subst (λ w. Under v w) (sym (no_call class i kind args e)) (below_any v)

  pub are_named : AreNamed p (outer_of p o) t (named_facts p t)
  are_named = record {
    frames = frames;
    fields = fields;
    results = λ class c m b n i x v is_class in_class has there reached h. results class c m b n i x v is_class in_class has there h;
  }
