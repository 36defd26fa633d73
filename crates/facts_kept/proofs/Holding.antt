-- Fields hold by names what they hold by number: what they begin with, anything where the framework may write them, and what is
-- put into them.
use Rattle.std.proofs.Common.{◌≡◌, ℕ, ◌<◌, true, length, Option, Some, None, refl, sym, ap, ◌∙◌, subst}
use Rattle.std.specs.Prelude.{slice_get, option_and_then}
use Rattle.std.specs.Option.{option_map}
use Rattle.lemmas.proofs.Options.{none_some, some_same}
use Rattle.insn_set.specs.declared.form.Insn.{Insn}
use Rattle.insn_set.specs.declared.form.Insn.TheVariants as insn
use Rattle.insn_set.specs.declared.ops.Item.{Item}
use Rattle.program_model.specs.OperandRules.{numbers_fit}
use Rattle.program_model.specs.declared.pass.Outside.{Outside}
use Rattle.program_model.specs.declared.program.Class.{Class}
use Rattle.program_model.specs.declared.program.Field.{Field}
use Rattle.program_model.specs.declared.program.Program.{Program}
use Rattle.class_defs.specs.Finding.{resolves_field}
use Rattle.class_defs.proofs.WellFormed.{below, Sound}
use Rattle.dalvik_defs.specs.Find.{finds_field}
use Rattle.dalvik_defs.specs.Names.{Text}
use Rattle.dalvik_defs.specs.Naming.{field_at, form_of, named, named_field, type_at}
use Rattle.dalvik_defs.specs.declared.forms.Form.{Form}
use Rattle.dalvik_defs.specs.declared.forms.Form.TheVariants as form
use Rattle.dalvik_defs.specs.declared.names.FieldKey.{FieldKey}
use Rattle.dalvik_defs.specs.declared.names.MethodKey.{MethodKey}
use Rattle.dalvik_defs.specs.declared.program.NamedField.{NamedField}
use Rattle.name_bridge.specs.Named.{field_at_place, field_of, field_there}
use Rattle.name_bridge.proofs.Fields.{field_resolves_by_number}
use Rattle.facts.specs.declared.facts.Facts as table
use Rattle.closed_facts.specs.Fields as number
use Rattle.closed_facts.specs.Edges.{value_by}
use Rattle.closed_facts.specs.Found as found
use Rattle.closed_facts.specs.Tables as tables
use Rattle.run_facts.specs.Closed as name
use Rattle.pass_defs.specs.Facts.{own_key}
use Rattle.facts_kept.specs.Flows.{AllFit}
use Rattle.facts_kept.specs.Names.{field_number, named_facts, values}
use Rattle.facts_kept.proofs.Fielding.{found_bears, own_field_key}
use Rattle.facts_kept.proofs.Numbers.{number_of_field}
use Rattle.facts_kept.proofs.Places.{here_at}

-- ---- the instruction that a put is of

pub record IsPut (p : Program) (i : Insn) (item : Item) (from : ℕ) (k : FieldKey) : Type 0 where
  pub field : ℕ
  pub puts : number.Puts item from field i
  pub named : field_at p field ≡ k
  pub low : numbers_fit i p ≡ true → field < length p.fields

put_low : (p : Program) (i : Item) (from on field : ℕ) → numbers_fit (insn.InstancePut i from on field) p ≡ true → field < length p.fields
unfolding numbers_fit
put_low p i from on field h = below field (length p.fields) h

static_low : (p : Program) (i : Item) (from field : ℕ) → numbers_fit (insn.StaticPut i from field) p ≡ true → field < length p.fields
unfolding numbers_fit
static_low p i from field h = below field (length p.fields) h

of_instance_put : (p : Program) (i : Insn) (item : Item) (from on : ℕ) (k : FieldKey) → form_of p i ≡ form.InstancePut item from on k → IsPut p i item from k
of_instance_put p (insn.InstancePut j r q f) item from on k e =
    let a : j ≡ item = cc in
    let b : r ≡ from = cc in
    let d : field_at p f ≡ k = cc in
    record { field = f; puts = subst (λ z. number.Puts item from f (insn.InstancePut z r q f)) (sym a) (subst (λ z. number.Puts item from f (insn.InstancePut item z q f)) (sym b) (number.Instance q)); named = d; low = put_low p j r q f }
of_instance_put p i item from on k e = absurd (cc)

of_static_put : (p : Program) (i : Insn) (item : Item) (from : ℕ) (k : FieldKey) → form_of p i ≡ form.StaticPut item from k → IsPut p i item from k
of_static_put p (insn.StaticPut j r f) item from k e =
    let a : j ≡ item = cc in
    let b : r ≡ from = cc in
    let d : field_at p f ≡ k = cc in
    record { field = f; puts = subst (λ z. number.Puts item from f (insn.StaticPut z r f)) (sym a) (subst (λ z. number.Puts item from f (insn.StaticPut item z f)) (sym b) number.Static); named = d; low = static_low p j r f }
of_static_put p i item from k e = absurd (cc)

of_put : (p : Program) (i : Insn) (item : Item) (from : ℕ) (k : FieldKey) (f : Form) → form_of p i ≡ f → name.Puts item from k f → IsPut p i item from k
of_put p i item from k f e (name.Instance on) = of_instance_put p i item from on k e
of_put p i item from k f e name.Static = of_static_put p i item from k e

module _ (p : Program) (s : Sound p) where
  -- the number of the field that a name finds
  record Own (field : ℕ) (d : Text × NamedField) : Type 0 where
    pub own : ℕ
    pub is_own : found.own_number p field ≡ Some own
    pub is_number : field_number p (own_key (field_at p field) d) ≡ Some own

  own_of : (field : ℕ) (d : Text × NamedField) → field < length p.fields → finds_field (named p) (field_at p field) ≡ Some d → Own field d
  own_of field d low e = by (resolves_field p field) refl
    where
      is : finds_field (named p) (field_at p field) ≡ option_and_then (field_at_place p) (resolves_field p field)
      is = field_resolves_by_number p s field low

      at_field : (at : ℕ × ℕ) → resolves_field p field ≡ Some at → (c : Class) → slice_get p.classes at.0 ≡ Some c → (o : Option Field) → slice_get c.fields at.1 ≡ o → field_there p c o ≡ Some d → Own field d
      at_field at r c i None j h = none_some d h
      at_field at r c i (Some f) j h =
          let same : (type_at p c.name, named_field p f) ≡ d = some_same (type_at p c.name, named_field p f) d h in
          let bears = found_bears (named p) (field_at p field) d e in
          let key = own_field_key p s at.0 at.1 c f i j in
          let class : type_at p c.name ≡ d.0 = ap (λ z. z.0) same in
          let name : (named_field p f).name ≡ (field_at p field).name = ap (λ z. z.1.name) same ∙ bears.0 in
          let kind : (named_field p f).kind ≡ (field_at p field).kind = ap (λ z. z.1.kind) same ∙ bears.1 in
          record {
            own = f.name;
            is_own = ap (λ o. option_and_then (λ at. option_map (λ f. f.name) (found.field_in p at)) o) r ∙ ap (λ o. option_map (λ f. f.name) (option_and_then (λ c. slice_get c.fields at.1) o)) i ∙ ap (option_map (λ f. f.name)) j;
            is_number = number_of_field p s (own_key (field_at p field) d) f.name (record { low = key.low; named = key.named ∙ (λ i. record { class = class i; name = name i; kind = kind i }) });
          }

      at_class : (at : ℕ × ℕ) → resolves_field p field ≡ Some at → (o : Option Class) → slice_get p.classes at.0 ≡ o → field_of p at.1 o ≡ Some d → Own field d
      at_class at r None i h = none_some d h
      at_class at r (Some c) i h = at_field at r c i (slice_get c.fields at.1) refl h

      by : (o : Option (ℕ × ℕ)) → resolves_field p field ≡ o → Own field d
      by None r = none_some d (sym (is ∙ ap (option_and_then (field_at_place p)) r) ∙ e)
      by (Some at) r = at_class at r (slice_get p.classes at.0) refl (sym (is ∙ ap (option_and_then (field_at_place p)) r) ∙ e)

  module _ (outside : Outside) (t : table.Facts) (fit : AllFit p t) (holds : number.HoldsFields p outside t) where
    pub puts_named : (m : MethodKey) (n from : ℕ) (item : Item) (k : FieldKey) (f : Text × NamedField) (at : name.At (values p) (named p) (named_facts p t) m n) → name.Puts item from k at.form → finds_field (named p) k ≡ Some f
        → (values p).below ((values p).stored item (at.registers from)) ((named_facts p t).fields (own_key k f))
    puts_named m n from item k f at i e =
        let h = here_at p s t m n at in
        let put = of_put p h.here.insn item from k at.form h.form_is i in
        let own = own_of put.field f (put.low (fit h.code.at n h.here)) (ap (finds_field (named p)) put.named ∙ e) in
        subst (λ z. (values p).below ((values p).stored item (at.registers from)) ((named_facts p t).fields (own_key z f))) put.named
        (subst (λ v. (values p).below ((values p).stored item (at.registers from)) v) (sym (ap (value_by t) own.is_number))
        (subst (λ x. (values p).below ((values p).stored item (x from)) (tables.field_at t own.own)) h.registers_are
        (holds.puts h.code.at n from put.field own.own item h.here put.puts own.is_own)))
