-- Reached entries begin by names as they do by number.
use Rattle.std.proofs.Common.{◌≡◌, ℕ, ◌-◌, ◌+◌, ◌<◌, true, sym, ap, ◌∙◌, subst}
use Rattle.std.specs.Prelude.{if◌then◌else◌, is_some}
use Rattle.lemmas.proofs.Options.{before_map}
use Rattle.program_model.specs.declared.program.Program.{Program}
use Rattle.class_defs.proofs.WellFormed.{Sound}
use Rattle.dalvik_defs.specs.declared.names.MethodKey.{MethodKey}
use Rattle.dalvik_defs.specs.declared.program.NamedBody.{NamedBody}
use Rattle.domains.specs.Values.{any_value}
use Rattle.dom_frame.specs.Registers.{value_at}
use Rattle.facts.specs.declared.facts.Facts as table
use Rattle.closed_facts.specs.Entries as number
use Rattle.closed_facts.specs.Tables.{registers_at, parameter_at}
use Rattle.facts_kept.specs.Flows.{NamedBegins}
use Rattle.facts_kept.specs.Names.{is_coded, method_number, named_facts, parameter_by, values, values_of}
use Rattle.facts_kept.proofs.Numbers.{IsNumber, number_of_method}
use Rattle.facts_kept.proofs.Places.{at_number, coded_at, looked_up}

module _ (p : Program) (s : Sound p) (t : table.Facts) where
  -- a parameter of a method with code
  pub parameter_same : (k : MethodKey) (m i : ℕ) → is_coded p k ≡ true → IsNumber p s k m → (named_facts p t).parameters k i ≡ parameter_at t m i
  parameter_same k m i e h = ap (λ b. if b then parameter_by t (method_number p k) i else any_value) e ∙ ap (λ o. parameter_by t o i) (number_of_method p s k m h)

  pub begins_named : number.Begins p t → NamedBegins p t
  begins_named more k b x e h =
      let c = coded_at p s k b e in
      let r = before_map values_of (registers_at t c.method.name 0) x (sym (at_number p s t k c.method.name 0 c.number) ∙ h) in
      let there = more c.at c.method c.body r.0 (looked_up p s c.at c.class c.method c.is_class c.is_method) c.has_body r.1.0 in
      record {
        arguments = λ i lt. subst (λ v. (values p).below v (x (b.registers - b.ins + i))) (sym (parameter_same k c.method.name i (ap is_some e) c.number))
            (subst (λ f. (values p).below (parameter_at t c.method.name i) (f (b.registers - b.ins + i))) r.1.1
            (subst (λ (b : NamedBody). (values p).below (parameter_at t c.method.name i) (value_at r.0 (b.registers - b.ins + i))) c.body_is (there.arguments i (subst (λ (b : NamedBody). i < b.ins) (sym c.body_is) lt))));
        others = λ q lt. subst (λ f. (values p).below any_value (f q)) r.1.1 (there.others q (subst (λ (b : NamedBody). q < b.registers - b.ins) (sym c.body_is) lt));
      }
