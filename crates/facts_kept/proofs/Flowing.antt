-- What a reached position leaves arrives by names as it does by number, and so does what it throws and returns.
use Rattle.std.proofs.Common.{◌≡◌, ℕ, zero, suc, ◌<◌, true, false, List, [], ◌∷◌, Some, refl, sym, ap, ◌∙◌, subst, arith}
use Rattle.std.specs.Prelude.{map, if◌then◌else◌, is_some, Contains}
use Rattle.program_model.specs.declared.program.Program.{Program}
use Rattle.class_defs.specs.ClassGraph.{IsTwice}
use Rattle.class_defs.proofs.WellFormed.{Sound}
use Rattle.removal_bridge.proofs.WalkedForms.{same_caught}
use Rattle.dalvik_defs.specs.Face.{bodies_of}
use Rattle.dalvik_defs.specs.Names.{object_type}
use Rattle.dalvik_defs.specs.Naming.{body_of, form_of, named}
use Rattle.dalvik_defs.specs.Under.{defines}
use Rattle.dalvik_defs.specs.declared.names.MethodKey.{MethodKey}
use Rattle.dalvik_defs.specs.declared.program.NamedBody.{NamedBody}
use Rattle.domains.specs.Values.{Parts, any_value}
use Rattle.facts.specs.declared.facts.Facts as table
use Rattle.closed_facts.specs.Tables.{result_at}
use Rattle.closed_facts.specs.Edges as numbered
use Rattle.run_facts.specs.Closed as name
use Rattle.pass_defs.specs.Facts.{Facts}
use Rattle.pass_defs.specs.Walks.{caught}
use Rattle.facts_kept.specs.Flows.{AllFit, GoesOn, NamedGoesOn, NamedReturns, NamedThrows, Returns, Throws}
use Rattle.facts_kept.specs.Names.{by_names, is_coded, method_number, named_facts, result_by, values, values_of}
use Rattle.facts_kept.proofs.Edges.{edges_same}
use Rattle.facts_kept.proofs.ClosedForms.{Gets}
use Rattle.facts_kept.proofs.Inverse.{of_return}
use Rattle.facts_kept.proofs.Numbers.{IsNumber, number_of_method}
use Rattle.facts_kept.proofs.Places.{arrives_named, here_at}

-- an entry of a list of images
record Listed {A B : Type 0} (g : A → B) (xs : List A) (y : B) : Type 0 where
  pub entry : A
  pub there : Contains xs entry
  pub is : g entry ≡ y

listed : {A B : Type 0} (g : A → B) (xs : List A) (y : B) → Contains (map g xs) y → Listed g xs y
listed g [] y h = let l : h.0 < 0 = h.1 in absurd (omega (arith, l))
listed g (x ∷ xs) y (zero, l, e) = record { entry = x; there = (0, omega arith, refl); is = e }
listed g (x ∷ xs) y (suc n, l, e) =
    let r = listed g xs y (n, omega (arith, l), e) in
    let place = r.there.0 in
    let low = r.there.1 in
    record { entry = r.entry; there = (suc place, omega (arith, low), r.there.2); is = r.is }

module _ (p : Program) (s : Sound p) (t : table.Facts) where
  abbrev pub facts : Facts Parts
  facts = named_facts p t

  coded_is : (k : MethodKey) (b : NamedBody) → bodies_of (named p) k ≡ Some b → is_coded p k ≡ true
  coded_is k b e = ap is_some e

  -- the result of a method with code
  pub result_same : (k : MethodKey) (m : ℕ) (b : NamedBody) → bodies_of (named p) k ≡ Some b → IsNumber p s k m → facts.results k ≡ result_at t m
  result_same k m b e h = ap (λ c. if c then result_by t (method_number p k) else any_value) (coded_is k b e) ∙ ap (result_by t) (number_of_method p s k m h)

  pub returns_named : Returns p t → NamedReturns p t
  returns_named more k n from r at e =
      let h = here_at p s t k n at in
      let is = of_return p h.here.insn r from (h.form_is ∙ e) in
      subst (λ v. (values p).below (at.registers from) v) (sym (result_same k h.here.method.name at.body at.has_body h.number))
      (subst (λ x. (values p).below (x from) (result_at t h.here.method.name)) h.registers_are (more h.code.at n from r h.here is))

  -- ---- throws

  pub throws_named : Throws p t → NamedThrows p t
  throws_named more k n q at i =
      let h = here_at p s t k n at in
      let there : Contains (caught (body_of p h.here.body) (form_of p h.here.insn) n) q = subst (λ b. Contains (caught b (form_of p h.here.insn) n) q) (sym h.body_is) (subst (λ f. Contains (caught at.body f n) q) (sym h.form_is) i) in
      subst (λ x. name.Arrives (values p) x (facts.registers k q)) h.registers_are
      (arrives_named p s t k h.here.method.name q h.here.registers h.number
      (more h.code.at n q h.here (subst (λ l. Contains l q) (same_caught p h.here.body h.here.insn n) there)))

  -- ---- onward

  module _ (once : (class : ℕ) → IsTwice p class → ⊥) (no_object : defines (named p) object_type ≡ false) (fit : AllFit p t) (gets : Gets p s once no_object facts (numbered.given p t)) where
    pub goes_on_named : GoesOn p t → NamedGoesOn p t
    goes_on_named more k n q at i =
        let h = here_at p s t k n at in
        let there : Contains (name.edges (values p) (named p) facts n (form_of p h.here.insn) (values_of h.here.registers)) q =
        subst (λ x. Contains (name.edges (values p) (named p) facts n (form_of p h.here.insn) x) q) (sym h.registers_are) (subst (λ f. Contains (name.edges (values p) (named p) facts n f at.registers) q) (sym h.form_is) i) in
        let e = listed by_names (numbered.edges p t n h.here.insn h.here.registers) q
        (subst (λ l. Contains l q) (edges_same p s once no_object facts t gets n h.here.insn (fit h.code.at n h.here) h.here.registers) there) in
        subst (λ z. name.Arrives (values p) z.1 (facts.registers k z.0)) e.is
        (arrives_named p s t k h.here.method.name e.entry.0 e.entry.1 h.number (more h.code.at n e.entry h.here e.there))
