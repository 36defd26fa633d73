-- What staticise leaves of a program is the program with methods made static by its plan.
use Rattle.std.proofs.Common.{◌≡◌, ℕ, zero, suc, ◌+◌, Bool, true, false, List, [], ◌∷◌, map, length, Option, Some, None, refl, sym, ap, ◌∙◌, subst, arith}
use Rattle.std.specs.Prelude.{is_some, slice_get, slice_index_or}
use Rattle.std.specs.Option.{option_map}
use Rattle.std.specs.List.Sorted.{IsPermutation}
use Rattle.lemmas.proofs.Options.{none_some, some_same}
use Rattle.insn_set.specs.declared.form.Insn.{Insn}
use Rattle.insn_set.specs.declared.form.Insn.TheVariants as insn
use Rattle.insn_set.specs.declared.ops.InvokeKind.TheVariants as call
use Rattle.program_model.specs.declared.body.Body.{Body}
use Rattle.program_model.specs.declared.pass.Outside.{Outside}
use Rattle.program_model.specs.declared.pools.MethodName.{MethodName}
use Rattle.program_model.specs.declared.pools.Proto.{Proto}
use Rattle.program_model.specs.declared.program.Class.{Class}
use Rattle.program_model.specs.declared.program.Method.{Method}
use Rattle.program_model.specs.declared.program.MethodAt.{MethodAt}
use Rattle.program_model.specs.declared.program.Program.{Program}
use Rattle.program_model.specs.declared.value.Mark.{Mark}
use Rattle.class_defs.specs.ClassGraph.{IsTwice}
use Rattle.class_defs.specs.Finding.{resolves_method}
use Rattle.class_defs.proofs.WellFormed.{Sound}
use Rattle.program_laws.specs.Others.{Pairwise}
use Rattle.facts.specs.declared.facts.Facts.{Facts}
use Rattle.static_law.specs.Edited.{EditedClass, IsEdited, IsNewProto, body_edited, flags_edited, insn_edited, marks_edited, method_edited, name_edited, self_edited}
use Rattle.static_law.specs.Edited as edit
use Rattle.static_protos.specs.Tables.{Tables}
use Rattle.staticise.specs.Judging.{judged}
use Rattle.staticise.specs.Loosened.{AreEach, IsLoosenedBy, IsLoosenedClass, body_loosened, code_loosened, flags_loosened, given_at, insn_loosened, is_given, marks_loosened, method_loosened, name_with, names_with, self_loosened, target_at, target_of}
use Rattle.static_kept.specs.Choice.{given_by}
use Rattle.static_kept.proofs.MadeStatic.{AreChosen, HasProto, IsChosen, IsMethod}
use Rattle.static_kept.proofs.Own.{entry_fits}

-- ---- methods

module _ (p : Program) (g : List (Option ℕ)) where
  abbrev given : ℕ → Option ℕ
  given n = given_at g n

  abbrev target : ℕ → Option ℕ
  target n = edit.target_of p given n

  target_same : (n : ℕ) → target_of p g n ≡ target n
  target_same n = by (resolves_method p n)
    where
      by : (o : Option MethodAt) → target_at p g o ≡ edit.target_at p given o
      by None = refl
      by (Some at) = refl

  insn_same : (i : Insn) → insn_loosened p g i ≡ insn_edited given target i
  insn_same (insn.Invoke kind method args) = ap (λ o. elim o as (λ o. Insn) [ Some t ↦ insn.Invoke call.Static t args | None ↦ insn.Invoke kind method args ]) (target_same method)
  insn_same i = refl

  insns_same : (is : List Insn) → map (insn_loosened p g) is ≡ map (insn_edited given target) is
  insns_same [] = refl
  insns_same (i ∷ is) = ap (λ x. x ∷ map (insn_loosened p g) is) (insn_same i) ∙ ap (λ xs. insn_edited given target i ∷ xs) (insns_same is)

  code_same : (o : Option Body) → code_loosened p g o ≡ option_map (body_edited given target) o
  code_same None = refl
  code_same (Some b) = ap (λ is. Some (record b { insns = is })) (insns_same b.insns)

  marks_same : (mss : List (List Mark)) → marks_loosened mss ≡ marks_edited given target mss
  marks_same [] = refl
  marks_same (ms ∷ mss) = refl

  method_same : (m : Method) → method_loosened p g m ≡ method_edited given target m
  method_same m = by (is_some (given m.name))
    where
      by : (b : Bool) → (let n : Method = elim b as (λ b. Method) [ true ↦ record m { flags = flags_loosened m.flags; parameter_marks = marks_loosened m.parameter_marks } | false ↦ m ] in record n { body = code_loosened p g n.body })
          ≡ record (elim b as (λ b. Method) [ true ↦ record m { flags = flags_edited given target m.flags; parameter_marks = marks_edited given target m.parameter_marks } | false ↦ m ]) { body = option_map (body_edited given target) m.body }
      by true = ap (λ mss. record m { flags = flags_loosened m.flags; parameter_marks = mss; body = code_loosened p g m.body }) (marks_same m.parameter_marks)
          ∙ ap (λ o. record m { flags = flags_edited given target m.flags; parameter_marks = marks_edited given target m.parameter_marks; body = o }) (code_same m.body)
      by false = ap (λ o. record m { body = o }) (code_same m.body)

  methods_same : (ms : List Method) → map (method_loosened p g) ms ≡ map (method_edited given target) ms
  methods_same [] = refl
  methods_same (m ∷ ms) = ap (λ x. x ∷ map (method_loosened p g) ms) (method_same m) ∙ ap (λ xs. method_edited given target m ∷ xs) (methods_same ms)

  class_so : (c d : Class) → IsLoosenedClass p g c d → EditedClass given target c d
  class_so c d x = record { rest = x.rest; methods = subst (λ ms. IsPermutation ms d.methods) (methods_same c.methods) x.methods }

  classes_so : (cs ds : List Class) → length ds ≡ length cs → ((k : ℕ) (c : Class) → slice_get cs k ≡ Some c → (d : Class) × (slice_get ds k ≡ Some d) × IsLoosenedClass p g c d) → Pairwise (EditedClass given target) cs ds
  classes_so [] [] long each = tt
  classes_so [] (d ∷ ds) long each = absurd (omega (arith, long))
  classes_so (c ∷ cs) [] long each = absurd (omega (arith, long))
  classes_so (c ∷ cs) (d ∷ ds) long each =
      let one = each 0 c refl in
      (class_so c d (subst (IsLoosenedClass p g c) (sym (some_same d one.0 one.1)) one.2), classes_so cs ds (omega (arith, long)) (λ k x e. each (suc k) x e))

  -- ---- names

  kept : (n : ℕ) (o : Option MethodName) → given n ≡ None → o ≡ option_map (name_edited given target n) o
  kept n None e = refl
  kept n (Some m) e = ap (λ (x : Option ℕ). Some (elim x as (λ x. MethodName) [ Some k ↦ record m { proto = k } | None ↦ m ])) (sym e)

  name_same : (n : ℕ) (m : MethodName) (o : Option ℕ) → name_with m o ≡ elim o as (λ o. MethodName) [ Some k ↦ record m { proto = k } | None ↦ m ]
  name_same n m None = refl
  name_same n m (Some k) = refl

pub names_at : (os : List (Option ℕ)) (qs : List MethodName) (n : ℕ) → slice_get (names_with os qs) n ≡ option_map (λ m. name_with m (slice_index_or os n None)) (slice_get qs n)
names_at [] qs n = by (slice_get qs n)
  where
    by : (o : Option MethodName) → o ≡ option_map (λ m. name_with m None) o
    by None = refl
    by (Some m) = refl
names_at (o ∷ os) [] n = refl
names_at (o ∷ os) (q ∷ qs) zero = refl
names_at (o ∷ os) (q ∷ qs) (suc n) = names_at os qs n

-- ---- the program

module _ (p : Program) (facts : Facts) (o : Outside) (admitted : List Bool) (s : Sound p) (twice : (class : ℕ) → IsTwice p class → ⊥) (q : Program) where
  abbrev t : Tables
  t = judged p facts o admitted

  abbrev chosen_by : ℕ → Option ℕ
  chosen_by n = given_by p facts o admitted n

  pub edited_by : AreChosen p facts o admitted t → IsLoosenedBy p t q → IsEdited chosen_by (edit.target_of p chosen_by) p q
  edited_by chosen x = record {
    version = ap (λ (z : Program). z.version) x.rest;
    strings = λ n u e. ap (λ (z : Program). slice_get z.strings n) x.rest ∙ chosen.strings n u e;
    types = ap (λ (z : Program). z.types) x.rest;
    protos = λ n u e. ap (λ (z : Program). slice_get z.protos n) x.rest ∙ chosen.protos n u e;
    fields = ap (λ (z : Program). z.fields) x.rest;
    methods = λ n. ap (λ (z : Program). slice_get z.methods n) x.rest ∙ (names_at t.given p.methods n ∙ renamed n (slice_get p.methods n));
    new = new;
    classes = classes_so p t.given p.classes q.classes x.classes.long x.classes.each;
  }
    where
      renamed : (n : ℕ) (z : Option MethodName) → option_map (λ m. name_with m (chosen_by n)) z ≡ option_map (name_edited chosen_by (edit.target_of p chosen_by) n) z
      renamed n None = refl
      renamed n (Some m) = ap Some (name_same p t.given n m (chosen_by n))

      new : (n k : ℕ) (m : MethodName) (y : Proto) → chosen_by n ≡ Some k → slice_get p.methods n ≡ Some m → slice_get p.protos m.proto ≡ Some y → IsNewProto chosen_by (edit.target_of p chosen_by) q m y k
      new n k m y e f i =
          let c : IsChosen p facts o admitted t n k = chosen.given n k e in
          let entry : c.stands.entry ≡ m = some_same c.stands.entry m (sym c.stands.is_entry ∙ f) in
          let old : c.stands.old ≡ y = some_same c.stands.old y (sym c.stands.is_old ∙ (ap (λ (z : MethodName). slice_get p.protos z.proto) entry ∙ i)) in
          let class : c.stands.class.name ≡ m.class = sym (entry_fits p s twice n c.stands) ∙ ap (λ (z : MethodName). z.class) entry in
          record {
            proto = c.proto.proto;
            there = ap (λ (z : Program). slice_get z.protos k) x.rest ∙ c.proto.there;
            result = c.proto.result ∙ ap (λ (z : Proto). z.result) old;
            parameters = c.proto.parameters ∙ (ap (λ z. z ∷ c.stands.old.parameters) class ∙ ap (λ (z : Proto). m.class ∷ z.parameters) old);
          }
