-- A program with methods made static lays out.
use Rattle.std.proofs.Common.{◌≡◌, inl, inr, ℕ, suc, ◌<◌, Bool, true, false, List, [], ◌∷◌, map, Option, Some, None, refl, sym, subst, arith}
use Rattle.std.proofs.lemmas.Bool.{cases_eq}
use Rattle.std.proofs.lemmas.List.Elements.{All-map, All-weaker}
use Rattle.std.proofs.lemmas.List.Sorted.{All-permutation}
use Rattle.insn_set.specs.declared.ops.InvokeKind.{InvokeKind}
use Rattle.insn_set.specs.declared.ops.InvokeKind.TheVariants as call
use Rattle.insn_set.specs.declared.form.Insn.{Insn}
use Rattle.insn_set.specs.declared.form.Insn.TheVariants as insn
use Rattle.program_model.specs.declared.body.Body.{Body}
use Rattle.program_model.specs.declared.pass.Changed.{Changed}
use Rattle.program_model.specs.declared.program.Class.{Class}
use Rattle.program_model.specs.declared.program.Method.{Method}
use Rattle.program_model.specs.declared.program.Program.{Program}
use Rattle.program_model.specs.declared.pass.Outside.{Outside}
use Rattle.facts.specs.declared.facts.Facts.{Facts}
use Rattle.static_protos.specs.Tables.{Tables}
use Rattle.staticise.specs.Judging.{judged}
use Rattle.staticise.specs.Loosened.{is_given, target_of, insn_loosened, body_loosened, code_loosened, flags_loosened}
use Rattle.staticise.specs.Loosened.{marks_loosened, self_loosened, method_loosened, IsLoosenedClass, IsLoosenedBy, IsStaticisedBy}
use Rattle.dex_defs.specs.LaysOut.{LaysOutMethod, LaysOutBody, LaysOut}
use Rattle.layout_law.specs.Shorter.{IsNoLonger, Same, Plain, AreNoLonger}
use Rattle.layout_law.proofs.Shortened.{shortened}
use Rattle.layout_law.proofs.Methods.{MethodLies, ClassLies, all_beside}

module _ (p : Program) (given : List (Option ℕ)) where
  call_shorter : (n : ℕ) (kind : InvokeKind) (method : ℕ) (args : List ℕ) (o : Option ℕ)
      → IsNoLonger n (insn.Invoke kind method args) (elim o as (λ o. Insn) [ Some target ↦ insn.Invoke call.Static target args | None ↦ insn.Invoke kind method args ])
  call_shorter n kind method args (Some target) = Plain (insn.Invoke call.Static target args) refl refl (omega arith)
  call_shorter n kind method args None = Same

  insn_shorter : (n : ℕ) (i : Insn) → IsNoLonger n i (insn_loosened p given i)
  insn_shorter n (insn.Invoke kind method args) = call_shorter n kind method args (target_of p given method)
  insn_shorter n i = Same

  insns_shorter : (n : ℕ) (is : List Insn) → AreNoLonger n is (map (insn_loosened p given) is)
  insns_shorter n [] = tt
  insns_shorter n (i ∷ is) = (insn_shorter n i, insns_shorter (suc n) is)

  body_lies : (b : Body) → LaysOutBody b → LaysOutBody (body_loosened p given b)
  body_lies b l = shortened b (body_loosened p given b) (record { insns = insns_shorter 0 b.insns; regions = refl }) l

  code_lies : (o : Option Body) → LaysOutMethod o → LaysOutMethod (code_loosened p given o)
  code_lies None l = tt
  code_lies (Some b) l = body_lies b l

  self_body : (m : Method) → (self_loosened given m).body ≡ m.body
  self_body m = by (is_given given m.name)
    where
      by : (b : Bool) → (elim b as (λ b. Method) [ true ↦ record m { flags = flags_loosened m.flags; parameter_marks = marks_loosened m.parameter_marks } | false ↦ m ]).body ≡ m.body
      by true = refl
      by false = refl

  method_lies : (m : Method) → MethodLies m → MethodLies (method_loosened p given m)
  method_lies m l = subst (λ o. LaysOutMethod (code_loosened p given o)) (sym (self_body m)) (code_lies m.body l)

  class_lies : (c d : Class) → IsLoosenedClass p given c d → ClassLies c → ClassLies d
  class_lies c d k l = All-permutation MethodLies (map (method_loosened p given) c.methods) d.methods k.methods
      (All-map MethodLies (method_loosened p given) c.methods (All-weaker MethodLies (λ m. MethodLies (method_loosened p given m)) method_lies c.methods l))

loosened_lies : (p : Program) (t : Tables) (q : Program) → IsLoosenedBy p t q → LaysOut p → LaysOut q
loosened_lies p t q h l = all_beside ClassLies (IsLoosenedClass p t.given) (class_lies p t.given) p.classes q.classes h.classes.long h.classes.each l

pub staticised_lies : (p : Program) (facts : Facts) (o : Outside) (admitted : List Bool) (c : Changed) → IsStaticisedBy p facts o admitted c → LaysOut p → LaysOut c.program
staticised_lies p facts o admitted c h l = elim (cases_eq c.count 0) [
  | inl e ↦ subst (λ (q : Program). LaysOut q) (sym (h.same e)) l
  | inr d ↦ (let some : 0 < c.count = omega (arith, d) in loosened_lies p (judged p facts o admitted) c.program (h.loosened some) l)
]
