-- What passes on bodies make of a program says no more.
use Rattle.std.proofs.Common.{◌≡◌, inl, inr, ℕ, Bool, List, sym, ap, ◌∙◌, subst}
use Rattle.std.specs.Prelude.{Option, Some, None, slice_get}
use Rattle.std.specs.Option.{option_map}
use Rattle.insn_set.specs.declared.form.Insn.{Insn}
use Rattle.program_model.specs.declared.body.Body.{Body}
use Rattle.program_model.specs.declared.pass.Changed.{Changed}
use Rattle.program_model.specs.declared.program.Method.{Method}
use Rattle.program_model.specs.declared.program.Program.{Program}
use Rattle.dalvik_defs.specs.Naming.{form_of, body_of, named_method, named_class, named}
use Rattle.dalvik_defs.specs.Outer.{Outer}
use Rattle.dalvik_defs.specs.Silence.{key_in}
use Rattle.dalvik_defs.specs.declared.names.MethodKey.{MethodKey}
use Rattle.pass_defs.specs.Thinned.{body_thinned}
use Rattle.pass_defs.proofs.Thinned.{named_thinned}
use Rattle.removal_law.specs.Reach.{ShutsHold}
use Rattle.program_laws.specs.Numbered.{NumberedCodes, OtherNumberedBodies}
use Rattle.program_laws.proofs.Named.{others_named}
use Rattle.program_laws.specs.Said.{said, SaysNoMore}
use Rattle.program_laws.proofs.Changed.{shuts_kept}
use Rattle.program_laws.proofs.Thinned.{thinned_says}
use Rattle.program_laws.proofs.Numbered.{alike_says, mapped_says}
use Rattle.insn_regs.specs.Remade.{remade}
use Rattle.body_edit.specs.declared.fate.Fate.{Fate}
use Rattle.thin_pass.specs.Plans.{IsThinnedBy}
use Rattle.bodies_kept.specs.Right.{fates_by}
use Rattle.bodies_kept.proofs.Became.{Became, AsItWas, Thin, others}
use Rattle.compact.specs.Renamed.{IsCompactedProgram}
use Rattle.bodies_kept.specs.Renames.{Compacts}
use Rattle.bodies_kept.proofs.CompactPrograms.{program_compacts}
use Rattle.copy_prop.specs.Rereading.{substituted}
use Rattle.copy_prop.specs.Propagated.{IsPropagatedProgram}
use Rattle.bodies_kept.specs.Rereads.{Propagates}
use Rattle.bodies_kept.proofs.CopyPrograms.{program_propagates}
use Rattle.bodies_kept.proofs.Saying.{remade_said}

-- what code says by the names of a program
abbrev pub SaysBy : Program → NumberedCodes
SaysBy p k a b = SaysNoMore (named p) k (option_map (body_of p) a) (option_map (body_of p) b)

pub by_number : (p q : Program) (o : Outer) → OtherNumberedBodies (SaysBy p) p q → ShutsHold (named p) o → ShutsHold (named q) o
by_number p q o h = shuts_kept (named p) (named q) o (others_named (SaysBy p) (SaysNoMore (named p)) p (λ k a b r. r) q h)

-- ---- thinned

module _ (wishes : Body → List Fate → Type 0) (admitted : List Bool) (p : Program) (c : Changed) (t : IsThinnedBy wishes admitted p c) where
  became_says : (k : MethodKey) (m n : Method) → Became wishes m n → SaysBy p k m.body n.body
  became_says k m _ AsItWas = λ test quiet e. e
  became_says k m _ (Thin b ws e w) = subst (λ (x : Option Body). SaysNoMore (named p) k (option_map (body_of p) x) (Some (body_of p (body_thinned (fates_by ws b) b)))) (sym e)
      (subst (λ x. SaysNoMore (named p) k (Some (body_of p b)) (Some x)) (sym (named_thinned p (fates_by ws b) b)) (thinned_says (named p) k (fates_by ws b) (body_of p b)))

  pub thinned_others : OtherNumberedBodies (SaysBy p) p c.program
  thinned_others = others wishes admitted p c t (SaysBy p) (λ k m n i j h. became_says (key_in (named_class p k) (named_method p m)) m n h)

pub thinned_keeps : (wishes : Body → List Fate → Type 0) (admitted : List Bool) (p : Program) (c : Changed) (o : Outer) → IsThinnedBy wishes admitted p c
    → ShutsHold (named p) o → ShutsHold (named c.program) o
thinned_keeps wishes admitted p c o t = by_number p c.program o (thinned_others wishes admitted p c t)

-- ---- with other registers

compacted_says : (p : Program) (k : MethodKey) (a b : Option Body) → Compacts p k a b → SaysNoMore (named p) k (option_map (body_of p) a) (option_map (body_of p) b)
compacted_says p k (Some b) (Some d) (inl c) = mapped_says p (remade c.new c.new) (remade_said p c.new c.new) k b d c.insns
compacted_says p k (Some b) (Some d) (inr same) = subst (λ (x : Body). SaysNoMore (named p) k (Some (body_of p b)) (Some (body_of p x))) (sym same) (λ test quiet e. e)
compacted_says p k (Some b) None r = absurd r
compacted_says p k None (Some d) r = absurd r
compacted_says p k None None r = λ test quiet e. e

pub compacted_keeps : (admitted : List Bool) (p q : Program) (o : Outer) → IsCompactedProgram admitted p q → ShutsHold (named p) o → ShutsHold (named q) o
compacted_keeps admitted p q o i = shuts_kept (named p) (named q) o (others_named (Compacts p) (SaysNoMore (named p)) p (compacted_says p) q (program_compacts admitted p q i))

-- ---- with originals read

propagated_says : (p : Program) (k : MethodKey) (a b : Option Body) → Propagates p k a b → SaysNoMore (named p) k (option_map (body_of p) a) (option_map (body_of p) b)
propagated_says p k (Some b) (Some d) (inl c) = alike_says p k b d c.long one
  where
    one : (n : ℕ) (x : Insn) → slice_get b.insns n ≡ Some x → (y : Insn) × ((slice_get d.insns n ≡ Some y) × (said (named p) (form_of p y) ≡ said (named p) (form_of p x)))
    one n x e = let w = c.insns n x e in (w.0, (w.1, ap (λ z. said (named p) (form_of p z)) w.2.form ∙ remade_said p (substituted w.2.copies) (λ r. r) x))
propagated_says p k (Some b) (Some d) (inr same) = subst (λ (x : Body). SaysNoMore (named p) k (Some (body_of p b)) (Some (body_of p x))) (sym same) (λ test quiet e. e)
propagated_says p k (Some b) None r = absurd r
propagated_says p k None (Some d) r = absurd r
propagated_says p k None None r = λ test quiet e. e

pub propagated_keeps : (admitted : List Bool) (p q : Program) (o : Outer) → IsPropagatedProgram admitted p q → ShutsHold (named p) o → ShutsHold (named q) o
propagated_keeps admitted p q o i = shuts_kept (named p) (named q) o (others_named (Propagates p) (SaysNoMore (named p)) p (propagated_says p) q (program_propagates admitted p q i))
