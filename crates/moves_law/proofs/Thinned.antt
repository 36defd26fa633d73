-- A program without some positions names no more registers.
use Rattle.std.proofs.Common.{◌≡◌, ℕ, ◌+◌, ◌≤◌, Bool, true, false, List, [], ◌∷◌, sum, Option, Some, None, nat_eq, refl, sym, ap, subst, arith}
use Rattle.std.specs.Prelude.{sum_by, if◌then◌else◌}
use Rattle.std.proofs.lemmas.List.Sums.{sum_by-cons}
use Rattle.insn_set.specs.declared.form.Insn.{Insn}
use Rattle.insn_set.specs.declared.form.Insn.TheVariants as insn
use Rattle.program_model.specs.declared.body.Body.{Body}
use Rattle.program_model.specs.declared.pass.Changed.{Changed}
use Rattle.program_model.specs.declared.program.Method.{Method}
use Rattle.program_model.specs.declared.program.Class.{Class}
use Rattle.program_model.specs.declared.program.Program.{Program}
use Rattle.pass_defs.specs.Thinned.{Fate as Meant, Stays, Empties, Goes, place, insn_retargeted, insns_left, body_thinned}
use Rattle.body_edit.specs.declared.fate.Fate.{Fate}
use Rattle.body_edit.specs.Fates.{fates_of}
use Rattle.thin_pass.specs.Plans.{changed_in, lines_left, method_thinned, method_by, methods_by, class_by, classes_by, program_by, IsThinnedBy}
use Rattle.compact.specs.Measure.{numbers_of, number_sum, body_numbers, method_numbers, class_numbers, numbers_in}

abbrev named : Insn → ℕ
named i = sum (numbers_of i)

-- other targets name the same registers
same_named : (t : ℕ → ℕ) (i : Insn) → numbers_of (insn_retargeted t i) ≡ numbers_of i
same_named t insn.Nop = refl
same_named t i = refl

insns_fall : (t : ℕ → ℕ) (fs : List Meant) (is : List Insn) → sum_by named (insns_left t fs is) ≤ sum_by named is
insns_fall t fs [] = omega arith
insns_fall t [] (i ∷ is) = omega arith
insns_fall t (Stays ∷ fs) (i ∷ is) = let e : named (insn_retargeted t i) ≡ named i = ap sum (same_named t i) in
    omega (arith, insns_fall t fs is, e, sum_by-cons named (insn_retargeted t i) (insns_left t fs is), sum_by-cons named i is)
insns_fall t (Empties ∷ fs) (i ∷ is) = let e : named insn.Nop ≡ 0 = refl in
    omega (arith, insns_fall t fs is, e, sum_by-cons named insn.Nop (insns_left t fs is), sum_by-cons named i is)
insns_fall t (Goes ∷ fs) (i ∷ is) = omega (arith, insns_fall t fs is, sum_by-cons named i is)

body_falls : (fs : List Meant) (b : Body) → body_numbers (Some (body_thinned fs b)) ≤ body_numbers (Some b)
body_falls fs b = let h : sum_by named (insns_left (place fs) fs b.insns) ≤ number_sum b = insns_fall (place fs) fs b.insns in more b.registers (sum_by named (insns_left (place fs) fs b.insns)) (number_sum b) h
  where
    more : (k m n : ℕ) → m ≤ n → k + m ≤ k + n
    more k m n l = omega (arith, l)

itself : (n : ℕ) → n ≤ n
itself n = omega arith

thinned_falls : (fs : List Fate) (m : Method) → method_numbers (method_thinned fs m) ≤ method_numbers m
thinned_falls fs m = by m.body refl
  where
    by : (o : Option Body) → m.body ≡ o
        → method_numbers (elim o as (λ o. Method) [ Some b ↦ record m { body = Some (body_thinned (fates_of fs) b); lines = lines_left fs m.lines } | None ↦ m ]) ≤ method_numbers m
    by None e = itself (method_numbers m)
    by (Some b) e = subst (λ n. body_numbers (Some (body_thinned (fates_of fs) b)) ≤ n) (sym (ap body_numbers e)) (body_falls (fates_of fs) b)

method_falls : (fs : List Fate) (m : Method) → method_numbers (method_by fs m) ≤ method_numbers m
method_falls fs m = by (nat_eq (changed_in fs) 0)
  where
    by : (b : Bool) → method_numbers (if b then m else method_thinned fs m) ≤ method_numbers m
    by true = itself (method_numbers m)
    by false = thinned_falls fs m

methods_fall : (plan : List (List Fate)) (ms : List Method) → sum_by method_numbers (methods_by plan ms) ≤ sum_by method_numbers ms
methods_fall [] ms = itself (sum_by method_numbers ms)
methods_fall (fs ∷ plan) [] = omega arith
methods_fall (fs ∷ plan) (m ∷ ms) = omega (arith, method_falls fs m, methods_fall plan ms, sum_by-cons method_numbers (method_by fs m) (methods_by plan ms), sum_by-cons method_numbers m ms)

classes_fall : (plan : List (List (List Fate))) (cs : List Class) → sum_by class_numbers (classes_by plan cs) ≤ sum_by class_numbers cs
classes_fall [] cs = itself (sum_by class_numbers cs)
classes_fall (ps ∷ plan) [] = omega arith
classes_fall (ps ∷ plan) (c ∷ cs) = let h : class_numbers (class_by ps c) ≤ class_numbers c = methods_fall ps c.methods in
    omega (arith, h, classes_fall plan cs, sum_by-cons class_numbers (class_by ps c) (classes_by plan cs), sum_by-cons class_numbers c cs)

pub planned_numbers : (plan : List (List (List Fate))) (p : Program) → numbers_in (program_by plan p) ≤ numbers_in p
planned_numbers plan p = classes_fall plan p.classes

pub thinned_numbers : (wishes : Body → List Fate → Type 0) (admitted : List Bool) (p : Program) (c : Changed) → IsThinnedBy wishes admitted p c → numbers_in c.program ≤ numbers_in p
thinned_numbers wishes admitted p c h = subst (λ q. numbers_in q ≤ numbers_in p) (sym h.program) (planned_numbers h.plan p)
