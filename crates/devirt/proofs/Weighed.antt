-- Where something is written, the calls of a program weigh less.
use Rattle.std.proofs.Common.{◌≡◌, ℕ, zero, suc, ◌+◌, ◌≤◌, min, Bool, true, false, List, [], ◌∷◌, length, Option, Some, None, refl, sym, ap, ◌∙◌, subst, arith}
use Rattle.std.specs.Prelude.{sum_by, slice_get, slice_index_or, if◌then◌else◌}
use Rattle.std.proofs.lemmas.List.Sums.{sum_by-cons}
use Rattle.lemmas.proofs.Lists.{got_short}
use Rattle.insn_set.specs.declared.ops.InvokeKind.{InvokeKind}
use Rattle.program_model.specs.Cells.{capped}
use Rattle.program_model.specs.declared.body.Body.{Body}
use Rattle.program_model.specs.declared.pass.Changed.{Changed}
use Rattle.program_model.specs.declared.program.Class.{Class}
use Rattle.program_model.specs.declared.program.Method.{Method}
use Rattle.program_model.specs.declared.program.MethodAt.{MethodAt}
use Rattle.program_model.specs.declared.program.Program.{Program}
use Rattle.hierarchy.specs.Ranks.{IsRanked}
use Rattle.hierarchy.specs.declared.build.Hierarchy.{Hierarchy}
use Rattle.facts.specs.declared.facts.Facts.{Facts}
use Rattle.verify.specs.Typings.{Table}
use Rattle.rewrite_pass.specs.declared.edit.Edit.{Edit}
use Rattle.rewrite_pass.specs.Plans.{edited, code_edited, method_by, each_by, class_by, program_by, class_edits, all_edits, word, HasEdits, HasPlan, IsPlan}
use Rattle.devirt.specs.Measure.{call_weight, calls_by, calls_in, class_weight, code_weight, insns_weight, method_weight}
use Rattle.devirt.specs.Rebound.{AreRebindings, IsReboundBy, edits_from, edits_of, is_any_open, is_numbered, typed_edits}
use Rattle.devirt.proofs.Rebuilt.{edited_all, rebuilt_weight, some_written}
use Rattle.devirt.proofs.Same.{weighed_before}
use Rattle.devirt.proofs.Written.{lighter}

sums_by : {A E : Type 0} (f : A → ℕ) (cost : List E → ℕ) (by : List E → A → A) (xs : List A) (plan : List (List E)) → length plan ≡ length xs
    → ((k : ℕ) (x : A) → slice_get xs k ≡ Some x → f (by (slice_index_or plan k []) x) + cost (slice_index_or plan k []) ≤ f x)
    → sum_by f (each_by by plan xs) + sum_by cost plan ≤ sum_by f xs
sums_by f cost by [] [] l h = omega arith
sums_by f cost by [] (es ∷ plan) l h = absurd (omega (arith, l))
sums_by f cost by (x ∷ xs) [] l h = absurd (omega (arith, l))
sums_by f cost by (x ∷ xs) (es ∷ plan) l h =
    let one : f (by es x) + cost es ≤ f x = h 0 x refl in
    let rest : sum_by f (each_by by plan xs) + sum_by cost plan ≤ sum_by f xs = sums_by f cost by xs plan (omega (arith, l)) (λ k y e. h (suc k) y e) in
    let a : sum_by f (by es x ∷ each_by by plan xs) ≡ f (by es x) + sum_by f (each_by by plan xs) = sum_by-cons f (by es x) (each_by by plan xs) in
    let b : sum_by cost (es ∷ plan) ≡ cost es + sum_by cost plan = sum_by-cons cost es plan in
    let c : sum_by f (x ∷ xs) ≡ f x + sum_by f xs = sum_by-cons f x xs in
    omega (arith, one, rest, a, b, c)

module _ (p : Program) (r : IsRanked p) (h : Hierarchy) (facts : Facts) (admitted : List Bool) where
  abbrev W : MethodAt → Method → Body → List Edit → Type 0
  W = AreRebindings p h facts

  abbrev w : InvokeKind → ℕ → ℕ
  w = call_weight p

  abbrev Lighter : Body → List Edit → Type 0
  Lighter b es = insns_weight w (edited es b.insns) + some_written es ≤ insns_weight w b.insns

  nothing : (b : Body) → Lighter b []
  nothing b = omega arith

  from_start : (class method : ℕ) (x : Table) (b : Body) → Lighter b (edits_from p facts class method x 0 b.insns)
  from_start class method x b = subst (λ is. insns_weight w is + some_written (edits_from p facts class method x 0 b.insns) ≤ insns_weight w b.insns) (sym (edited_all p facts class method x b.insns))
      (rebuilt_weight p facts class method x w (lighter p r facts class method x) b.insns 0)

  typed : (class method : ℕ) (b : Body) (o : Option Table) → Lighter b (typed_edits p facts class method b o)
  typed class method b None = nothing b
  typed class method b (Some x) = by (is_numbered b)
    where
      by : (t : Bool) → Lighter b (if t then edits_from p facts class method x 0 b.insns else [])
      by true = from_start class method x b
      by false = nothing b

  of_body : (class method : ℕ) (b : Body) (o : Option Table) → Lighter b (edits_of p facts class method b o)
  of_body class method b o = by (is_any_open p b)
    where
      by : (t : Bool) → Lighter b (if t then typed_edits p facts class method b o else [])
      by true = typed class method b o
      by false = nothing b

  code_less : (at : MethodAt) (m : Method) (adm : Bool) (o : Option Body) (es : List Edit) → HasEdits W adm at m o es → code_weight w (code_edited es o) + some_written es ≤ code_weight w o
  code_less at m true (Some b) es e = subst (Lighter b) (sym e.are) (of_body at.class m.name b e.table)
  code_less at m true None es e = subst (λ es. code_weight w (code_edited es None) + some_written es ≤ 0) (sym e) (omega arith)
  code_less at m false (Some b) es e = subst (Lighter b) (sym e) (nothing b)
  code_less at m false None es e = subst (λ es. code_weight w (code_edited es None) + some_written es ≤ 0) (sym e) (omega arith)

  method_less : (at : MethodAt) (m : Method) (adm : Bool) (es : List Edit) → HasEdits W adm at m m.body es → method_weight w (method_by es m) + some_written es ≤ method_weight w m
  method_less at m adm [] e = omega arith
  method_less at m adm (x ∷ es) e = code_less at m adm m.body (x ∷ es) e

  abbrev some_in : List (List Edit) → ℕ
  some_in ps = sum_by some_written ps

  class_less : (class : ℕ) (c : Class) (ps : List (List Edit)) → HasPlan W admitted class c.methods ps → class_weight w (class_by ps c) + some_in ps ≤ class_weight w c
  class_less class c ps e = sums_by (method_weight w) some_written method_by c.methods ps e.long
      (λ k m f. method_less (record { class = class; place = word k }) m (slice_index_or admitted m.name false) (slice_index_or ps k []) (e.each k m (got_short c.methods k m f) f))

  program_less : (plan : List (List (List Edit))) → IsPlan W admitted p.classes plan → calls_by w (program_by plan p) + sum_by some_in plan ≤ calls_by w p
  program_less plan e = sums_by (class_weight w) some_in class_by p.classes plan e.long (λ k c f. class_less (word k) c (slice_index_or plan k []) (e.each k c (got_short p.classes k c f) f))

  -- ---- what is counted

  none_in : (ps : List (List Edit)) → some_in ps ≡ 0 → class_edits ps ≡ 0
  none_in [] e = refl
  none_in ([] ∷ ps) e =
      let a : some_in ([] ∷ ps) ≡ 0 + some_in ps = sum_by-cons some_written [] ps in
      let k : class_edits ps ≡ 0 = none_in ps (omega (arith, e, a)) in
      let c : class_edits ([] ∷ ps) ≡ 0 + class_edits ps = sum_by-cons length [] ps in omega (arith, k, c)
  none_in ((x ∷ es) ∷ ps) e = let a : some_in ((x ∷ es) ∷ ps) ≡ 1 + some_in ps = sum_by-cons some_written (x ∷ es) ps in absurd (omega (arith, e, a))

  none_at_all : (plan : List (List (List Edit))) → sum_by some_in plan ≡ 0 → all_edits plan ≡ 0
  none_at_all [] e = refl
  none_at_all (ps ∷ plan) e =
      let a : sum_by some_in (ps ∷ plan) ≡ some_in ps + sum_by some_in plan = sum_by-cons some_in ps plan in
      let k : all_edits plan ≡ 0 = none_at_all plan (omega (arith, e, a)) in
      let j : class_edits ps ≡ 0 = none_in ps (omega (arith, e, a)) in
      let c : all_edits (ps ∷ plan) ≡ class_edits ps + all_edits plan = sum_by-cons class_edits ps plan in omega (arith, k, j, c)

  -- where something is counted, the calls weigh less
  pub calls_fall : (c : Changed) → IsReboundBy p h facts admitted c → calls_in c.program + min c.count 1 ≤ calls_in p
  calls_fall c e = subst (λ q. calls_in q + min c.count 1 ≤ calls_in p) (sym e.written.program)
      (subst (λ n. n + min c.count 1 ≤ calls_in p) (sym (weighed_before p e.plan)) (less (sum_by some_in e.plan) refl))
    where
      less : (n : ℕ) → sum_by some_in e.plan ≡ n → calls_by w (program_by e.plan p) + min c.count 1 ≤ calls_in p
      less zero f =
          let k : all_edits e.plan ≡ 0 = none_at_all e.plan f in
          let j : c.count ≡ 0 = e.written.count ∙ ap capped k in
          let l : calls_by w (program_by e.plan p) + sum_by some_in e.plan ≤ calls_by w p = program_less e.plan e.asked in
          omega (arith, j, l)
      less (suc n) f = let l : calls_by w (program_by e.plan p) + sum_by some_in e.plan ≤ calls_by w p = program_less e.plan e.asked in omega (arith, l, f)
