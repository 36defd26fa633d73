-- Where something becomes a nop, the program weighs less.
use Rattle.std.proofs.Common.{◌≡◌, ℕ, zero, suc, ◌+◌, ◌<◌, ◌≤◌, Bool, true, false, true≢false, List, [], ◌∷◌, length, Option, Some, None, refl, sym, ap, ◌∙◌, subst, arith}
use Rattle.std.specs.Prelude.{All, sum_by, slice_get, slice_set, slice_index_or}
use Rattle.std.proofs.lemmas.List.Elements.{All-head, All-tail}
use Rattle.std.proofs.lemmas.List.Sums.{sum_by-cons}
use Rattle.lemmas.proofs.Lists.{got_short}
use Rattle.insn_set.specs.declared.form.Insn.{Insn}
use Rattle.insn_set.specs.declared.form.Insn.TheVariants as insn
use Rattle.program_model.specs.Cells.{capped}
use Rattle.program_model.specs.declared.body.Body.{Body}
use Rattle.program_model.specs.declared.pass.Changed.{Changed}
use Rattle.program_model.specs.declared.program.Class.{Class}
use Rattle.program_model.specs.declared.program.Method.{Method}
use Rattle.program_model.specs.declared.program.MethodAt.{MethodAt}
use Rattle.program_model.specs.declared.program.Program.{Program}
use Rattle.rewrite_pass.specs.declared.edit.Edit.{Edit}
use Rattle.rewrite_pass.specs.Plans.{edited, code_edited, method_by, each_by, class_by, program_by, class_edits, all_edits, word, HasEdits, HasPlan, IsPlan, IsRewrittenBy}
use Rattle.thin_pass.specs.Weights.{weight, insns_weight, code_weight, method_weight, class_weight, weight_of}
use Rattle.quiet_code.specs.Quiet.{may_go, IsDropped, AreDropped}

-- ---- one instruction

some_weight : (i : Insn) → 1 ≤ weight i
some_weight insn.Nop = omega arith
some_weight i = omega arith

may_weigh : (i : Insn) → may_go i ≡ true → weight i ≡ 2
may_weigh insn.Nop e = absurd (true≢false (sym e))
may_weigh i e = refl

-- ---- lists

set_weight : (is : List Insn) (n : ℕ) → insns_weight (slice_set is n insn.Nop) ≤ insns_weight is
set_weight [] n = omega arith
set_weight (i ∷ is) zero = let l : 1 ≤ weight i = some_weight i in omega (arith, l)
set_weight (i ∷ is) (suc n) = let l : insns_weight (slice_set is n insn.Nop) ≤ insns_weight is = set_weight is n in omega (arith, l)

set_less : (is : List Insn) (n : ℕ) (x : Insn) → slice_get is n ≡ Some x → weight x ≡ 2 → insns_weight (slice_set is n insn.Nop) < insns_weight is
set_less [] n x s k = absurd (cc)
set_less (i ∷ is) zero x s k = let same : i ≡ x = cc in let r : weight i ≡ 2 = ap weight same ∙ k in omega (arith, r)
set_less (i ∷ is) (suc n) x s k = let l : insns_weight (slice_set is n insn.Nop) < insns_weight is = set_less is n x s k in omega (arith, l)

-- whether something is written
abbrev some_written : List Edit → ℕ
some_written [] = 0
some_written (e ∷ es) = 1

module _ (b : Body) where
  rest_weight : (es : List Edit) (is : List Insn) → AreDropped b es → insns_weight (edited es is) ≤ insns_weight is
  rest_weight [] is a = omega arith
  rest_weight (e ∷ es) is a =
      let x = All-head (IsDropped b) e es a in
      let l : insns_weight (slice_set is e.position e.insn) ≤ insns_weight is = subst (λ g. insns_weight (slice_set is e.position g) ≤ insns_weight is) (sym x.nop) (set_weight is e.position) in
      let k : insns_weight (edited es (slice_set is e.position e.insn)) ≤ insns_weight (slice_set is e.position e.insn) = rest_weight es (slice_set is e.position e.insn) (All-tail (IsDropped b) e es a) in
      omega (arith, l, k)

  body_weight : (es : List Edit) → AreDropped b es → insns_weight (edited es b.insns) + some_written es ≤ insns_weight b.insns
  body_weight [] a = omega arith
  body_weight (e ∷ es) a =
      let x = All-head (IsDropped b) e es a in
      let l : insns_weight (slice_set b.insns e.position e.insn) < insns_weight b.insns =
      subst (λ g. insns_weight (slice_set b.insns e.position g) < insns_weight b.insns) (sym x.nop) (set_less b.insns e.position x.form x.there (may_weigh x.form x.may)) in
      let k : insns_weight (edited es (slice_set b.insns e.position e.insn)) ≤ insns_weight (slice_set b.insns e.position e.insn) = rest_weight es (slice_set b.insns e.position e.insn) (All-tail (IsDropped b) e es a) in
      omega (arith, l, k)

sums_by : {A E : Type 0} (f : A → ℕ) (cost : List E → ℕ) (by : List E → A → A) (xs : List A) (plan : List (List E)) → length plan ≡ length xs
    → ((k : ℕ) (x : A) → slice_get xs k ≡ Some x → f (by (slice_index_or plan k []) x) + cost (slice_index_or plan k []) ≤ f x)
    → sum_by f (each_by by plan xs) + sum_by cost plan ≤ sum_by f xs
sums_by f cost by [] [] l h = omega arith
sums_by f cost by [] (es ∷ plan) l h = absurd (omega (arith, l))
sums_by f cost by (x ∷ xs) [] l h = absurd (omega (arith, l))
sums_by f cost by (x ∷ xs) (es ∷ plan) l h =
    let one : f (by es x) + cost es ≤ f x = h 0 x refl in
    let rest : sum_by f (each_by by plan xs) + sum_by cost plan ≤ sum_by f xs = sums_by f cost by xs plan (omega (arith, l)) (λ k y e. h (suc k) y e) in
    let a : sum_by f (by es x ∷ each_by by plan xs) ≡ f (by es x) + sum_by f (each_by by plan xs) = sum_by-cons f (by es x) (each_by by plan xs) in
    let b : sum_by cost (es ∷ plan) ≡ cost es + sum_by cost plan = sum_by-cons cost es plan in
    let c : sum_by f (x ∷ xs) ≡ f x + sum_by f xs = sum_by-cons f x xs in
    omega (arith, one, rest, a, b, c)

module _ (admitted : List Bool) where
  abbrev W : MethodAt → Method → Body → List Edit → Type 0
  W at m b es = AreDropped b es

  code_less : (at : MethodAt) (m : Method) (adm : Bool) (o : Option Body) (es : List Edit) → HasEdits W adm at m o es → code_weight (code_edited es o) + some_written es ≤ code_weight o
  code_less at m true (Some b) es h = body_weight b es h
  code_less at m true None es h = subst (λ es. code_weight (code_edited es None) + some_written es ≤ 0) (sym h) (omega arith)
  code_less at m false (Some b) es h = subst (λ es. code_weight (code_edited es (Some b)) + some_written es ≤ insns_weight b.insns) (sym h) (omega arith)
  code_less at m false None es h = subst (λ es. code_weight (code_edited es None) + some_written es ≤ 0) (sym h) (omega arith)

  method_less : (at : MethodAt) (m : Method) (adm : Bool) (es : List Edit) → HasEdits W adm at m m.body es → method_weight (method_by es m) + some_written es ≤ method_weight m
  method_less at m adm [] h = omega arith
  method_less at m adm (e ∷ es) h = code_less at m adm m.body (e ∷ es) h

  abbrev some_in : List (List Edit) → ℕ
  some_in ps = sum_by some_written ps

  class_less : (class : ℕ) (c : Class) (ps : List (List Edit)) → HasPlan W admitted class c.methods ps → class_weight (class_by ps c) + some_in ps ≤ class_weight c
  class_less class c ps h = sums_by method_weight some_written method_by c.methods ps h.long
      (λ k m e. method_less (record { class = class; place = word k }) m (slice_index_or admitted m.name false) (slice_index_or ps k []) (h.each k m (got_short c.methods k m e) e))

  program_less : (p : Program) (plan : List (List (List Edit))) → IsPlan W admitted p.classes plan → weight_of (program_by plan p) + sum_by some_in plan ≤ weight_of p
  program_less p plan h = sums_by class_weight some_in class_by p.classes plan h.long (λ k c e. class_less (word k) c (slice_index_or plan k []) (h.each k c (got_short p.classes k c e) e))

  -- ---- what is counted

  none_in : (ps : List (List Edit)) → some_in ps ≡ 0 → class_edits ps ≡ 0
  none_in [] e = refl
  none_in ([] ∷ ps) e =
      let a : some_in ([] ∷ ps) ≡ 0 + some_in ps = sum_by-cons some_written [] ps in
      let r : some_in ps ≡ 0 = omega (arith, e, a) in
      let k : class_edits ps ≡ 0 = none_in ps r in
      let c : class_edits ([] ∷ ps) ≡ 0 + class_edits ps = sum_by-cons length [] ps in omega (arith, k, c)
  none_in ((x ∷ es) ∷ ps) e = let a : some_in ((x ∷ es) ∷ ps) ≡ 1 + some_in ps = sum_by-cons some_written (x ∷ es) ps in absurd (omega (arith, e, a))

  none_at_all : (plan : List (List (List Edit))) → sum_by some_in plan ≡ 0 → all_edits plan ≡ 0
  none_at_all [] e = refl
  none_at_all (ps ∷ plan) e =
      let a : sum_by some_in (ps ∷ plan) ≡ some_in ps + sum_by some_in plan = sum_by-cons some_in ps plan in
      let r : sum_by some_in plan ≡ 0 = omega (arith, e, a) in
      let q : some_in ps ≡ 0 = omega (arith, e, a) in
      let k : all_edits plan ≡ 0 = none_at_all plan r in
      let j : class_edits ps ≡ 0 = none_in ps q in
      let c : all_edits (ps ∷ plan) ≡ class_edits ps + all_edits plan = sum_by-cons class_edits ps plan in omega (arith, k, j, c)

  -- where something is counted, the program weighs less
  pub nops_less : (p : Program) (c : Changed) → IsRewrittenBy W admitted p c → 0 < c.count → weight_of c.program < weight_of p
  nops_less p c r l = subst (λ q. weight_of q < weight_of p) (sym r.written.program) (less (sum_by some_in r.plan) refl)
    where
      less : (n : ℕ) → sum_by some_in r.plan ≡ n → weight_of (program_by r.plan p) < weight_of p
      less zero e = let k : all_edits r.plan ≡ 0 = none_at_all r.plan e in let j : c.count ≡ 0 = r.written.count ∙ ap capped k in absurd (omega (arith, l, j))
      less (suc n) e = let h : weight_of (program_by r.plan p) + sum_by some_in r.plan ≤ weight_of p = program_less p r.plan r.asked in omega (arith, h, e)
