-- A folded program has as many members, and instructions that weigh no more.
use Rattle.std.proofs.Common.{◌≡◌, ℕ, zero, suc, ◌+◌, ◌≤◌, Bool, true, false, true≢false, List, [], ◌∷◌, All, length, Option, Some, None, refl, sym, ap, ◌∙◌, subst, arith}
use Rattle.std.specs.Prelude.{sum_by, slice_get, slice_index_or, slice_set}
use Rattle.std.proofs.lemmas.List.Elements.{All-head, All-tail}
use Rattle.std.proofs.lemmas.List.Sums.{sum_by-cons}
use Rattle.lemmas.proofs.Lists.{got_short}
use Rattle.lemmas.proofs.Options.{none_some, some_same}
use Rattle.insn_set.specs.declared.form.Insn.{Insn}
use Rattle.insn_set.specs.declared.form.Insn.TheVariants as insn
use Rattle.program_model.specs.declared.body.Body.{Body}
use Rattle.program_model.specs.declared.pass.Changed.{Changed}
use Rattle.program_model.specs.declared.program.Class.{Class}
use Rattle.program_model.specs.declared.program.Method.{Method}
use Rattle.program_model.specs.declared.program.MethodAt.{MethodAt}
use Rattle.program_model.specs.declared.program.Program.{Program}
use Rattle.reach.specs.Kept.{class_size, size_of}
use Rattle.thin_pass.specs.Weights.{weight, insns_weight, code_weight, method_weight, class_weight, weight_of}
use Rattle.rewrite_pass.specs.declared.edit.Edit.{Edit}
use Rattle.rewrite_pass.specs.Plans.{edited, code_edited, method_by, each_by, class_by, program_by, word, HasEdits, HasPlan, IsRewrittenBy}
use Rattle.const_prop.specs.Choices.{is_choice, has_target}
use Rattle.const_prop.specs.Constants.{result_of, is_result}
use Rattle.const_prop.specs.Folded.{Constant, IsFold, MayBecome, Next, Target}

-- ---- an instruction

light : (g : Insn) → weight g ≤ 2
light insn.Nop = omega arith
light g = omega arith

result_heavy : (f : Insn) → is_result (result_of f) ≡ true → weight f ≡ 2
result_heavy insn.Nop e = absurd (true≢false (sym e))
result_heavy f e = refl

target_heavy : (f : Insn) (target : ℕ) → has_target f target ≡ true → weight f ≡ 2
target_heavy insn.Nop target e = absurd (true≢false (sym e))
target_heavy f target e = refl

choice_heavy : (f : Insn) → is_choice f ≡ true → weight f ≡ 2
choice_heavy insn.Nop e = absurd (true≢false (sym e))
choice_heavy f e = refl

-- what is folded is no nop
folded_heavy : (f g : Insn) → MayBecome f g → weight f ≡ 2
folded_heavy f _ (Constant g c) = result_heavy f c.plain
folded_heavy f _ (Target target e) = target_heavy f target e
folded_heavy f _ (Next e) = choice_heavy f e

-- ---- a body

-- each instruction weighs no more than the one at its place in another list
abbrev AreLighter : List Insn → List Insn → Type 0
AreLighter [] [] = Unit {0}
AreLighter [] (i ∷ is) = ⊥
AreLighter (j ∷ js) [] = ⊥
AreLighter (j ∷ js) (i ∷ is) = (weight j ≤ weight i) × AreLighter js is

as_light : (is : List Insn) → AreLighter is is
as_light [] = tt
as_light (i ∷ is) = (omega arith, as_light is)

all_lighter : (js is : List Insn) → AreLighter js is → insns_weight js ≤ insns_weight is
all_lighter [] [] l = omega arith
all_lighter [] (i ∷ is) l = absurd l
all_lighter (j ∷ js) [] l = absurd l
all_lighter (j ∷ js) (i ∷ is) l = let rest = all_lighter js is l.1 in omega (arith, l.0, rest)

set_lighter : (js is : List Insn) (n : ℕ) (f g : Insn) → AreLighter js is → slice_get is n ≡ Some f → weight f ≡ 2 → AreLighter (slice_set js n g) is
set_lighter [] [] n f g l e h = none_some f e
set_lighter [] (i ∷ is) n f g l e h = absurd l
set_lighter (j ∷ js) [] n f g l e h = absurd l
set_lighter (j ∷ js) (i ∷ is) zero f g l e h = let same : weight i ≡ weight f = ap weight (some_same i f e) in let few = light g in (omega (arith, same, few, h), l.1)
set_lighter (j ∷ js) (i ∷ is) (suc n) f g l e h = (l.0, set_lighter js is n f g l.1 e h)

edited_lighter : (b : Body) (es : List Edit) (js : List Insn) → AreLighter js b.insns → All (IsFold b) es → AreLighter (edited es js) b.insns
edited_lighter b [] js l h = l
edited_lighter b (e ∷ es) js l h =
    let fold : IsFold b e = All-head (IsFold b) e es h in
    edited_lighter b es (slice_set js e.position e.insn) (set_lighter js b.insns e.position fold.form e.insn l fold.there (folded_heavy fold.form e.insn fold.becomes)) (All-tail (IsFold b) e es h)

body_lighter : (b : Body) (es : List Edit) → All (IsFold b) es → insns_weight (edited es b.insns) ≤ insns_weight b.insns
body_lighter b es h = all_lighter (edited es b.insns) b.insns (edited_lighter b es b.insns (as_light b.insns) h)

-- ---- lists by a plan

at_most : {A E : Type 0} (f : A → ℕ) (by : List E → A → A) (xs : List A) (plan : List (List E)) → length plan ≡ length xs
    → ((k : ℕ) (x : A) → slice_get xs k ≡ Some x → f (by (slice_index_or plan k []) x) ≤ f x) → sum_by f (each_by by plan xs) ≤ sum_by f xs
at_most f by [] [] l h = omega arith
at_most f by [] (es ∷ plan) l h = absurd (omega (arith, l))
at_most f by (x ∷ xs) [] l h = absurd (omega (arith, l))
at_most f by (x ∷ xs) (es ∷ plan) l h =
    let one : f (by es x) ≤ f x = h 0 x refl in
    let rest : sum_by f (each_by by plan xs) ≤ sum_by f xs = at_most f by xs plan (omega (arith, l)) (λ k y e. h (suc k) y e) in
    let a : sum_by f (by es x ∷ each_by by plan xs) ≡ f (by es x) + sum_by f (each_by by plan xs) = sum_by-cons f (by es x) (each_by by plan xs) in
    let c : sum_by f (x ∷ xs) ≡ f x + sum_by f xs = sum_by-cons f x xs in
    omega (arith, one, rest, a, c)

as_long : {A E : Type 0} (by : List E → A → A) (xs : List A) (plan : List (List E)) → length plan ≡ length xs → length (each_by by plan xs) ≡ length xs
as_long by [] [] l = refl
as_long by [] (es ∷ plan) l = absurd (omega (arith, l))
as_long by (x ∷ xs) [] l = refl
as_long by (x ∷ xs) (es ∷ plan) l = ap suc (as_long by xs plan (omega (arith, l)))

same_sum : {A E : Type 0} (f : A → ℕ) (by : List E → A → A) (xs : List A) (plan : List (List E)) → length plan ≡ length xs
    → ((k : ℕ) (x : A) → slice_get xs k ≡ Some x → f (by (slice_index_or plan k []) x) ≡ f x) → sum_by f (each_by by plan xs) ≡ sum_by f xs
same_sum f by [] [] l h = refl
same_sum f by [] (es ∷ plan) l h = absurd (omega (arith, l))
same_sum f by (x ∷ xs) [] l h = absurd (omega (arith, l))
same_sum f by (x ∷ xs) (es ∷ plan) l h =
    let one : f (by es x) ≡ f x = h 0 x refl in
    let rest : sum_by f (each_by by plan xs) ≡ sum_by f xs = same_sum f by xs plan (omega (arith, l)) (λ k y e. h (suc k) y e) in
    let a : sum_by f (by es x ∷ each_by by plan xs) ≡ f (by es x) + sum_by f (each_by by plan xs) = sum_by-cons f (by es x) (each_by by plan xs) in
    let c : sum_by f (x ∷ xs) ≡ f x + sum_by f xs = sum_by-cons f x xs in
    omega (arith, one, rest, a, c)

-- ---- a program

abbrev Writes : MethodAt → Method → Body → List Edit → Type 0
Writes at m b es = All (IsFold b) es

module _ (admitted : List Bool) where
  code_lighter : (at : MethodAt) (m : Method) (admits : Bool) (o : Option Body) (es : List Edit) → HasEdits Writes admits at m o es → code_weight (code_edited es o) ≤ code_weight o
  code_lighter at m true (Some b) es h = body_lighter b es h
  code_lighter at m true None es h = omega arith
  code_lighter at m false (Some b) es h = subst (λ es. code_weight (code_edited es (Some b)) ≤ insns_weight b.insns) (sym h) (omega arith)
  code_lighter at m false None es h = omega arith

  method_lighter : (at : MethodAt) (m : Method) (admits : Bool) (es : List Edit) → HasEdits Writes admits at m m.body es → method_weight (method_by es m) ≤ method_weight m
  method_lighter at m admits [] h = omega arith
  method_lighter at m admits (e ∷ es) h = code_lighter at m admits m.body (e ∷ es) h

  class_lighter : (class : ℕ) (c : Class) (ps : List (List Edit)) → HasPlan Writes admitted class c.methods ps → class_weight (class_by ps c) ≤ class_weight c
  class_lighter class c ps h = at_most method_weight method_by c.methods ps h.long
      (λ k m e. method_lighter (record { class = class; place = word k }) m (slice_index_or admitted m.name false) (slice_index_or ps k []) (h.each k m (got_short c.methods k m e) e))

  class_sized : (class : ℕ) (c : Class) (ps : List (List Edit)) → HasPlan Writes admitted class c.methods ps → class_size (class_by ps c) ≡ class_size c
  class_sized class c ps h = ap (λ n. 1 + length c.fields + n) (as_long method_by c.methods ps h.long)

  module _ (p : Program) (c : Changed) (r : IsRewrittenBy Writes admitted p c) where
    program_lighter : weight_of (program_by r.plan p) ≤ weight_of p
    program_lighter = at_most class_weight class_by p.classes r.plan r.asked.long
        (λ k d e. class_lighter (word k) d (slice_index_or r.plan k []) (r.asked.each k d (got_short p.classes k d e) e))

    program_sized : size_of (program_by r.plan p) ≡ size_of p
    program_sized = same_sum class_size class_by p.classes r.plan r.asked.long
        (λ k d e. class_sized (word k) d (slice_index_or r.plan k []) (r.asked.each k d (got_short p.classes k d e) e))

    pub folded_weight : weight_of c.program ≤ weight_of p
    folded_weight = subst (λ q. weight_of q ≤ weight_of p) (sym r.written.program) program_lighter

    pub folded_size : size_of c.program ≡ size_of p
    folded_size = ap size_of r.written.program ∙ program_sized
