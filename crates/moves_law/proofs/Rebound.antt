-- A program whose calls name other methods has as many members, and instructions that weigh as much and are as open.
use Rattle.std.proofs.Common.{◌≡◌, ℕ, zero, suc, ◌+◌, Bool, true, false, List, [], ◌∷◌, All, length, Option, Some, None, refl, sym, ap, ap₂, ◌∙◌, subst, arith}
use Rattle.std.specs.Prelude.{sum_by, slice_get, slice_index_or, slice_set}
use Rattle.std.proofs.lemmas.List.Elements.{All-head, All-tail}
use Rattle.std.proofs.lemmas.List.Sums.{sum_by-cons}
use Rattle.lemmas.proofs.Lists.{got_short}
use Rattle.lemmas.proofs.Options.{none_some, some_same}
use Rattle.insn_set.specs.declared.form.Insn.{Insn}
use Rattle.insn_set.specs.declared.form.Insn.TheVariants as insn
use Rattle.program_model.specs.declared.body.Body.{Body}
use Rattle.program_model.specs.declared.pass.Changed.{Changed}
use Rattle.program_model.specs.declared.program.Class.{Class}
use Rattle.program_model.specs.declared.program.Method.{Method}
use Rattle.program_model.specs.declared.program.MethodAt.{MethodAt}
use Rattle.program_model.specs.declared.program.Program.{Program}
use Rattle.reach.specs.Kept.{class_size, size_of}
use Rattle.thin_pass.specs.Weights.{weight, insns_weight, code_weight, method_weight, class_weight, weight_of}
use Rattle.rewrite_pass.specs.declared.edit.Edit.{Edit}
use Rattle.rewrite_pass.specs.Plans.{edited, code_edited, method_by, each_by, class_by, program_by, word, HasEdits, HasPlan, IsRewrittenBy}
use Rattle.const_prop.specs.Measure.{open_form, open_insns, open_code, open_method, open_class, open_forms}
use Rattle.devirt.specs.Rebound.{IsRecalled, IsRecalledAt}

-- ---- a body, by any weight that each call has

module _ (f : Insn → ℕ) (all : List Insn → ℕ) (step : (i : Insn) (is : List Insn) → all (i ∷ is) ≡ f i + all is) (calls : (i j : Insn) → IsRecalled i j → f j ≡ f i) where
  abbrev AreAlike : List Insn → List Insn → Type 0
  AreAlike [] [] = Unit {0}
  AreAlike [] (i ∷ is) = ⊥
  AreAlike (j ∷ js) [] = ⊥
  AreAlike (j ∷ js) (i ∷ is) = (f j ≡ f i) × AreAlike js is

  alike_self : (is : List Insn) → AreAlike is is
  alike_self [] = tt
  alike_self (i ∷ is) = (refl, alike_self is)

  all_alike : (js is : List Insn) → AreAlike js is → all js ≡ all is
  all_alike [] [] l = refl
  all_alike [] (i ∷ is) l = absurd l
  all_alike (j ∷ js) [] l = absurd l
  all_alike (j ∷ js) (i ∷ is) l = step j js ∙ ap₂ (λ x y. x + y) l.0 (all_alike js is l.1) ∙ sym (step i is)

  set_alike : (js is : List Insn) (n : ℕ) (i g : Insn) → AreAlike js is → slice_get is n ≡ Some i → f g ≡ f i → AreAlike (slice_set js n g) is
  set_alike [] [] n i g l e h = none_some i e
  set_alike [] (x ∷ is) n i g l e h = absurd l
  set_alike (j ∷ js) [] n i g l e h = absurd l
  set_alike (j ∷ js) (x ∷ is) zero i g l e h = (h ∙ sym (ap f (some_same x i e)), l.1)
  set_alike (j ∷ js) (x ∷ is) (suc n) i g l e h = (l.0, set_alike js is n i g l.1 e h)

  edited_alike : (b : Body) (es : List Edit) (js : List Insn) → AreAlike js b.insns → All (IsRecalledAt b) es → AreAlike (edited es js) b.insns
  edited_alike b [] js l h = l
  edited_alike b (e ∷ es) js l h =
      let one : IsRecalledAt b e = All-head (IsRecalledAt b) e es h in
      edited_alike b es (slice_set js e.position e.insn) (set_alike js b.insns e.position one.form e.insn l one.there (calls one.form e.insn one.recalled)) (All-tail (IsRecalledAt b) e es h)

  pub body_alike : (b : Body) (es : List Edit) → All (IsRecalledAt b) es → all (edited es b.insns) ≡ all b.insns
  body_alike b es h = all_alike (edited es b.insns) b.insns (edited_alike b es b.insns (alike_self b.insns) h)

heavy : (i j : Insn) → IsRecalled i j → weight j ≡ weight i
heavy i j r = ap weight r.new ∙ sym (ap weight r.form)

open_call : (i j : Insn) → IsRecalled i j → open_form j ≡ open_form i
open_call i j r = ap open_form r.new ∙ sym (ap open_form r.form)

-- ---- lists by a plan

same_sum : {A E : Type 0} (f : A → ℕ) (by : List E → A → A) (xs : List A) (plan : List (List E)) → length plan ≡ length xs
    → ((k : ℕ) (x : A) → slice_get xs k ≡ Some x → f (by (slice_index_or plan k []) x) ≡ f x) → sum_by f (each_by by plan xs) ≡ sum_by f xs
same_sum f by [] [] l h = refl
same_sum f by [] (es ∷ plan) l h = absurd (omega (arith, l))
same_sum f by (x ∷ xs) [] l h = absurd (omega (arith, l))
same_sum f by (x ∷ xs) (es ∷ plan) l h =
    let one : f (by es x) ≡ f x = h 0 x refl in
    let rest : sum_by f (each_by by plan xs) ≡ sum_by f xs = same_sum f by xs plan (omega (arith, l)) (λ k y e. h (suc k) y e) in
    let a : sum_by f (by es x ∷ each_by by plan xs) ≡ f (by es x) + sum_by f (each_by by plan xs) = sum_by-cons f (by es x) (each_by by plan xs) in
    let c : sum_by f (x ∷ xs) ≡ f x + sum_by f xs = sum_by-cons f x xs in
    omega (arith, one, rest, a, c)

as_long : {A E : Type 0} (by : List E → A → A) (xs : List A) (plan : List (List E)) → length plan ≡ length xs → length (each_by by plan xs) ≡ length xs
as_long by [] [] l = refl
as_long by [] (es ∷ plan) l = absurd (omega (arith, l))
as_long by (x ∷ xs) [] l = refl
as_long by (x ∷ xs) (es ∷ plan) l = ap suc (as_long by xs plan (omega (arith, l)))

-- ---- a program

abbrev Writes : MethodAt → Method → Body → List Edit → Type 0
Writes at m b es = All (IsRecalledAt b) es

module _ (admitted : List Bool) where
  module _ (code : Option Body → ℕ) (same : (b : Body) (es : List Edit) → All (IsRecalledAt b) es → code (code_edited es (Some b)) ≡ code (Some b)) where
    code_same : (at : MethodAt) (m : Method) (admits : Bool) (o : Option Body) (es : List Edit) → HasEdits Writes admits at m o es → code (code_edited es o) ≡ code o
    code_same at m true (Some b) es h = same b es h
    code_same at m true None es h = refl
    code_same at m false (Some b) es h = ap (λ es. code (code_edited es (Some b))) h
    code_same at m false None es h = refl

    method_same : (at : MethodAt) (m : Method) (admits : Bool) (es : List Edit) → HasEdits Writes admits at m m.body es → code (method_by es m).body ≡ code m.body
    method_same at m admits [] h = refl
    method_same at m admits (e ∷ es) h = code_same at m admits m.body (e ∷ es) h

    class_same : (class : ℕ) (c : Class) (ps : List (List Edit)) → HasPlan Writes admitted class c.methods ps → sum_by (λ (m : Method). code m.body) (class_by ps c).methods ≡ sum_by (λ (m : Method). code m.body) c.methods
    class_same class c ps h = same_sum (λ (m : Method). code m.body) method_by c.methods ps h.long
        (λ k m e. method_same (record { class = class; place = word k }) m (slice_index_or admitted m.name false) (slice_index_or ps k []) (h.each k m (got_short c.methods k m e) e))

  class_sized : (class : ℕ) (c : Class) (ps : List (List Edit)) → HasPlan Writes admitted class c.methods ps → class_size (class_by ps c) ≡ class_size c
  class_sized class c ps h = ap (λ n. 1 + length c.fields + n) (as_long method_by c.methods ps h.long)

  module _ (p : Program) (c : Changed) (r : IsRewrittenBy Writes admitted p c) where
    of_classes : (f : Class → ℕ) → ((class : ℕ) (d : Class) (ps : List (List Edit)) → HasPlan Writes admitted class d.methods ps → f (class_by ps d) ≡ f d) → sum_by f (program_by r.plan p).classes ≡ sum_by f p.classes
    of_classes f one = same_sum f class_by p.classes r.plan r.asked.long (λ k d e. one (word k) d (slice_index_or r.plan k []) (r.asked.each k d (got_short p.classes k d e) e))

    pub rebound_weight : weight_of c.program ≡ weight_of p
    rebound_weight = ap weight_of r.written.program ∙ of_classes class_weight (class_same code_weight (body_alike weight insns_weight (λ i is. refl) heavy))

    pub rebound_open : open_forms c.program ≡ open_forms p
    rebound_open = ap open_forms r.written.program ∙ of_classes open_class (class_same open_code (body_alike open_form open_insns (λ i is. refl) open_call))

    pub rebound_size : size_of c.program ≡ size_of p
    rebound_size = ap size_of r.written.program ∙ of_classes class_size class_sized
