-- A program stays where instructions are written over others.
use Rattle.std.proofs.Common.{◌≡◌, ℕ, zero, suc, ◌+◌, Bool, true, false, true≢false, List, [], ◌∷◌, Option, Some, None, refl, sym, ◌∙◌, subst, arith}
use Rattle.std.specs.Prelude.{length, slice_get, slice_index_or}
use Rattle.lemmas.proofs.Lists.{got_short}
use Rattle.lemmas.proofs.Options.{some_same, none_some}
use Rattle.program_model.specs.declared.body.Body.{Body}
use Rattle.program_model.specs.declared.pass.Changed.{Changed}
use Rattle.program_model.specs.declared.program.Class.{Class}
use Rattle.program_model.specs.declared.program.Method.{Method}
use Rattle.program_model.specs.declared.program.MethodAt.{MethodAt}
use Rattle.program_model.specs.declared.program.Program.{Program}
use Rattle.rewrite_pass.specs.declared.edit.Edit.{Edit}
use Rattle.rewrite_pass.specs.Plans.{code_edited, method_by, each_by, class_by, word, HasEdits, HasPlan, IsRewrittenBy}
use Rattle.bodies_kept.specs.Stays.{Stands, NoMoreRegisters, MethodStays, ClassStays, Stays}
use Rattle.bodies_kept.proofs.Staying.{method_same}

cons_none : {A B : Type 0} (x : A) (xs : List A) → x ∷ xs ≡ [] → B
cons_none x xs e = absurd (cc)

-- what stands in a list that is changed by a plan comes of what stood at its place
in_plan : {A E : Type 0} (by : List E → A → A) (plan : List (List E)) (xs : List A) → length plan ≡ length xs → (k : ℕ) (y : A) → slice_get (each_by by plan xs) k ≡ Some y
    → (x : A) × ((slice_get xs k ≡ Some x) × (by (slice_index_or plan k []) x ≡ y))
in_plan by [] [] l k y e = none_some y e
in_plan by [] (x ∷ xs) l k y e = absurd (omega (arith, l))
in_plan by (es ∷ plan) [] l k y e = absurd (omega (arith, l))
in_plan by (es ∷ plan) (x ∷ xs) l zero y e = (x, (refl, some_same (by es x) y e))
in_plan by (es ∷ plan) (x ∷ xs) l (suc k) y e = in_plan by plan xs (omega (arith, l)) k y e

edited_registers : (es : List Edit) (o : Option Body) → NoMoreRegisters o (code_edited es o)
edited_registers es None = tt
edited_registers es (Some b) = (omega arith, refl)

module _ (writes : MethodAt → Method → Body → List Edit → Type 0) (admitted : List Bool) where
  none_refused : (a : Bool) → a ≡ false → (at : MethodAt) (m : Method) (o : Option Body) (es : List Edit) → HasEdits writes a at m o es → es ≡ []
  none_refused true e at m o es h = absurd (true≢false e)
  none_refused false e at m None es h = h
  none_refused false e at m (Some b) es h = h

  edited_method : (at : MethodAt) (m : Method) (es : List Edit) → HasEdits writes (slice_index_or admitted m.name false) at m m.body es → MethodStays admitted m (method_by es m)
  edited_method at m [] h = method_same admitted m
  edited_method at m (e ∷ es) h = record {
    rest = refl;
    refused = λ no. cons_none e es (none_refused (slice_index_or admitted m.name false) no at m m.body (e ∷ es) h);
    registers = edited_registers (e ∷ es) m.body;
  }

  edited_class : (class : ℕ) (c : Class) (ps : List (List Edit)) → HasPlan writes admitted class c.methods ps → ClassStays admitted c (class_by ps c)
  edited_class class c ps h = record {
    rest = refl;
    fields = λ f s. s;
    methods = λ n s.
        let m = in_plan method_by ps c.methods h.long s.0 n s.1 in (
          m.0,
          (
            (s.0, m.1.0),
            subst (λ n. MethodStays admitted m.0 n) m.1.1
                (edited_method (record { class = class; place = word s.0 }) m.0 (slice_index_or ps s.0 []) (h.each s.0 m.0 (got_short c.methods s.0 m.0 m.1.0) m.1.0)),
          ),
        );
  }

  pub rewritten_stays : (p : Program) (c : Changed) → IsRewrittenBy writes admitted p c → Stays admitted p c.program
  rewritten_stays p c r = subst (λ (q : Program). Stays admitted p q) (sym r.written.program) (record {
    rest = refl;
    classes = λ d s.
        let k = in_plan class_by r.plan p.classes r.asked.long s.0 d s.1 in (
          k.0,
          (
            (s.0, k.1.0),
            subst (λ d. ClassStays admitted k.0 d) k.1.1
                (edited_class (word s.0) k.0 (slice_index_or r.plan s.0 []) (r.asked.each s.0 k.0 (got_short p.classes s.0 k.0 k.1.0) k.1.0)),
          ),
        );
  })
