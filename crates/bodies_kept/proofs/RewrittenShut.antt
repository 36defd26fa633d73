-- A program in which quiet instructions are written over others says no more.
use Rattle.std.proofs.Common.{◌≡◌, ℕ, zero, suc, Bool, true, false, List, [], ◌∷◌, Option, Some, None, refl, sym, ap, ◌∙◌, subst, arith}
use Rattle.std.specs.Prelude.{◌||◌, length, is_some, slice_get, slice_set, slice_index_or}
use Rattle.std.specs.List.{list_any}
use Rattle.lemmas.proofs.Lists.{got_short}
use Rattle.insn_set.specs.declared.form.Insn.{Insn}
use Rattle.program_model.specs.declared.body.Body.{Body}
use Rattle.program_model.specs.declared.pass.Changed.{Changed}
use Rattle.program_model.specs.declared.program.Class.{Class}
use Rattle.program_model.specs.declared.program.Method.{Method}
use Rattle.program_model.specs.declared.program.MethodAt.{MethodAt}
use Rattle.program_model.specs.declared.program.Program.{Program}
use Rattle.dalvik_defs.specs.Naming.{form_of, named_method, named_class, named}
use Rattle.dalvik_defs.specs.Outer.{Outer}
use Rattle.dalvik_defs.specs.Silence.{key_in}
use Rattle.dalvik_defs.specs.declared.names.MethodKey.{MethodKey}
use Rattle.removal_law.specs.Left.{In, here, there}
use Rattle.removal_law.specs.Reach.{ShutsHold}
use Rattle.program_laws.specs.Others.{Pairwise}
use Rattle.program_laws.specs.Numbered.{OtherNumberedMethod, OtherNumberedClass, OtherNumberedBodies}
use Rattle.program_laws.specs.Said.{Said, Quiet, said}
use Rattle.program_laws.proofs.Numbered.{says, mapped}
use Rattle.program_laws.proofs.Thinned.{or_rest, or_right}
use Rattle.rewrite_pass.specs.declared.edit.Edit.{Edit}
use Rattle.rewrite_pass.specs.Plans.{edited, code_edited, method_by, each_by, class_by, word, HasEdits, HasPlan, IsRewrittenBy}
use Rattle.bodies_kept.proofs.PassesShut.{SaysBy, by_number}

-- an instruction that makes no object and calls nothing by its receiver, unless a class of the program has it
abbrev pub IsQuiet : Program → Insn → Type 0
IsQuiet p i = said (named p) (form_of p i) ≡ Quiet

module _ (p : Program) where
  -- ---- in a body

  module _ (test : Said → Bool) (quiet : test Quiet ≡ false) where
    set_says : (is : List Insn) (n : ℕ) (i : Insn) → IsQuiet p i → list_any (says p test) (slice_set is n i) ≡ true → list_any (says p test) is ≡ true
    set_says [] n i q e = e
    set_says (x ∷ is) zero i q e = or_right (says p test x) (list_any (says p test) is) (sym (ap (λ b. b || list_any (says p test) is) (ap test q ∙ quiet)) ∙ e)
    set_says (x ∷ is) (suc n) i q e = or_rest (says p test x) (list_any (says p test) (slice_set is n i)) (list_any (says p test) is) (set_says is n i q) e

    edited_says : (es : List Edit) (is : List Insn) → ((e : Edit) → In e es → IsQuiet p e.insn) → list_any (says p test) (edited es is) ≡ true → list_any (says p test) is ≡ true
    edited_says [] is q e = e
    edited_says (x ∷ es) is q e = set_says is x.position x.insn (q x (here es)) (edited_says es (slice_set is x.position x.insn) (λ y i. q y (there x es i)) e)

  code_says : (k : MethodKey) (es : List Edit) (o : Option Body) → ((e : Edit) → In e es → IsQuiet p e.insn) → SaysBy p k o (code_edited es o)
  code_says k es None q test quiet e = e
  code_says k es (Some b) q test quiet e = mapped p test b.insns ∙ edited_says test quiet es b.insns q (sym (mapped p test (edited es b.insns)) ∙ e)

  code_there : (es : List Edit) (o : Option Body) → is_some (code_edited es o) ≡ is_some o
  code_there es None = refl
  code_there es (Some b) = refl

-- ---- along a plan

each_pairs : {A E : Type 0} (by : List E → A → A) (R : A → A → Type 0) (P : ℕ → A → List E → Type 0) → ((k : ℕ) (x : A) (es : List E) → P k x es → R x (by es x))
    → (xs : List A) (plan : List (List E)) → length plan ≡ length xs → ((k : ℕ) (x : A) → slice_get xs k ≡ Some x → P k x (slice_index_or plan k [])) → Pairwise R xs (each_by by plan xs)
each_pairs by R P one [] [] l h = tt
each_pairs by R P one [] (es ∷ plan) l h = absurd (omega (arith, l))
each_pairs by R P one (x ∷ xs) [] l h = absurd (omega (arith, l))
each_pairs by R P one (x ∷ xs) (es ∷ plan) l h =
    (one 0 x es (h 0 x refl), each_pairs by R (λ k. P (suc k)) (λ k. one (suc k)) xs plan (omega (arith, l)) (λ k y e. h (suc k) y e))

module _ (writes : MethodAt → Method → Body → List Edit → Type 0) (admitted : List Bool) (p : Program)
    (quiet : (at : MethodAt) (m : Method) (b : Body) (es : List Edit) → writes at m b es → (e : Edit) → In e es → IsQuiet p e.insn)
  where
    none_in : (es : List Edit) → es ≡ [] → (e : Edit) → In e es → IsQuiet p e.insn
    none_in es same e i = elim (subst (In e) same i) [ ]

    all_quiet : (on : Bool) (at : MethodAt) (m : Method) (o : Option Body) (es : List Edit) → HasEdits writes on at m o es → (e : Edit) → In e es → IsQuiet p e.insn
    all_quiet true at m (Some b) es h = quiet at m b es h
    all_quiet true at m None es h = none_in es h
    all_quiet false at m (Some b) es h = none_in es h
    all_quiet false at m None es h = none_in es h

    method_says : (c : Class) (at : MethodAt) (m : Method) (es : List Edit) → HasEdits writes (slice_index_or admitted m.name false) at m m.body es → OtherNumberedMethod (SaysBy p) p c m (method_by es m)
    method_says c at m [] h = record { same = refl; coded = refl; related = λ test q e. e }
    method_says c at m (x ∷ es) h = record {
      same = refl;
      coded = code_there p (x ∷ es) m.body;
      related = code_says p (key_in (named_class p c) (named_method p m)) (x ∷ es) m.body (all_quiet (slice_index_or admitted m.name false) at m m.body (x ∷ es) h);
    }

    class_says : (class : ℕ) (c : Class) (ps : List (List Edit)) → HasPlan writes admitted class c.methods ps → OtherNumberedClass (SaysBy p) p c (class_by ps c)
    class_says class c ps h = record {
      same = refl;
      methods = each_pairs method_by (OtherNumberedMethod (SaysBy p) p c) (λ k (m : Method) es. HasEdits writes (slice_index_or admitted m.name false) (record { class = class; place = word k }) m m.body es)
          (λ k m es i. method_says c (record { class = class; place = word k }) m es i) c.methods ps h.long (λ k m e. h.each k m (got_short c.methods k m e) e);
    }

    rewritten_others : (c : Changed) → IsRewrittenBy writes admitted p c → OtherNumberedBodies (SaysBy p) p c.program
    rewritten_others c r = subst (λ (q : Program). OtherNumberedBodies (SaysBy p) p q) (sym r.written.program) (record {
      same = refl;
      classes = each_pairs class_by (OtherNumberedClass (SaysBy p) p) (λ k (c : Class) ps. HasPlan writes admitted (word k) c.methods ps) (λ k c ps i. class_says (word k) c ps i) p.classes r.plan
          r.asked.long (λ k c e. r.asked.each k c (got_short p.classes k c e) e);
    })

    pub rewritten_keeps : (c : Changed) (o : Outer) → IsRewrittenBy writes admitted p c → ShutsHold (named p) o → ShutsHold (named c.program) o
    rewritten_keeps c o r = by_number p c.program o (rewritten_others c r)
