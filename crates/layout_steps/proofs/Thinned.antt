-- A program without some positions lays out.
use Rattle.std.proofs.Common.{◌≡◌, Bool, true, false, List, [], ◌∷◌, length, Option, Some, None, refl, sym, ap, ◌∙◌, subst, All}
use Rattle.std.specs.Prelude.{nat_eq, slice_index_or, if◌then◌else◌}
use Rattle.std.proofs.lemmas.Bool.{eq-eqb}
use Rattle.std.proofs.lemmas.List.Elements.{All-cons, All-head, All-tail}
use Rattle.lemmas.proofs.Bools.{clash}
use Rattle.program_model.specs.declared.body.Body.{Body}
use Rattle.program_model.specs.declared.pass.Changed.{Changed}
use Rattle.program_model.specs.declared.program.Class.{Class}
use Rattle.program_model.specs.declared.program.Method.{Method}
use Rattle.program_model.specs.declared.program.Program.{Program}
use Rattle.pass_defs.specs.Thinned.{body_thinned}
use Rattle.body_edit.specs.declared.fate.Fate.{Fate}
use Rattle.body_edit.specs.Fates.{fates_of}
use Rattle.thin_pass.specs.Wishing.{FatesIf, HasFates, is_small}
use Rattle.thin_pass.specs.Plans.{changed_in, lines_left, method_thinned, method_by, methods_by, class_by, classes_by, AreFor, AreForClasses, IsThinnedBy}
use Rattle.thin_pass.proofs.Lighter.{stay_changes}
use Rattle.bodies_kept.specs.Right.{fates_by}
use Rattle.bodies_kept.proofs.Chosen.{long}
use Rattle.dex_defs.specs.LaysOut.{LaysOutMethod, LaysOutBody, LaysOut}
use Rattle.layout_law.proofs.Thinned.{thinned_lays_out}
use Rattle.layout_law.proofs.Methods.{MethodLies, ClassLies}
use Rattle.layout_steps.proofs.Circles.{none_circles}

-- what fates leave of a method's code
abbrev code_left : List Fate → Option Body → Option Body
code_left fs None = None
code_left fs (Some b) = Some (body_thinned (fates_of fs) b)

code_is : (fs : List Fate) (m : Method) → (method_thinned fs m).body ≡ code_left fs m.body
code_is fs m = by m.body refl
  where
    by : (o : Option Body) → m.body ≡ o → (elim o as (λ o. Method) [ Some b ↦ record m { body = Some (body_thinned (fates_of fs) b); lines = lines_left fs m.lines } | None ↦ m ]).body ≡ code_left fs o
    by None e = e
    by (Some b) e = refl

module _ (wishes : Body → List Fate → Type 0) (admitted : List Bool) where
  code_lies : (a small : Bool) (o : Option Body) (fs : List Fate) → FatesIf wishes a small o fs → (changed_in fs ≡ 0 → ⊥) → LaysOutMethod o → LaysOutMethod (code_left fs o)
  code_lies a false o fs h d l = absurd (d (ap changed_in h))
  code_lies a true None fs h d l = tt
  code_lies false true (Some b) fs h d l = absurd (d (ap changed_in h ∙ stay_changes (length b.insns)))
  code_lies true true (Some b) fs h d l =
      let e : fates_by h.wished b ≡ fates_of fs = sym (ap fates_of h.fates) in
      subst (λ x. LaysOutBody (body_thinned x b)) e (thinned_lays_out (fates_by h.wished b) b (long b.insns h.wished) (none_circles h.wished b) l)

  method_lies : (m : Method) (fs : List Fate) → HasFates wishes admitted m fs → MethodLies m → MethodLies (method_by fs m)
  method_lies m fs h l = by (nat_eq (changed_in fs) 0) refl (λ d. subst LaysOutMethod (sym (code_is fs m)) (code_lies (slice_index_or admitted m.name false) (is_small m) m.body fs h d l))
    where
      by : (b : Bool) → nat_eq (changed_in fs) 0 ≡ b → ((changed_in fs ≡ 0 → ⊥) → MethodLies (method_thinned fs m)) → MethodLies (if b then m else method_thinned fs m)
      by true e later = l
      by false e later = later (λ z. clash (nat_eq (changed_in fs) 0) (eq-eqb (changed_in fs) 0 z) e)

  methods_lie : (ms : List Method) (plan : List (List Fate)) → AreFor (HasFates wishes admitted) ms plan → All MethodLies ms → All MethodLies (methods_by plan ms)
  methods_lie [] [] h a = a
  methods_lie [] (fs ∷ plan) h a = absurd h
  methods_lie (m ∷ ms) [] h a = absurd h
  methods_lie (m ∷ ms) (fs ∷ plan) h a = All-cons MethodLies (method_by fs m) (methods_by plan ms) (method_lies m fs h.0 (All-head MethodLies m ms a)) (methods_lie ms plan h.1 (All-tail MethodLies m ms a))

  classes_lie : (cs : List Class) (plan : List (List (List Fate))) → AreForClasses (HasFates wishes admitted) cs plan → All ClassLies cs → All ClassLies (classes_by plan cs)
  classes_lie [] [] h a = a
  classes_lie [] (ps ∷ plan) h a = absurd h
  classes_lie (c ∷ cs) [] h a = absurd h
  classes_lie (c ∷ cs) (ps ∷ plan) h a = All-cons ClassLies (class_by ps c) (classes_by plan cs) (methods_lie c.methods ps h.0 (All-head ClassLies c cs a)) (classes_lie cs plan h.1 (All-tail ClassLies c cs a))

  pub thinned_lies : (p : Program) (c : Changed) → IsThinnedBy wishes admitted p c → LaysOut p → LaysOut c.program
  thinned_lies p c h l = subst (λ (q : Program). LaysOut q) (sym h.program) (classes_lie p.classes h.plan h.fates l)
