-- What is written over a body by what was found and the typing that was asked for, and plans of it.
use Rattle.std.proofs.Common.{◌≡◌, ℕ, ◌<◌, ◌^◌, Bool, true, false, true≢false, List, [], length, Option, Some, None, Result, Ok, Err, refl, sym, ap, ◌∙◌, subst}
use Rattle.std.specs.Prelude.{All, IfOk, slice_index_or, if◌then◌else◌}
use Rattle.std.proofs.lemmas.List.Elements.{All-nil}
use Rattle.program_model.specs.declared.body.Body.{Body}
use Rattle.program_model.specs.declared.program.Class.{Class}
use Rattle.program_model.specs.declared.program.Method.{Method}
use Rattle.program_model.specs.declared.program.MethodAt.{MethodAt}
use Rattle.program_model.specs.declared.program.Program.{Program}
use Rattle.program_model.specs.ProgramRules.{is_well_formed}
use Rattle.class_defs.proofs.WellFormed.{few_classes}
use Rattle.hierarchy.specs.Shapes.{IsResolved}
use Rattle.hierarchy.specs.declared.build.Hierarchy.{Hierarchy}
use Rattle.facts.specs.declared.facts.Facts.{Facts}
use Rattle.verify.specs.declared.typed.Verifier.{Verifier}
use Rattle.verify.specs.Methods.{IsFor}
use Rattle.verify.specs.Typings.{Table}
use Rattle.rewrite_pass.specs.declared.edit.Edit.{Edit}
use Rattle.rewrite_pass.specs.Plans.{HasEdits, HasPlan, IsPlan, word}
use Rattle.receivers.specs.Receiving.{IsFinding}
use Rattle.devirt.specs.declared.pass.Rebinding.{Rebinding}
use Rattle.devirt.specs.Asked.{IsGraphed, IsBinding, IsAsked, IsJudgedBy, ReboundWell}
use Rattle.devirt.specs.Rebound.{AreRebindings, AreRebindingsIn, IsJudged, IsRebinding, IsRebindingPlan, IsRecalledAt, edits_from, edits_of, is_any_open, is_numbered, typed_edits}
use Rattle.devirt.proofs.Written.{each_right}

-- two things that are known of an answer, the second one by a premise
pub ok_both : {T E : Type 0} (r : Result T E) (P Q S : T → Type 0) (B : Type 0) → ((v : T) → P v → (B → Q v) → S v) → IfOk r P → (B → IfOk r Q) → IfOk r S
ok_both (Ok v) P Q S B h p q = h v p q
ok_both (Err e) P Q S B h p q = tt

judged_for : (p : Program) (h : Hierarchy) (v : Verifier) (at : MethodAt) (t : Option Table) → IsFor p h v → IsJudgedBy v at t → IsJudged p h at t
judged_for p h v at (Some x) f j = record { verifier = v; is = f; types = j }
judged_for p h v at None f j = (j.0, j.1, j.2, record { verifier = v; is = f; refuses = j.3 })

module _ (p : Program) (h : Hierarchy) (facts : Facts) (at : MethodAt) (m : Method) (b : Body) where
  each_typed : IsResolved p h → (t : Option Table) → AreRebindingsIn p facts t at m b (typed_edits p facts at.class m.name b t)
  each_typed r None = refl
  each_typed r (Some x) = by (is_numbered b)
    where
      by : (c : Bool) → All (IsRebinding p facts x at m b) (if c then edits_from p facts at.class m.name x 0 b.insns else [])
      by true = each_right p r.of.ranked facts at.class m.name x b
      by false = All-nil (IsRebinding p facts x at m b)

  none_in : (t : Option Table) → AreRebindingsIn p facts t at m b []
  none_in None = refl
  none_in (Some x) = All-nil (IsRebinding p facts x at m b)

  each_of : IsResolved p h → (t : Option Table) → AreRebindingsIn p facts t at m b (edits_of p facts at.class m.name b t)
  each_of r t = by (is_any_open p b)
    where
      by : (c : Bool) → AreRebindingsIn p facts t at m b (if c then typed_edits p facts at.class m.name b t else [])
      by true = each_typed r t
      by false = none_in t

-- nothing is written where no call is open
pub closed_well : (s : Rebinding) (at : MethodAt) (m : Method) (b : Body) (es : List Edit) → es ≡ [] → (IsBinding s.binder → is_any_open s.binder.finder.program.now b ≡ false) → IsAsked s
    → ReboundWell s.binder.finder.program.now s.binder.finder.hierarchy.now s.facts.now at m b es
closed_well s at m b es e closed asked = record {
  becomes = subst (All (IsRecalledAt b)) (sym e) (All-nil (IsRecalledAt b));
  rebound = λ g. by (closed (asked.finds g));
}
  where
    p : Program
    p = s.binder.finder.program.now

    by : is_any_open p b ≡ false → AreRebindings p s.binder.finder.hierarchy.now s.facts.now at m b es
    by f = record {
      table = None;
      judged = λ y. absurd (true≢false (sym y ∙ f));
      are = e ∙ sym (ap (λ c. if c then typed_edits p s.facts.now at.class m.name b None else []) f);
      each = e;
    }

-- and what is written where one is
pub open_well : (s : Rebinding) (at : MethodAt) (m : Method) (b : Body) (t : Option Table) (es : List Edit) → All (IsRecalledAt b) es → (IsBinding s.binder → is_any_open s.binder.finder.program.now b ≡ true)
    → (IsBinding s.binder → es ≡ typed_edits s.binder.finder.program.now s.facts.now at.class m.name b t) → IsJudgedBy s.verifier at t → IsAsked s
    → ReboundWell s.binder.finder.program.now s.binder.finder.hierarchy.now s.facts.now at m b es
open_well s at m b t es becomes opened are judged asked = record {
  becomes = becomes;
  rebound = λ g. by g.1 (opened (asked.finds g)) (are (asked.finds g));
}
  where
    p : Program
    p = s.binder.finder.program.now

    h : Hierarchy
    h = s.binder.finder.hierarchy.now

    by : IsResolved p h → is_any_open p b ≡ true → es ≡ typed_edits p s.facts.now at.class m.name b t → AreRebindings p h s.facts.now at m b es
    by r f e =
        let is : es ≡ edits_of p s.facts.now at.class m.name b t = e ∙ sym (ap (λ c. if c then typed_edits p s.facts.now at.class m.name b t else []) f) in
        record {
          table = t;
          judged = λ y. judged_for p h s.verifier at t asked.typed judged;
          are = is;
          each = subst (AreRebindingsIn p s.facts.now t at m b) (sym is) (each_of p h s.facts.now at m b r t);
        }

-- ---- plans

module _ (W V : MethodAt → Method → Body → List Edit → Type 0) (weaker : (at : MethodAt) (m : Method) (b : Body) (es : List Edit) → W at m b es → V at m b es) (admitted : List Bool) where
  edits_weaker : (adm : Bool) (at : MethodAt) (m : Method) (o : Option Body) (es : List Edit) → HasEdits W adm at m o es → HasEdits V adm at m o es
  edits_weaker true at m (Some b) es h = weaker at m b es h
  edits_weaker true at m None es h = h
  edits_weaker false at m (Some b) es h = h
  edits_weaker false at m None es h = h

  methods_weaker : (class : ℕ) (ms : List Method) (plan : List (List Edit)) → HasPlan W admitted class ms plan → HasPlan V admitted class ms plan
  methods_weaker class ms plan h = record {
    long = h.long;
    each = λ k m lt e. edits_weaker (slice_index_or admitted m.name false) (record { class = class; place = word k }) m m.body (slice_index_or plan k []) (h.each k m lt e);
  }

  pub plan_weaker : (cs : List Class) (plan : List (List (List Edit))) → IsPlan W admitted cs plan → IsPlan V admitted cs plan
  plan_weaker cs plan h = record { long = h.long; each = λ k c lt e. methods_weaker (word k) c.methods (slice_index_or plan k []) (h.each k c lt e) }

module _ (p : Program) (h : Hierarchy) (facts : Facts) (admitted : List Bool) (plan : List (List (List Edit))) (all : IsPlan (ReboundWell p h facts) admitted p.classes plan) where
  pub plan_becomes : IsPlan (λ at m b es. All (IsRecalledAt b) es) admitted p.classes plan
  plan_becomes = plan_weaker (ReboundWell p h facts) (λ at m b es. All (IsRecalledAt b) es) (λ at m b es w. w.becomes) admitted p.classes plan all

  pub plan_rebound : IsGraphed p h → IsRebindingPlan p h facts admitted plan
  plan_rebound g = plan_weaker (ReboundWell p h facts) (AreRebindings p h facts) (λ at m b es w. w.rebound g) admitted p.classes plan all

-- ---- what is asked is of the program

pub asked_so : (s : Rebinding) (p : Program) (h : Hierarchy) → s.binder.finder.program.now ≡ p → s.binder.finder.hierarchy.now ≡ h → IsFor p h s.verifier
    → (IsResolved p h → length p.classes < 2 ^ 32 → IsFinding s.binder.finder) → IsAsked s
asked_so s p h e f typed finds = record {
  typed = subst (λ q. IsFor q s.binder.finder.hierarchy.now s.verifier) (sym e) (subst (λ k. IsFor p k s.verifier) (sym f) typed);
  finds = λ g.
      let well : is_well_formed p ≡ true = subst (λ q. is_well_formed q ≡ true) e g.0 in
      let resolved : IsResolved p h = subst (λ k. IsResolved p k) f (subst (λ q. IsResolved q s.binder.finder.hierarchy.now) e g.1) in
      record { finding = finds resolved (few_classes p well); formed = g.0 };
}

pub plan_of : (p q : Program) (h k : Hierarchy) (facts : Facts) (admitted : List Bool) (cs : List Class) (plan : List (List (List Edit))) → q ≡ p → k ≡ h
    → IsPlan (ReboundWell q k facts) admitted cs plan → IsPlan (ReboundWell p h facts) admitted cs plan
plan_of p q h k facts admitted cs plan e f all = subst (λ r. IsPlan (ReboundWell r h facts) admitted cs plan) e (subst (λ g. IsPlan (ReboundWell q g facts) admitted cs plan) f all)
