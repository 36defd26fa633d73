-- What is written over a body, by what was found, the typing that was asked for and what the kinds allow of it.
use Rattle.std.proofs.Common.{◌≡◌, Bool, true, List, Option, Some, None, sym, ap, ◌∙◌, subst}
use Rattle.std.specs.Prelude.{All}
use Rattle.std.specs.List.{list_any}
use Rattle.program_model.specs.declared.body.Body.{Body}
use Rattle.program_model.specs.declared.program.Method.{Method}
use Rattle.program_model.specs.declared.program.MethodAt.{MethodAt}
use Rattle.program_model.specs.declared.program.Program.{Program}
use Rattle.hierarchy.specs.Shapes.{IsResolved}
use Rattle.hierarchy.specs.declared.build.Hierarchy.{Hierarchy}
use Rattle.facts.specs.declared.facts.Facts.{Facts}
use Rattle.dom_frame.specs.Classes.{AreClasses}
use Rattle.dom_frame.specs.declared.classes.Classes.{Classes}
use Rattle.rewrite_pass.specs.declared.edit.Edit.{Edit}
use Rattle.rewrite_pass.specs.Plans.{IsPlan}
use Rattle.verify.specs.declared.typed.Verifier.{Verifier}
use Rattle.verify.specs.Methods.{IsFor}
use Rattle.verify.specs.Typings.{Table}
use Rattle.const_prop.specs.declared.folding.Fold.{Fold}
use Rattle.const_prop.specs.declared.results.Results.{Results}
use Rattle.const_prop.specs.Allowed.{IsFold}
use Rattle.const_prop.specs.Asked.{IsKnown}
use Rattle.const_prop.specs.Folded.{IsFound}
use Rattle.const_prop.specs.Folded as folded
use Rattle.const_prop.specs.Folds.{folds_of, is_asked, edits_of, IsJudgedBy, IsJudged, AreFolds, FoldsWell, IsFoldPlan}
use Rattle.const_prop.proofs.Found.{edits_right, edits_become}
use Rattle.const_prop.proofs.Plans.{plan_weaker}

judged_for : (p : Program) (h : Hierarchy) (v : Verifier) (at : MethodAt) (t : Option Table) → IsFor p h v → IsJudgedBy v at t → IsJudged p h at t
judged_for p h v at (Some x) f j = record { verifier = v; is = f; types = j }
judged_for p h v at None f j = record { method = j.method; position = j.position; register = j.register; refuses = record { verifier = v; is = f; refuses = j.refuses } }

pub folds_well : (s : Results) (v : Verifier) (at : MethodAt) (m : Method) (b : Body) (xs : List Fold) (t : Option Table) (es : List Edit) → IsFor s.program.now s.hierarchy.now v → All (IsFound b) xs
    → (IsKnown s → xs ≡ folds_of s.program.now s.facts.now at.class m.name b) → (list_any (is_asked b) xs ≡ true → IsJudgedBy v at t) → es ≡ edits_of t b xs
    → FoldsWell s.program.now s.hierarchy.now s.facts.now s.classes at m b es
folds_well s v at m b xs t es f found are judged e = record {
  becomes = subst (All (folded.IsFold b)) (sym e) (edits_become b t xs found);
  folds = λ r a. by (are (record { resolved = r; classes = a }));
}
  where
    by : xs ≡ folds_of s.program.now s.facts.now at.class m.name b → AreFolds s.program.now s.hierarchy.now s.facts.now at m b es
    by i = record {
      table = t;
      judged = λ y. judged_for s.program.now s.hierarchy.now v at t f (judged (ap (list_any (is_asked b)) i ∙ y));
      are = e ∙ ap (edits_of t b) i;
      each = subst (All (IsFold s.program.now s.facts.now t at m b)) (sym e) (edits_right s.program.now s.facts.now at.class m.name b t xs found i);
    }

module _ (p : Program) (h : Hierarchy) (facts : Facts) (classes : Classes) (admitted : List Bool) (plan : List (List (List Edit))) (all : IsPlan (FoldsWell p h facts classes) admitted p.classes plan) where
  pub plan_becomes : IsPlan (λ at m b es. All (folded.IsFold b) es) admitted p.classes plan
  plan_becomes = plan_weaker (FoldsWell p h facts classes) (λ at m b es. All (folded.IsFold b) es) (λ at m b es w. w.becomes) admitted p.classes plan all

  pub plan_folds : IsResolved p h → AreClasses p classes → IsFoldPlan p h facts admitted plan
  plan_folds r a = plan_weaker (FoldsWell p h facts classes) (AreFolds p h facts) (λ at m b es w. w.folds r a) admitted p.classes plan all
