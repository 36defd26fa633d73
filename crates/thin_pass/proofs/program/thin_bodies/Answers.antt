use Rattle.std.proofs.Common.{List, Bool, ap, ◌∙◌, subst}
use Rattle.program_model.specs.Cells.{capped}
use Rattle.program_model.specs.declared.program.Program.{Program}
use Rattle.body_edit.specs.declared.fate.Fate.{Fate}
use Rattle.thin_pass.specs.Wishing.{HasFates}
use Rattle.thin_pass.specs.Plans.{AreForClasses, all_changes, program_origins}
use Rattle.thin_pass.proofs.Planning.{long_program}
use Rattle.thin_pass.proofs.program.thin_bodies.Goals as goal

pub changed_origins-requires-clause-long : goal.changed_origins-requires-clause-long
changed_origins-requires-clause-long g c = long_program (HasFates (g.T.Thinning.wishes c.args.pass.now) c.deref.result.now) c.args.program.classes c.thin_all.new.program.classes c.in_ok-plan.plan c.as_slice-fates.result.now
    c.in_ok-plan.ensures.thins (ap (λ (p : Program). p.classes) c.in_ok-plan.ensures.by) c.as_slice-fates.ensures

pub returns : goal.returns
returns g c = record {
  plan = c.in_ok-plan.plan;
  fates = subst (λ (l : List Bool). AreForClasses (HasFates (g.T.Thinning.wishes c.args.pass.now) l) c.args.program.classes c.in_ok-plan.plan) c.deref.ensures.value c.in_ok-plan.ensures.thins;
  program = c.in_ok-plan.ensures.by;
  count = c.count_all-count.ensures ∙ ap (λ (ps : List (List (List Fate))). capped (all_changes ps)) c.as_slice-fates.ensures;
  origins = c.in_ok-origins.ensures ∙ ap (λ (ps : List (List (List Fate))). program_origins ps c.thin_all.new.program) c.as_slice-fates.ensures;
}
