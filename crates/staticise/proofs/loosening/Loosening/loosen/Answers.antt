use Rattle.std.proofs.Common.{◌≡◌, ◌∙◌, ap, rules, subst, sym}
use Rattle.std.proofs.lemmas.List.{take_at}
use Rattle.std.specs.Prelude.{slice_get}
use Rattle.staticise.specs.Loosened.{AreEach, IsLoosenedClass}
use Rattle.staticise.proofs.Ordered.{own_methods}
use Rattle.staticise.proofs.loosening.Loosening.loosen.Goals as goal

pub returns-clause-classes : goal.returns-clause-classes
returns-clause-classes c = λ wf t o.
    let p = c.args.program.now in
    let old : c.as_mut_slice.result.now ≡ c.args.program.now.classes = search rules in
    let each : AreEach (IsLoosenedClass p c.args.self.now.given.now) c.as_mut_slice.result.now c.loosen_classes.new.classes =
    c.in_ok-loosen_classes.ensures p t o (λ k x e. own_methods p wf k x (ap (λ l. slice_get l k) (sym old) ∙ e)) in
    let long = each.long ∙ c.as_mut_slice.ensures.len in
    subst (AreEach (IsLoosenedClass p c.args.self.now.given.now) c.args.program.now.classes) (sym (take_at c.loosen_classes.new.classes _ _ long))
    (subst (λ l. AreEach (IsLoosenedClass p c.args.self.now.given.now) l c.loosen_classes.new.classes) old each)
