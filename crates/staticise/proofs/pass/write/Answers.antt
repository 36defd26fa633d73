use Rattle.std.proofs.Common.{◌∙◌, ap, subst, sym}
use Rattle.program_model.specs.declared.program.Program.{Program}
use Rattle.staticise.specs.Loosened.{AreEach, IsLoosenedClass}
use Rattle.staticise.specs.Ordering.{AreTargets}
use Rattle.staticise.proofs.Edited.{loosened_by}
use Rattle.staticise.proofs.Whole.{extended_by}
use Rattle.staticise.proofs.pass.write.Goals as goal

pub returns : goal.returns
returns c = λ t wf res g.
    let p = c.args.program.now in
    let q = c.loosen.new.program in
    let r = c.append.new.program in
    let rest = c.in_ok-loosen.ensures.rest in
    let found = c.in_ok-targets.ensures wf res in
    let are : AreTargets p c.as_slice-2.result.now c.as_slice-3.result.now =
    subst (λ x. AreTargets p x c.as_slice-3.result.now) (c.as_slice.ensures.value ∙ sym c.as_slice-2.ensures.value) (subst (λ x. AreTargets p c.as_slice.result.now x) (sym c.as_slice-3.ensures.value) found) in
    let each = c.in_ok-loosen.ensures.classes wf are res.of in
    loosened_by t p q r rest (subst (λ x. AreEach (IsLoosenedClass p x) p.classes q.classes) (c.as_slice-2.ensures.value ∙ sym g.given) each)
    (extended_by t p q r c.args.growth g (ap (λ (x : Program). x.strings) rest) (ap (λ (x : Program). x.protos) rest) c.in_ok-append.ensures)
