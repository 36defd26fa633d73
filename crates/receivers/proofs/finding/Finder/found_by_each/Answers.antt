use Rattle.std.proofs.Common.{◌≡◌, ◌<◌, ◌∙◌, ℕ, Some, length, ap, sym}
use Rattle.std.specs.Prelude.{slice_get}
use Rattle.std.proofs.lemmas.Result.{IfOk-weaker}
use Rattle.hierarchy.specs.Touring.{subclasses_of}
use Rattle.receivers.specs.Receiving.{agreed_on, agreed_under, found_by}
use Rattle.receivers.proofs.Ranges.{subclasses_short}
use Rattle.receivers.proofs.finding.Finder.found_by_each.Goals as goal

pub returns-clause-is : goal.returns-clause-is
returns-clause-is c = λ f r q n l.
    let p = c.args.self.now.program.now in
    let class = c.args.class in
    let same : c.as_slice.result.now ≡ subclasses_of p class = c.as_slice.ensures.value ∙ c.in_ok-below.ensures p f.resolved l in
    let found : found_by p q class ≡ Some c.in-Some.target = sym (c.in_ok-target.ensures.is f r q n l) ∙ c.in-Some.is in
    let short : (k x : ℕ) → slice_get c.as_slice.result.now k ≡ Some x → x < length p.classes = λ k x e. subclasses_short p class k x (ap (λ s. slice_get s k) (sym same) ∙ e) in
    IfOk-weaker c.agreed_on.result (λ o. o ≡ agreed_on p q c.as_slice.result.now (Some c.in-Some.target)) (λ o. o ≡ agreed_under p q class)
    (λ v h. h ∙ (ap (λ s. agreed_on p q s (Some c.in-Some.target)) same ∙ ap (agreed_on p q (subclasses_of p class)) (sym found))) (c.agreed_on.ensures.is f (c.find.ensures.ready r) q n short)
