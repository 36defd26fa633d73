use Rattle.std.proofs.Common.{refl, ap}
use Rattle.inline_calls.proofs.Asks.{one_asked, unasked, on_err}
use Rattle.inline_calls.proofs.asking.ask_about.Goals as goal

pub returns-clause-asked : goal.returns-clause-asked
returns-clause-asked g c = one_asked _ _ _ _ _ _ _ _ _ _ c.in_ok-ask.ensures c.in_ok-yes.ensures.asked

pub returns-in_err-ask-clause-unasked : goal.returns-in_err-ask-clause-unasked
returns-in_err-ask-clause-unasked g c = on_err _ (unasked (λ b. (goal.Adviser-dyn g (b.vtable, b.value)).replies b.value) _ _ _ _ refl refl)

pub returns-in_err-yes-clause-unasked : goal.returns-in_err-yes-clause-unasked
returns-in_err-yes-clause-unasked g c = on_err _ (unasked (λ b. (goal.Adviser-dyn g (b.vtable, b.value)).replies b.value) _ _ _ _ (ap (λ v. v.items) c.in_err-yes.ensures.unasked) c.in_err-yes.ensures.refused)
