use Rattle.std.proofs.Common.{refl, ap, subst, Option}
use Rattle.splice.specs.declared.spliced.Spliced.{Spliced}
use Rattle.inline_calls.specs.Accepting.{Unasked}
use Rattle.inline_calls.specs.Rooms.{Judges}
use Rattle.inline_calls.proofs.Accepting.{weighs_yes, weighs_no}
use Rattle.inline_calls.proofs.Asks.{no_asks, so_asks, unasked, on_err}
use Rattle.inline_calls.proofs.caller.Inliner.asked.Goals as goal

pub returns-in_err-judged-clause-unasked : goal.returns-in_err-judged-clause-unasked
returns-in_err-judged-clause-unasked g c = on_err _ (unasked (λ b. (goal.Adviser-dyn g (b.vtable, b.value)).replies b.value) _ _ _ _ refl refl)

pub returns-in-None-clause-asked : goal.returns-in-None-clause-asked
returns-in-None-clause-asked g c = no_asks _ _ _ (Unasked (subst (λ (o : Option Spliced). Judges c.args.self.now c.args.caller c.args.cells c.args.chosen.now o) c.in-None.is c.in_ok-judged.ensures))

pub returns-in_err-yes-clause-unasked : goal.returns-in_err-yes-clause-unasked
returns-in_err-yes-clause-unasked g c = on_err _ c.in_err-yes.ensures.unasked

pub returns-then-yes-clause-asked : goal.returns-then-yes-clause-asked
returns-then-yes-clause-asked g c =
    so_asks _ _ _ _ _ _ (weighs_yes c.args.self.now c.args.caller c.args.cells c.args.position c.args.callee c.args.chosen.now c.in-Some.spliced _
    (subst (λ (o : Option Spliced). Judges c.args.self.now c.args.caller c.args.cells c.args.chosen.now o) c.in-Some.is c.in_ok-judged.ensures) c.if-yes.true) c.in_ok-yes.ensures.asked

pub returns-else-yes-clause-asked : goal.returns-else-yes-clause-asked
returns-else-yes-clause-asked g c =
    so_asks _ _ _ _ _ _ (weighs_no c.args.self.now c.args.caller c.args.cells c.args.position c.args.callee c.args.chosen.now c.in-Some.spliced _
    (subst (λ (o : Option Spliced). Judges c.args.self.now c.args.caller c.args.cells c.args.chosen.now o) c.in-Some.is c.in_ok-judged.ensures) c.if-yes.false) c.in_ok-yes.ensures.asked
