use Rattle.std.proofs.Common.{inr, length}
use Rattle.pipeline.proofs.Preparing.{all_answered, found_marks, no_marks, none_answered, none_begun, some_begun}
use Rattle.pipeline.proofs.Turns.{on_err}
use Rattle.pipeline.proofs.rounds.ask_marked.Goals as goal

pub returns-in-Some-clause-advised : goal.returns-in-Some-clause-advised
returns-in-Some-clause-advised g c = λ o allowed marks. all_answered o c.args.program.now c.ask_all.result (length c.args.panel.now.advisers.items) c.in-Some.live _ _ _ _ allowed
    (found_marks o c.args.program.now c.args.live.now c.in-Some.live marks c.in-Some.is) c.ask_all.ensures.answered c.ask_all.ensures.run

pub returns-in-Some-clause-begun : goal.returns-in-Some-clause-begun
returns-in-Some-clause-begun g c = λ o allowed marks. some_begun o c.args.program.now c.ask_all.result c.in-Some.live _ _ _ _ allowed
    (found_marks o c.args.program.now c.args.live.now c.in-Some.live marks c.in-Some.is) c.ask_all.ensures.begun

pub returns-in-None-clause-advised : goal.returns-in-None-clause-advised
returns-in-None-clause-advised g c = λ o allowed marks. none_answered o c.args.program.now c.no_advice.result (length c.args.panel.now.advisers.items) _ _
    (inr (no_marks o c.args.program.now c.args.live.now marks c.in-None.is)) c.no_advice.ensures

pub returns-in-None-clause-begun : goal.returns-in-None-clause-begun
returns-in-None-clause-begun g c = λ o allowed marks. on_err c.no_advice.result (none_begun o c.args.program.now _ _)
