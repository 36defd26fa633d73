use Rattle.std.proofs.Common.{length}
use Rattle.quiet_methods.proofs.forms.Search.judge.Goals as goal
use Rattle.std.proofs.Common.{sym, ◌∙◌}
use Rattle.quiet_methods.specs.Bodies.{LoudAt}
use Rattle.quiet_methods.proofs.Judging.{if_ok, own, loud_own, loud_found}

-- src/bodies.rt:175:5
pub returns-in-Some : goal.returns-in-Some
returns-in-Some c = λ resolved. if_ok _ _ c.ranked.result (λ x r. own c.args.self.now.program.now c.args.insns.now c.args.frames.now c.in-Some.calls x.node x.ranks (sym (c.in_ok-calls.ensures resolved) ∙ c.in-Some.is) r) c.ranked.ensures

-- src/bodies.rt:175:5
pub returns-in-None : goal.returns-in-None
returns-in-None c = λ resolved. loud_own c.args.self.now.program.now c.args.insns.now c.args.frames.now c.loud-in-None.result.node c.loud-in-None.result.ranks c.loud-in-None.ensures.0
    (LoudAt (loud_found c.args.self.now.program.now c.args.insns.now c.args.frames.now (length c.args.insns.now) (sym (c.in_ok-calls.ensures resolved) ∙ c.in-None.is)))
