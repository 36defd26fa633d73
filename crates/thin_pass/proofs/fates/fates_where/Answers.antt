use Rattle.std.proofs.Common.{◌∷◌, ◌++◌, [], length, ap, ◌∙◌}
use Rattle.thin_pass.proofs.Fated.{upto_more, upto_all, long_upto}
use Rattle.thin_pass.proofs.fates.fates_where.Goals as goal

pub loop-position-preserved : goal.loop-position-preserved
loop-position-preserved c = upto_more c.args.insns.now c.args.wishes.now c.loop-position.start c.start_behind-start.result c.loop-position.position c.loop-position.fates.items c.push.new.self.items _ c.loop-position-test.true (c.in_ok-push.ensures.items ∙ ap (λ f. c.loop-position.fates.items ++ f ∷ []) c.fate_at.ensures) c.start_behind-start.ensures c.loop-position.invariant

pub returns-clause-fates : goal.returns-clause-fates
returns-clause-fates c = upto_all c.args.insns.now c.args.wishes.now c.loop-position.start c.loop-position.position c.loop-position.fates.items _ c.loop-position-test.false c.loop-position.invariant

pub returns-clause-long : goal.returns-clause-long
returns-clause-long c =
    ap length (upto_all c.args.insns.now c.args.wishes.now c.loop-position.start c.loop-position.position c.loop-position.fates.items _ c.loop-position-test.false c.loop-position.invariant)
    ∙ long_upto c.args.insns.now c.args.wishes.now 0 0 (length c.args.insns.now)
