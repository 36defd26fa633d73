use Rattle.std.proofs.Common.{◌∙◌, sym}
use Rattle.call_targets.proofs.Following.{made_by, unmade_by}
use Rattle.call_targets.proofs.made.follow_place.Goals as goal

pub returns-in_ok-follow_class-clause-adds : goal.returns-in_ok-follow_class-clause-adds
returns-in_ok-follow_class-clause-adds c = λ is object ready.
    made_by c.args.at.now.program.now c.args.tables.now c.args.made.now c.args.class.0 c.args.class.1 c.args.targets.now c.follow_class.new.targets (sym c.is_on.ensures ∙ c.if-is_on.true) (c.in_ok-follow_class.ensures.adds is object ready)

pub returns-else-is_on-clause-adds : goal.returns-else-is_on-clause-adds
returns-else-is_on-clause-adds c = λ is object ready. unmade_by c.args.at.now.program.now c.args.tables.now c.args.made.now c.args.class.0 c.args.class.1 c.args.targets.now (sym c.is_on.ensures ∙ c.if-is_on.false)
