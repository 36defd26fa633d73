use Rattle.std.proofs.Common.{◌∙◌, sym}
use Rattle.class_defs.proofs.WellFormed.{sound}
use Rattle.hierarchy.specs.Walking.{waits}
use Rattle.dalvik_lookups.specs.Reached.{touches_at}
use Rattle.dalvik_lookups.proofs.Outward.{outward_by_number}
use Rattle.dalvik_lookups.proofs.Upward.{climb_begins}
use Rattle.dalvik_lookups.proofs.lookups.Lookups.is_outward.Goals as goal

pub returns-clause-is : goal.returns-clause-is
returns-clause-is c = λ k r m e.
    let clear = c.clear.ensures.clear m.fair in
    c.in_ok-found.ensures.is c.args.class r (climb_begins c.args.self.now.program.now r.resolved.of.ranked c.args.class (touches_at c.args.self.now.program.now) c.clear.new.self.seen.items c.enter.new.walk.seen.items (waits c.clear.new.self) (waits c.enter.new.walk) (clear.long ∙ m.long) clear.unseen clear.none c.in_ok-enter.ensures.grows)
    ∙ sym (outward_by_number c.args.self.now.program.now (sound c.args.self.now.program.now r.well) r.resolved.of.once c.args.class k e)
