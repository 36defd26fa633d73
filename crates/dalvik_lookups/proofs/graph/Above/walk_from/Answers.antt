use Rattle.std.proofs.Common.{sym, subst, arith}
use Rattle.dalvik_lookups.specs.Walks.{IsInside}
use Rattle.dalvik_lookups.proofs.Climbing.{begun, begun_from}
use Rattle.dalvik_lookups.proofs.graph.Above.walk_from.Goals as goal

pub returns-in_err-mark-clause-listed : goal.returns-in_err-mark-clause-listed
returns-in_err-mark-clause-listed c = λ clean. begun c.args.marks.now c.mark.new.self c.args.lower clean c.mark.ensures.grow

pub returns-in_err-walk_up-clause-listed : goal.returns-in_err-walk_up-clause-listed
returns-in_err-walk_up-clause-listed c = λ clean. c.walk_up.ensures.listed (begun c.args.marks.now c.mark.new.self c.args.lower clean c.mark.ensures.grow)

pub returns-clause-listed : goal.returns-clause-listed
returns-clause-listed c = λ clean. c.walk_up.ensures.listed (begun c.args.marks.now c.mark.new.self c.args.lower clean c.mark.ensures.grow)

pub returns-clause-walked : goal.returns-clause-walked
returns-clause-walked c = λ clean inside lt.
    let g = c.mark.ensures.grow in
    c.in_ok-walk_up.ensures.walked (begun c.args.marks.now c.mark.new.self c.args.lower clean g) (subst (IsInside c.args.self.now) (sym g.size) inside) c.args.lower (omega (arith, lt, g.size)) c.in_ok-mark.ensures.marked (begun_from c.args.self.now c.args.marks.now c.mark.new.self c.args.lower clean g)
