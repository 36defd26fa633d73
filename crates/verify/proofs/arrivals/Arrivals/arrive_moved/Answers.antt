use Rattle.std.proofs.Common.{◌≡◌, ap, ◌∙◌, sym, rules}
use Rattle.verify.specs.Flow.{places_of}
use Rattle.verify.specs.Frames.{kinds_of}
use Rattle.verify.proofs.Arrived.{arrived_one, arrived_past, marked, unmarked}
use Rattle.verify.proofs.arrivals.Arrivals.arrive_moved.Goals as goal

pub returns-in_ok-wake-clause-arrived : goal.returns-in_ok-wake-clause-arrived
returns-in_ok-wake-clause-arrived c =
    let one = arrived_one c.args.tables.now c.args.position (kinds_of c.args.frame) c.args.self.now.positions.items c.args.self.now.waiting.items c.wake.new.self.waiting.items c.index_mut.result.now c.merge_moved.new.place c.len.result (search rules) c.if-at-len.true c.index_mut.ensures.value c.merge_moved.ensures.place
    (marked c.merge_moved.result _ _ _ _ c.merge_moved.ensures.rose c.if-merge_moved.true c.in_ok-wake.ensures.waiting) in
    let e : places_of c.wake.new.self.positions.items ≡ places_of (Rattle.std.proofs.Common.set c.args.self.now.positions.items c.args.position c.merge_moved.new.place) = ap places_of c.in_ok-wake.ensures.positions in
    rw e one

pub returns-else-merge_moved-clause-arrived : goal.returns-else-merge_moved-clause-arrived
returns-else-merge_moved-clause-arrived c = arrived_one c.args.tables.now c.args.position (kinds_of c.args.frame) c.args.self.now.positions.items c.args.self.now.waiting.items c.args.self.now.waiting.items c.index_mut.result.now c.merge_moved.new.place c.len.result (search rules) c.if-at-len.true c.index_mut.ensures.value c.merge_moved.ensures.place
    (unmarked c.merge_moved.result _ _ _ c.merge_moved.ensures.rose c.if-merge_moved.false)

pub returns-else-at-len-clause-arrived : goal.returns-else-at-len-clause-arrived
returns-else-at-len-clause-arrived c = arrived_past c.args.tables.now c.args.position (kinds_of c.args.frame) c.args.self.now.positions.items c.args.self.now.waiting.items c.len.result (search rules) c.if-at-len.false
