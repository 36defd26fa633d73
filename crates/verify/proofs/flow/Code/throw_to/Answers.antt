use Rattle.std.proofs.Common.{rules}
use Rattle.verify.specs.Flow.{arrived_of}
use Rattle.verify.specs.Frames.{kinds_of}
use Rattle.verify.proofs.Arrived.{thrown_one, thrown_past}
use Rattle.verify.proofs.flow.Code.throw_to.Goals as goal

pub returns-in_ok-throw_at-clause-states : goal.returns-in_ok-throw_at-clause-states
returns-in_ok-throw_at-clause-states c = thrown_one c.args.self.now.setting.now.tables.now c.args.region.now c.args.place (kinds_of c.args.frame.now) c.args.states.now.regions.items (arrived_of c.args.states.now.arrivals) (arrived_of c.throw_at.new.arrivals) c.index_mut.result.now c.throw_at.new.state c.len.result (search rules) c.if-at-len.true c.index_mut.ensures.value c.in_ok-throw_at.ensures.state c.in_ok-throw_at.ensures.arrivals

pub returns-else-at-len-clause-states : goal.returns-else-at-len-clause-states
returns-else-at-len-clause-states c = thrown_past c.args.self.now.setting.now.tables.now c.args.region.now c.args.place (kinds_of c.args.frame.now) c.args.states.now.regions.items (arrived_of c.args.states.now.arrivals) c.len.result (search rules) c.if-at-len.false
