use Rattle.std.proofs.Common.{ap, sym, ◌∙◌, subst}
use Rattle.verify.specs.Flow.{flowing_of, places_of, visited}
use Rattle.verify.specs.Frames.{kinds_of}
use Rattle.verify.specs.Typings.{IsFlow, IsLeastFlow}
use Rattle.verify.specs.Waiting.{queue_of}
use Rattle.verify.proofs.Queue.{none_waits}
use Rattle.verify.proofs.Solves.{solves_started, solves_on, solves_less, flow_at_end, least_at_end}
use Rattle.verify.proofs.flow.Code.solve.Goals as goal

pub loop-position-init : goal.loop-position-init
loop-position-init c = solves_started c.args.self.now.setting.now c.args.self.now.body.now c.args.self.now.covering.now (kinds_of c.args.entry) (flowing_of c.in_ok-states.states) (queue_of c.in_ok-states.states.arrivals) c.requires.wide c.in_ok-states.ensures.states c.in_ok-states.ensures.queues

pub loop-position-smaller : goal.loop-position-smaller
loop-position-smaller c =
    let s = c.args.self.now.setting.now in
    let b = c.args.self.now.body.now in
    let cs = c.args.self.now.covering.now in
    let old = c.loop-position.states in
    let waits = c.next.new.self.waiting.items in
    let is = c.in_ok-visit.ensures.states ∙ ap (λ ps. visited s b cs c.in-Some.position (record { arrivals = record { places = places_of ps; waits = waits }; regions = places_of old.regions.items })) c.in-Some.ensures.positions in
    solves_less s b cs (kinds_of c.args.entry) c.in-Some.position (places_of old.arrivals.positions.items) old.arrivals.waiting.items waits (places_of old.regions.items) (flowing_of c.visit.new.states) (queue_of old.arrivals) (queue_of c.next.new.self) (queue_of c.visit.new.states.arrivals)
    c.loop-position.invariant c.in-Some.ensures.queue c.in-Some.ensures.waiting is c.in_ok-visit.ensures.queues

pub loop-position-preserved : goal.loop-position-preserved
loop-position-preserved c =
    let s = c.args.self.now.setting.now in
    let b = c.args.self.now.body.now in
    let cs = c.args.self.now.covering.now in
    let old = c.loop-position.states in
    let waits = c.next.new.self.waiting.items in
    let is = c.in_ok-visit.ensures.states ∙ ap (λ ps. visited s b cs c.in-Some.position (record { arrivals = record { places = places_of ps; waits = waits }; regions = places_of old.regions.items })) c.in-Some.ensures.positions in
    solves_on s b cs (kinds_of c.args.entry) c.in-Some.position (places_of old.arrivals.positions.items) old.arrivals.waiting.items waits (places_of old.regions.items) (flowing_of c.visit.new.states) (queue_of old.arrivals) (queue_of c.next.new.self) (queue_of c.visit.new.states.arrivals)
    c.loop-position.invariant c.in-Some.ensures.queue c.in-Some.ensures.waiting is c.in_ok-visit.ensures.queues

pub returns-clause-flow : goal.returns-clause-flow
returns-clause-flow c = λ l fits cover.
    let s = c.args.self.now.setting.now in
    let b = c.args.self.now.body.now in
    let cs = c.args.self.now.covering.now in
    let k = c.loop-position.invariant in
    let none = none_waits c.loop-position.states.arrivals.waiting.items (queue_of c.loop-position.states.arrivals) c.in_default.ensures.none k.queued in
    subst (λ ps. IsFlow s b (kinds_of c.args.entry) (places_of ps)) (sym c.in_default.ensures.positions) (flow_at_end s b cs (kinds_of c.args.entry) fits cover (flowing_of c.loop-position.states) k.keeps none l)

pub returns-clause-least : goal.returns-clause-least
returns-clause-least c = λ l mono fits cover.
    let s = c.args.self.now.setting.now in
    let b = c.args.self.now.body.now in
    let cs = c.args.self.now.covering.now in
    let k = c.loop-position.invariant in
    let none = none_waits c.loop-position.states.arrivals.waiting.items (queue_of c.loop-position.states.arrivals) c.in_default.ensures.none k.queued in
    subst (λ ps. IsLeastFlow s b (kinds_of c.args.entry) (places_of ps)) (sym c.in_default.ensures.positions) (least_at_end s b cs (kinds_of c.args.entry) fits cover (flowing_of c.loop-position.states) k.keeps none l mono)
