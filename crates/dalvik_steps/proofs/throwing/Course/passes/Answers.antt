use Rattle.std.proofs.Common.{subst}
use Rattle.dalvik_steps.specs.Flights.{Meets}
use Rattle.dalvik_steps.proofs.Flying.{course_lands, course_on, course_wraps}
use Rattle.dalvik_steps.proofs.throwing.Course.passes.Goals as goal

pub returns-in-Passes-clause-goes : goal.returns-in-Passes-clause-goes
returns-in-Passes-clause-goes c = λ size w v all rest r k s i long h.
    let l = c.args.tables.now.lookups in
    let x = c.args.waiting.0.now in
    let place = c.args.waiting.1 in
    let m = subst (Meets l h.world h.value x place) c.in-Passes.is (c.in_ok-meets.ensures.is size h.world h.value r k s i h.flying) in
    course_on l c.args.world.now c.args.gifts.now w v all rest x place c.args.self.now h long m

pub returns-in_ok-wrap-in-Wrapped-clause-goes : goal.returns-in_ok-wrap-in-Wrapped-clause-goes
returns-in_ok-wrap-in-Wrapped-clause-goes c = λ size w v all rest r k s i long h.
    let l = c.args.tables.now.lookups in
    let x = c.args.waiting.0.now in
    let place = c.args.waiting.1 in
    let m = subst (Meets l h.world h.value x place) c.in-Wrapped.is (c.in_ok-meets.ensures.is size h.world h.value r k s i h.flying) in
    course_wraps l r c.args.world.now c.args.gifts.now w v all rest x place c.args.self.now c.wrap.new.self h long m c.in_ok-wrap-in-Wrapped.ensures.wraps c.in_ok-wrap-in-Wrapped.ensures.flying

pub returns-in-Lands-clause-goes : goal.returns-in-Lands-clause-goes
returns-in-Lands-clause-goes c = λ size w v all rest r k s i long h.
    let l = c.args.tables.now.lookups in
    let x = c.args.waiting.0.now in
    let place = c.args.waiting.1 in
    let m = subst (Meets l h.world h.value x place) c.in-Lands.is (c.in_ok-meets.ensures.is size h.world h.value r k s i h.flying) in
    course_lands l c.args.world.now c.args.gifts.now w v all rest x place c.in-Lands.landing c.args.self.now h long m
