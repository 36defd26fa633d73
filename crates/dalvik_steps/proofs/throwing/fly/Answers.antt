use Rattle.std.proofs.Common.{◌≡◌, ◌-◌, ◌≤◌, ℕ, suc, length, take, ap, arith, subst}
use Rattle.std.specs.Prelude.{reverse}
use Rattle.dalvik_state.specs.Worlds.{spots_of}
use Rattle.dalvik_steps.specs.Flights.{GoesPast}
use Rattle.dalvik_steps.proofs.Flying.{course_ends, course_next, reverse_long}
use Rattle.dalvik_steps.proofs.Looked.{item_at}
use Rattle.dalvik_steps.proofs.throwing.fly.Goals as goal

pub returns-in_err-landing-clause-kept : goal.returns-in_err-landing-clause-kept
returns-in_err-landing-clause-kept c = λ steps w v run given flying low.
    let l = c.args.tables.now.lookups in
    let s = c.args.state.now in
    let at = c.loop-place.place - 1 in
    let look = c.in-Some.ensures.lookup in
    let got = item_at s.stack.items c.as_slice.result.now at c.in-Some.waiting.now c.as_slice.ensures.value look.1 look.3.0 in
    c.passes.ensures.kept (length (spots_of s.world)) run.right (c.loop-place.invariant.kept steps w v run given flying low) (c.loop-place.invariant.course steps w v run given flying low).flying.known (run.state.stack at c.in-Some.waiting.now got)

pub returns-in-Some-2-clause-kept : goal.returns-in-Some-2-clause-kept
returns-in-Some-2-clause-kept c = λ steps w v run given flying low.
    let l = c.args.tables.now.lookups in
    let s = c.args.state.now in
    let at = c.loop-place.place - 1 in
    let look = c.in-Some.ensures.lookup in
    let got = item_at s.stack.items c.as_slice.result.now at c.in-Some.waiting.now c.as_slice.ensures.value look.1 look.3.0 in
    c.passes.ensures.kept (length (spots_of s.world)) run.right (c.loop-place.invariant.kept steps w v run given flying low) (c.loop-place.invariant.course steps w v run given flying low).flying.known (run.state.stack at c.in-Some.waiting.now got)

pub returns-in-Some-2-clause-flies : goal.returns-in-Some-2-clause-flies
returns-in-Some-2-clause-flies c = λ steps w v run given flying low.
    let l = c.args.tables.now.lookups in
    let s = c.args.state.now in
    let g = c.args.gifts.now in
    let items = s.stack.items in
    let at = c.loop-place.place - 1 in
    let x = c.in-Some.waiting.now in
    let look = c.in-Some.ensures.lookup in
    let got = item_at items c.as_slice.result.now at x c.as_slice.ensures.value look.1 look.3.0 in
    let all = reverse (take c.args.top items) in
    let rest = reverse (take at items) in
    let step : c.loop-place.place ≡ suc at = omega arith in
    let inside : at ≤ length items = omega arith in
    let here = course_next l s.world g w v all items c.loop-place.place at x c.loop-place.course got step (c.loop-place.invariant.course steps w v run given flying low) in
    let goes = c.in_ok-landing.ensures.goes (length (spots_of s.world)) w v all rest run.right (c.loop-place.invariant.kept steps w v run given flying low) (run.state.stack at x got) given (reverse_long items at inside) here in
    subst (GoesPast l s.world g w v all rest c.passes.new.self) c.in-Some-2.is goes

pub loop-place-preserved-in_default-2 : goal.loop-place-preserved-in_default-2
loop-place-preserved-in_default-2 c =
    let l = c.args.tables.now.lookups in
    let s = c.args.state.now in
    let g = c.args.gifts.now in
    let items = s.stack.items in
    let at = c.loop-place.place - 1 in
    let x = c.in-Some.waiting.now in
    let look = c.in-Some.ensures.lookup in
    let got = item_at items c.as_slice.result.now at x c.as_slice.ensures.value look.1 look.3.0 in
    let all = reverse (take c.args.top items) in
    let rest = reverse (take at items) in
    let step : c.loop-place.place ≡ suc at = omega arith in
    let inside : at ≤ length items = omega arith in
    record {
      low = omega arith;
      kept = λ steps w v run given flying low.
          c.passes.ensures.kept (length (spots_of s.world)) run.right (c.loop-place.invariant.kept steps w v run given flying low) (c.loop-place.invariant.course steps w v run given flying low).flying.known (run.state.stack at x got);
      course = λ steps w v run given flying low.
          let here = course_next l s.world g w v all items c.loop-place.place at x c.loop-place.course got step (c.loop-place.invariant.course steps w v run given flying low) in
          let goes = c.in_ok-landing.ensures.goes (length (spots_of s.world)) w v all rest run.right (c.loop-place.invariant.kept steps w v run given flying low) (run.state.stack at x got) given (reverse_long items at inside) here in
          subst (GoesPast l s.world g w v all rest c.passes.new.self) c.in_default-2.is goes;
    }

pub returns-clause-flies : goal.returns-clause-flies
returns-clause-flies c = λ steps w v run given flying low.
    let l = c.args.tables.now.lookups in
    let s = c.args.state.now in
    let items = s.stack.items in
    let none : c.loop-place.place ≡ 0 = omega arith in
    course_ends l s.world c.args.gifts.now w v (reverse (take c.args.top items)) (reverse (take c.loop-place.place items)) c.loop-place.course (ap (λ (n : ℕ). reverse (take n items)) none) (c.loop-place.invariant.course steps w v run given flying low)
