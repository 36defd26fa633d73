use Rattle.std.proofs.Common.{◌∙◌, ap, sym, arith, add-one}
use Rattle.stub_library.specs.Marking.{round, rounds}
use Rattle.stub_library.proofs.Steps.{rounds_still}
use Rattle.stub_library.proofs.others.rounds.Goals as goal

pub loop-done-preserved : goal.loop-done-preserved
loop-done-preserved c =
    c.in_ok-next.ensures ∙ ap (round c.args.base.now c.args.pairs.now) (c.as_slice-now.ensures.value ∙ c.loop-done.invariant) ∙ ap (rounds c.args.base.now c.args.pairs.now) (sym (add-one c.loop-done.done))

pub returns-then-are_same : goal.returns-then-are_same
returns-then-are_same c =
    let lt = c.loop-done-test.true in
    rounds_still c.args.base.now c.args.pairs.now c.loop-done.marks.items c.in_ok-next.next.items c.loop-done.done c.args.most (omega (arith, lt)) c.loop-done.invariant
    (c.in_ok-next.ensures ∙ ap (round c.args.base.now c.args.pairs.now) c.as_slice-now.ensures.value)
    (sym c.as_slice-new.ensures.value ∙ c.are_same.ensures c.if-are_same.true ∙ c.as_slice-now.ensures.value)
