use Rattle.std.proofs.Common.{arith}
use Rattle.std.proofs.lemmas.Result.{err_from_is_err_and}
use Rattle.dex_base.specs.Mutf8.{text_at}
use Rattle.dex_base.proofs.TextReading.{HasUnits-fails, HasUnits-more}
use Rattle.dex_base.proofs.mutf8.read_text.Goals as goal

pub returns-in_err-unit-clause-gives : goal.returns-in_err-unit-clause-gives
unfolding text_at
returns-in_err-unit-clause-gives c =
    let p = err_from_is_err_and c.from_residual-in_err-unit.result c.from_residual-in_err-unit.ensures.1 in
    rw (p.1, p.2) (HasUnits-fails c.args.bytes.now c.args.at c.args.units c.loop.counter c.loop.next c.loop.rest.now c.loop.text.items c.in_err-unit.field-0.0 c.loop.invariant c.loop-test.true c.in_err-unit.ensures.gives)

pub loop-preserved : goal.loop-preserved
loop-preserved c =
    rw c.in_ok-push.ensures.items (HasUnits-more c.args.bytes.now c.args.at c.args.units c.loop.counter c.loop.next c.loop.rest.now c.loop.text.items c.in_ok-unit.unit c.in_ok-unit.len c.loop.invariant c.loop-test.true c.in_ok-unit.ensures.gives c.in_ok-unit.ensures.inside)
