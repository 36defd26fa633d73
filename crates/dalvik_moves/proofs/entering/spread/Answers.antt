use Rattle.std.proofs.Common.{false}
use Rattle.dalvik_lookups.specs.declared.plays.Gift.TheVariants as gift
use Rattle.dalvik_state.specs.declared.datum.Datum.TheVariants as datum
use Rattle.dalvik_moves.proofs.Entered.{spread_goes_on}
use Rattle.dalvik_moves.proofs.entering.spread.Goals as goal

pub loop-one-preserved : goal.loop-one-preserved
loop-one-preserved c =
    spread_goes_on c.args.taken.now c.loop-one.one-index (gift.Null, record { datum = datum.Word 0; allowed = false }) c.loop-one.registers.items c.add_registers.new.registers.items c.loop-one-test.true c.loop-one.invariant c.in_ok-add_registers.ensures
