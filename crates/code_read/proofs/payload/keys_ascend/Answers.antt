use Rattle.std.proofs.Common.{sym}
use Rattle.code_read.proofs.Entries.{keys_go_on, keys_stop}
use Rattle.code_read.proofs.payload.keys_ascend.Goals as goal

pub returns-then-not-is_below : goal.returns-then-not-is_below
returns-then-not-is_below c =
    keys_stop _ _ _ _ c.loop-left-test.true c.loop-left.invariant c.rest_from-behind.ensures (sym c.if-not-is_below.ensures)

pub loop-left-preserved : goal.loop-left-preserved
loop-left-preserved c =
    keys_go_on _ _ _ _ c.loop-left-test.true c.loop-left.invariant c.rest_from-behind.ensures (sym c.if-not-is_below.ensures)
