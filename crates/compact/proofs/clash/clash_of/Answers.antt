use Rattle.std.proofs.Common.{length, ap, arith}
use Rattle.compact.proofs.Clashing.{clash_from}
use Rattle.compact.proofs.clash.clash_of.Goals as goal

pub returns : goal.returns
returns c = clash_from c.args.body.now c.in_ok-live.live c.args.used.now c.in_ok-names.names.items c.as_slice.result.now c.in_ok-writers.writers.items c.as_slice-2.result.now c.as_slice-insns.result.now _ c.deref.result.now c.len.result c.requires.few c.in_ok-live.ensures c.requires.used
    c.in_ok-names.ensures c.in_ok-writers.ensures.long c.in_ok-writers.ensures.writers c.as_slice-insns.ensures c.as_slice.ensures.value c.as_slice-2.ensures.value c.in_ok-rows.ensures.long c.in_ok-rows.ensures.rows c.deref.ensures.value (omega (arith, c.len.ensures)) c.in_ok-back.ensures.turned

pub turned-requires : goal.turned-requires
turned-requires c = omega (arith, ap length c.deref.ensures.value, c.in_ok-rows.ensures.long, ap length c.as_slice-2.ensures.value, c.in_ok-writers.ensures.long, c.requires.used.long, c.requires.narrow)
