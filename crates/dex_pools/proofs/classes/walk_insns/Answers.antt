use Rattle.dex_pools.specs.Used.{insn_names}
use Rattle.dex_pools.proofs.Names.{walks_on}
use Rattle.dex_pools.proofs.classes.walk_insns.Goals as goal

pub loop-insn-preserved : goal.loop-insn-preserved
loop-insn-preserved c =
    walks_on insn_names c.args.used.now c.loop-insn.used c.walk_insn.new.used c.args.insns.now c.loop-insn.insn-index c.insn-item.result c.loop-insn.invariant c.loop-insn-test.true c.insn-item.is c.walk_insn.ensures
