use Rattle.std.proofs.Common.{arith}
use Rattle.splice.proofs.Counting.{size_done}
use Rattle.splice.proofs.places.copies_size.Goals as goal

pub returns : goal.returns
returns c = size_done c.args.taken c.args.insns.now c.loop-insn.insn-index c.loop-insn.size _ (omega arith) c.loop-insn.invariant.within c.loop-insn.invariant.counted
