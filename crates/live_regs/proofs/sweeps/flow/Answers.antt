use Rattle.std.proofs.Common.{List, ℕ, subst}
use Rattle.live_regs.specs.Words.{IsMask}
use Rattle.live_regs.specs.Sweeps.{flows}
use Rattle.live_regs.proofs.sweeps.flow.Goals as goal

pub returns : goal.returns
returns c = record {
  word = c.flow_word-word.result;
  mask = subst (λ (l : List ℕ). IsMask (flows l c.args.caught.now c.args.region c.args.position c.args.insn.now) c.flow_word-word.result) c.as_slice.ensures.value c.flow_word-word.ensures;
  is = c.put.ensures.is;
  same = c.put.ensures.same;
}
