use Rattle.live_regs.proofs.sweeps.catch.Goals as goal

pub returns : goal.returns
returns c = record {
  word = c.handlers_word-word.result;
  mask = c.handlers_word-word.ensures;
  is = c.put.ensures.is;
  same = c.put.ensures.same;
}
