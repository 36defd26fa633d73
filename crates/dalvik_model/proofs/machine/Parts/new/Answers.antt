use Rattle.dalvik_model.proofs.machine.Parts.new.Goals as goal

pub returns : goal.returns
returns c = λ s tables. record {
  tables = tables;
  kept = c.in_ok-memo.ensures.kept tables.right;
  state = c.in_ok-memo.ensures.named s.script tables.right;
  running = λ on. c.in_ok-memo.ensures.running tables.right;
}
