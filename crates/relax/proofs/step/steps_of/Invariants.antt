use Rattle.std.proofs.Common.{◌≡◌, map, take, All}
use Rattle.relax.specs.Steps.{step_of, IsSmall}
use Rattle.relax.proofs.step.steps_of.Given as goal

abbrev pub invariant-loop-insn : goal.invariant-loop-insn
invariant-loop-insn l = record {
  value : l.steps.items ≡ map (step_of l.numbers) (take l.insn-index l.insns);
  small : All IsSmall l.steps.items;
}
