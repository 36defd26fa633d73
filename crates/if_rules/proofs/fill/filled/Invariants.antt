use Rattle.std.proofs.Common.{◌≡◌, ◌++◌, length}
use Rattle.if_rules.specs.Filled.{texts_in}
use Rattle.if_rules.specs.Instances.{words_bytes}
use Rattle.if_rules.specs.Lists.{lists_of}
use Rattle.if_rules.proofs.fill.filled.Given as goal

abbrev pub invariant-loop-rest : goal.invariant-loop-rest
invariant-loop-rest l = l.out.items ++ words_bytes l.fn.slots (texts_in l.fn.texts) (lists_of l.rest) ≡ words_bytes l.fn.slots (texts_in l.fn.texts) (lists_of l.fn.words)

abbrev pub decreases-loop-rest : goal.decreases-loop-rest
decreases-loop-rest l = length l.rest
