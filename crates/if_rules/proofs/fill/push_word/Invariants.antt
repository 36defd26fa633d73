use Rattle.std.proofs.Common.{◌≡◌, ◌++◌, length}
use Rattle.if_rules.specs.Filled.{texts_in}
use Rattle.if_rules.specs.Instances.{parts_bytes}
use Rattle.if_rules.proofs.fill.push_word.Given as goal

abbrev pub invariant-loop-rest : goal.invariant-loop-rest
invariant-loop-rest l = l.out.items ++ parts_bytes l.fn.slots (texts_in l.fn.texts) l.rest ≡ l.fn.out.items ++ parts_bytes l.fn.slots (texts_in l.fn.texts) l.fn.parts

abbrev pub decreases-loop-rest : goal.decreases-loop-rest
decreases-loop-rest l = length l.rest
