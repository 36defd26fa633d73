use Rattle.std.proofs.Common.{◌++◌}
use Rattle.dex_read.specs.Directory.{mark_method}
use Rattle.dex_read.specs.Steps.{steps}
use Rattle.dex_read.proofs.Steps.{Goes}
use Rattle.dex_read.proofs.directory.mark_methods.Given as goal

abbrev pub invariant-loop-i : goal.invariant-loop-i
invariant-loop-i l = Goes (mark_method l.source.bytes.now l.source.program.now l.class (l.listed.directs ++ l.listed.virtuals) l.at) l.count l.i (l.methods.items, (l.before, l.left)) (steps (mark_method l.source.bytes.now l.source.program.now l.class (l.listed.directs ++ l.listed.virtuals) l.at) 0 l.count (l.fn.methods.items, (0, l.fn.left)))
