use Rattle.std.proofs.Common.{◌++◌}
use Rattle.dex_read.specs.Directory.{mark_field}
use Rattle.dex_read.specs.Steps.{steps}
use Rattle.dex_read.proofs.Steps.{Goes}
use Rattle.dex_read.proofs.directory.mark_fields.Given as goal

abbrev pub invariant-loop-i : goal.invariant-loop-i
invariant-loop-i l = Goes (mark_field l.source.bytes.now l.source.program.now l.class (l.listed.statics ++ l.listed.instances) l.at) l.count l.i (l.fields.items, (l.before, l.left)) (steps (mark_field l.source.bytes.now l.source.program.now l.class (l.listed.statics ++ l.listed.instances) l.at) 0 l.count (l.fn.fields.items, (0, l.fn.left)))
