use Rattle.std.proofs.Common.{length, sym, ◌∙◌, arith}
use Rattle.relax.proofs.Starts.{start_past}
use Rattle.relax.proofs.sizes.start_at.Goals as goal

pub returns-else-position-sizes : goal.returns-else-position-sizes
returns-else-position-sizes c = c.requires.each (length c.args.sizes.now) (omega arith) ∙ sym (start_past c.args.sizes.now c.args.position c.if-position-sizes.false)
