use Rattle.pass_defs.proofs.Packing.{both_packed, skipping_not_packed}
use Rattle.pass_defs.proofs.passes.a_body_is_packed.Goals as goal

pub returns-clause-packed : goal.returns-clause-packed
returns-clause-packed c = both_packed

pub returns-clause-skipping : goal.returns-clause-skipping
returns-clause-skipping c = skipping_not_packed
