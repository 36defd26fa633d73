use Rattle.std.proofs.Common.{refl}
use Rattle.call_targets.proofs.Ending.{same_links}
use Rattle.call_targets.proofs.made.in_order.Goals as goal

pub returns : goal.returns
returns c = λ p o live f. same_links p o live c.args.found _ f c.each_once.ensures.kept c.each_once.ensures.from refl refl refl
