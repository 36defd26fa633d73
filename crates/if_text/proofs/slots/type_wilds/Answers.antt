use Rattle.if_text.proofs.Counts.{type_by}
use Rattle.if_text.proofs.slots.type_wilds.Goals as goal

pub returns : goal.returns
returns c = λ w is. type_by c.args.kind.now w c.item_wilds.result is (c.item_wilds.ensures is.front is.item)
