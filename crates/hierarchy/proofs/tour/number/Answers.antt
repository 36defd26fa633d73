use Rattle.std.proofs.Common.{length}
use Rattle.hierarchy.proofs.Toured.{in_turn_numbers}
use Rattle.hierarchy.proofs.tour.number.Goals as goal

pub returns : goal.returns
returns c = λ few. in_turn_numbers (length c.args.parents.now) c.in_ok-in_turn.field-0.items c.in_ok-in_turn-2.field-0.items (c.in_ok-in_turn.ensures few) (c.in_ok-in_turn-2.ensures few)
