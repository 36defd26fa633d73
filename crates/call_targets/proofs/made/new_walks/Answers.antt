use Rattle.std.proofs.Common.{◌∙◌}
use Rattle.call_targets.proofs.made.new_walks.Goals as goal

pub returns : goal.returns
returns c = λ is. record {
  classes = record { fair = c.in_ok-walk.ensures.fair; long = c.in_ok-walk.ensures.clear.long ∙ is.count };
  kinds = record { unmarked = c.in_ok-new.ensures.none; idle = c.in_ok-new.ensures.idle };
  long = c.in_ok-new.ensures.size ∙ c.len.ensures;
}
