use Rattle.std.proofs.Common.{◌∙◌}
use Rattle.call_graph.proofs.notes.Notes.new.Goals as goal

pub returns-clause-notes : goal.returns-clause-notes
returns-clause-notes c = λ is. record {
  called_size = c.in_ok-new.ensures.size ∙ c.len-types.ensures;
  made_size = c.in_ok-new-2.ensures.size ∙ c.len-types.ensures;
  kinds_size = c.in_ok-new-3.ensures.size ∙ c.len-types.ensures;
  kinds = record { unmarked = c.in_ok-new-3.ensures.none; idle = c.in_ok-new-3.ensures.idle };
  walk = record { fair = c.in_ok-walk.ensures.fair; long = c.in_ok-walk.ensures.clear.long ∙ is.of.count };
}
