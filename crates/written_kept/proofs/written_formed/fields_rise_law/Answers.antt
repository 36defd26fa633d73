use Rattle.written_kept.proofs.Rising.{fields_rise}
use Rattle.written_kept.proofs.written_formed.fields_rise_law.Goals as goal

pub returns : goal.returns
returns c = fields_rise
