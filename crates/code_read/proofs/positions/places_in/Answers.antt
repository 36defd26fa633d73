use Rattle.code_read.proofs.Rises.{few_rise}
use Rattle.code_read.proofs.positions.places_in.Goals as goal

pub returns-clause-few : goal.returns-clause-few
returns-clause-few c = few_rise _ _ c.in_ok-starts.ensures.starts
