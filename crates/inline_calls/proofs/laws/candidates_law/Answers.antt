use Rattle.inline_calls.proofs.Chosen.{tried_candidates}
use Rattle.inline_calls.proofs.laws.candidates_law.Goals as goal

pub returns : goal.returns
returns c = tried_candidates
