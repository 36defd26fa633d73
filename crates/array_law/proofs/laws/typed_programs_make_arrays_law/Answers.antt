use Rattle.array_law.proofs.Runs.{make_arrays}
use Rattle.array_law.proofs.laws.typed_programs_make_arrays_law.Goals as goal

pub returns : goal.returns
returns c = make_arrays
