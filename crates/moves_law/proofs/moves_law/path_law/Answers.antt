use Rattle.moves_law.proofs.Paths.{is_path, has_path}
use Rattle.moves_law.proofs.moves_law.path_law.Goals as goal

pub returns-clause-sound : goal.returns-clause-sound
returns-clause-sound c = is_path

pub returns-clause-found : goal.returns-clause-found
returns-clause-found c = has_path
