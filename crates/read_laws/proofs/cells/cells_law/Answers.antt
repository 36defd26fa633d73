use Rattle.read_laws.proofs.Counting.{few_cells}
use Rattle.read_laws.proofs.cells.cells_law.Goals as goal

pub returns : goal.returns
returns c = λ bytes p h. few_cells bytes p h
