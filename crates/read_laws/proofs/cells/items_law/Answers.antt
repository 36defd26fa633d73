use Rattle.read_laws.proofs.ItemCounting.{few_items}
use Rattle.read_laws.proofs.cells.items_law.Goals as goal

pub returns : goal.returns
returns c = λ bytes p h. few_items bytes p h
