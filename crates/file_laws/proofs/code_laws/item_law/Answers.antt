use Rattle.file_laws.proofs.Items.{founds_item}
use Rattle.file_laws.proofs.code_laws.item_law.Goals as goal

pub returns : goal.returns
returns c = λ bytes at f units sizes has few. founds_item bytes at f units sizes has few
