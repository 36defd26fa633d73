use Rattle.program_laws.proofs.RenamedActs.{act_named}
use Rattle.program_laws.proofs.rename_law.renamed_law.Goals as goal

pub returns : goal.returns
returns c = λ rename under floats form w f q. (act_named rename under floats form w f q).0
