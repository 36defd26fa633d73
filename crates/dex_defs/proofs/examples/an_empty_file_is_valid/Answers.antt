use Rattle.dex_defs.proofs.EmptyFile.{valid, signed}
use Rattle.dex_defs.proofs.examples.an_empty_file_is_valid.Goals as goal

pub returns-clause-valid : goal.returns-clause-valid
returns-clause-valid c = valid

pub returns-clause-signed : goal.returns-clause-signed
returns-clause-signed c = signed
