use Rattle.dex_defs.proofs.RunFile.{valid, signed}
use Rattle.dex_defs.proofs.examples.a_class_with_a_method_is_valid.Goals as goal

pub returns-clause-valid : goal.returns-clause-valid
returns-clause-valid c = valid

pub returns-clause-signed : goal.returns-clause-signed
returns-clause-signed c = signed
