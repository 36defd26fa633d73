use Rattle.written_code.proofs.CodedValid.{codes}
use Rattle.written_code.proofs.written_codes.codes_law.Goals as goal

pub returns : goal.returns
returns c = codes
