use Rattle.written_code.proofs.CodedValid.{coded}
use Rattle.written_code.proofs.written_codes.coded_law.Goals as goal

pub returns : goal.returns
returns c = coded
