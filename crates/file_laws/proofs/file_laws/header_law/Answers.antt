use Rattle.file_laws.proofs.Headers.{finds_header}
use Rattle.file_laws.proofs.file_laws.header_law.Goals as goal

pub returns : goal.returns
returns c = λ bytes. finds_header bytes
