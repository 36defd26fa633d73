use Rattle.std.proofs.Common.{arith}
use Rattle.read_laws.proofs.WellFormed.{well_formed_read}
use Rattle.read_laws.proofs.programs.reads_well_formed.Goals as goal

pub returns-clause-formed : goal.returns-clause-formed
returns-clause-formed c = λ p h. well_formed_read c.args.bytes.now p (λ i. omega (arith, c.type_inv.bytes i)) h

pub returns-clause-bytes : goal.returns-clause-bytes
returns-clause-bytes c = λ i. omega (arith, c.type_inv.bytes i)
