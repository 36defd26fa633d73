use Rattle.std.proofs.Common.{arith}
use Rattle.spelled_law.proofs.OnceFile.{spells_once}
use Rattle.spelled_law.proofs.Whole.{read_is_spelled}
use Rattle.spelled_law.proofs.laws.reads_spelled.Goals as goal

pub returns : goal.returns
returns c = record {
  spelled = λ p h. read_is_spelled c.args.bytes.now p (λ i. omega (arith, c.type_inv.bytes i)) h;
  once = λ p q a b. spells_once c.args.bytes.now p q (λ i. omega (arith, c.type_inv.bytes i)) a b;
}
