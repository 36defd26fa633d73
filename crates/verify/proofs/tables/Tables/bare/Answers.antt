use Rattle.std.proofs.Common.{refl, ap, length, arith}
use Rattle.verify.proofs.Standing.{meets_where}
use Rattle.verify.proofs.tables.Tables.bare.Goals as goal

pub returns : goal.returns
returns c = meets_where _ 0 0 (ap length c.new-3.ensures.items) c.alone.ensures.none c.alone.ensures.sound refl (λ k lt. absurd (omega (arith, lt))) (λ k lt. absurd (omega (arith, lt)))
