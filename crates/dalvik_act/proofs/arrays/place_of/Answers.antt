use Rattle.std.proofs.Common.{arith}
use Rattle.dalvik_act.proofs.Elements.{place_low, place_high}
use Rattle.dalvik_act.proofs.arrays.place_of.Goals as goal

pub returns-then-index-lt2147483648 : goal.returns-then-index-lt2147483648
returns-then-index-lt2147483648 c = place_low c.args.index c.if-index-lt2147483648.true

pub returns-else-index-lt2147483648 : goal.returns-else-index-lt2147483648
returns-else-index-lt2147483648 c = place_high c.args.index c.if-index-lt2147483648.false (omega arith)
