use Rattle.std.proofs.Common.{arith, to_z, of_z, w32}
use Rattle.std.proofs.lemmas.Int.{ints}
use Rattle.dex_base.proofs.Signed.{value_four, value_five}
use Rattle.dex_base.proofs.leb.signed_value.Goals as goal

pub returns-in-len4 : goal.returns-in-len4
returns-in-len4 c = value_four c.args.text.now (to_z w32 (of_z w32 c.onto-in-len4-3.result)) (omega arith) (omega arith) c.requires.ends (omega (arith, ints))

pub returns-in-len5 : goal.returns-in-len5
returns-in-len5 c = value_five c.args.text.now (to_z w32 (of_z w32 c.onto-in-len5-4.result)) (omega arith) (omega arith) c.requires.ends (omega (arith, ints))
