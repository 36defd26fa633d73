use Rattle.std.proofs.Common.{rules}
use Rattle.script_text.proofs.DigitLemmas.{hex_more}
use Rattle.script_text.proofs.digits.hex_value.Goals as goal

pub loop-c-preserved : goal.loop-c-preserved
loop-c-preserved c = hex_more c.args.text.now c.loop-c.c-index _ _ c.loop-c-test.true c.loop-c.invariant (search rules)
