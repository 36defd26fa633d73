use Rattle.std.proofs.Common.{rules}
use Rattle.script_text.proofs.DigitLemmas.{place_more}
use Rattle.script_text.proofs.digits.decimal_place.Goals as goal

pub loop-c-preserved : goal.loop-c-preserved
loop-c-preserved c = place_more c.args.text.now c.loop-c.c-index c.loop-c.place _ c.loop-c-test.true (search rules) c.loop-c.invariant (search rules)
