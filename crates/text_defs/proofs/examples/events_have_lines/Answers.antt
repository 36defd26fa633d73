use Rattle.std.proofs.Common.{refl, arith}
use Rattle.std.proofs.lemmas.Fmt.{decimal_digit}
use Rattle.text_defs.specs.Digits.{hex}
use Rattle.text_defs.proofs.examples.events_have_lines.Goals as goal

pub returns-clause-call : goal.returns-clause-call
unfolding hex
returns-clause-call c = rw (decimal_digit 0 (omega arith)) refl
