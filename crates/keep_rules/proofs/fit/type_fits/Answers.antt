use Rattle.keep_rules.proofs.FitLemmas.{type_matched, type_missed}
use Rattle.keep_rules.proofs.fit.type_fits.Goals as goal

pub returns-in-Some : goal.returns-in-Some
returns-in-Some c = λ w is. type_matched c.args.pattern.now w c.args.descriptor.now c.in-Some.item.now c.item_fits.result is c.in-Some.ensures.some c.item_fits.ensures

pub returns-in-None : goal.returns-in-None
returns-in-None c = λ w is. type_missed c.args.pattern.now w c.args.descriptor.now is c.in-None.ensures.none
