use Rattle.std.proofs.Common.{rules}
use Rattle.verify.proofs.Ranked.{made_of}
use Rattle.verify.proofs.chains.Chains.make.Goals as goal

pub returns-clause-made : goal.returns-clause-made
returns-clause-made c = λ of small. made_of c.args.program.now c.args.hierarchy.now c.word-classes.result c.in_ok-supers.supers.items c.in_ok-chains.chains c.settle_all.new.self c.checked.result of small (search rules) c.in_ok-supers.ensures.size (c.in_ok-supers.ensures.is of) c.in_ok-chains.ensures.supers c.in_ok-chains.ensures.settled c.in_ok-settle_all.ensures.goes c.in_ok-settle_all.ensures.supers c.checked.ensures.kept c.checked.ensures.sound
