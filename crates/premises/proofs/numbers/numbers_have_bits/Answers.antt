use Rattle.std.proofs.Common.{All, subst}
use Rattle.premises.specs.Numbers.{ClassHasWords}
use Rattle.premises.proofs.Words.{all_words}
use Rattle.premises.proofs.numbers.numbers_have_bits.Goals as goal

pub returns-clause-all : goal.returns-clause-all
returns-clause-all c = all_words c.args.program.now (subst (λ cs. All ClassHasWords cs) c.as_slice.ensures c.read_classes.ensures)
