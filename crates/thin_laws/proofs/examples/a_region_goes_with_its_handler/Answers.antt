use Rattle.thin_laws.proofs.Lost.{fits_before, fits_still}
use Rattle.thin_laws.proofs.examples.a_region_goes_with_its_handler.Goals as goal

pub returns-clause-before : goal.returns-clause-before
returns-clause-before c = λ p. fits_before p

pub returns-clause-behind : goal.returns-clause-behind
returns-clause-behind c = λ p. fits_still p
