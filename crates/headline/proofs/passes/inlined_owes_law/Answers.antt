use Rattle.headline.proofs.Inlining.{known_owes, frameless_owes}
use Rattle.headline.proofs.passes.inlined_owes_law.Goals as goal

pub returns-clause-known : goal.returns-clause-known
returns-clause-known c = known_owes

pub returns-clause-frameless : goal.returns-clause-frameless
returns-clause-frameless c = frameless_owes
