use Rattle.static_kept.proofs.Made.{along_loosened}
use Rattle.static_kept.proofs.Staying.{along_before, along_behind, along_inlined, along_kept, along_then}
use Rattle.static_kept.proofs.along.stays_along_law.Goals as goal

pub returns-clause-kept : goal.returns-clause-kept
returns-clause-kept c = along_kept

pub returns-clause-twice : goal.returns-clause-twice
returns-clause-twice c = along_then

pub returns-clause-inlined : goal.returns-clause-inlined
returns-clause-inlined c = along_inlined

pub returns-clause-behind : goal.returns-clause-behind
returns-clause-behind c = along_behind

pub returns-clause-before : goal.returns-clause-before
returns-clause-before c = along_before

pub returns-clause-made : goal.returns-clause-made
returns-clause-made c = λ p q facts o admitted w twice x. along_loosened p q facts o admitted w twice x
