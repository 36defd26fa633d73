use Rattle.static_kept.proofs.Owing.{along_made, along_on, along_same, along_still}
use Rattle.static_kept.proofs.along.owes_along_law.Goals as goal

pub returns-clause-same : goal.returns-clause-same
returns-clause-same c = along_same

pub returns-clause-twice : goal.returns-clause-twice
returns-clause-twice c = along_on

pub returns-clause-still : goal.returns-clause-still
returns-clause-still c = λ o p q sound outer fewer virtuals shown holds. along_still o p q sound outer fewer virtuals shown holds

pub returns-clause-made : goal.returns-clause-made
returns-clause-made c = along_made
