use Rattle.thin_laws.proofs.Orders.{below_kept}
use Rattle.thin_laws.proofs.Demanded.{allowed_kept, wrong_kept}
use Rattle.thin_laws.proofs.Leaves.{after_kept, begun_kept}
use Rattle.thin_laws.proofs.thin_types.renamed_law.Goals as goal

pub returns-clause-order : goal.returns-clause-order
returns-clause-order c = λ s apart p a b. below_kept s apart p a b

pub returns-clause-reads : goal.returns-clause-reads
returns-clause-reads c = λ s apart p k m at a f. allowed_kept s apart p k m at a f

pub returns-clause-right : goal.returns-clause-right
returns-clause-right c = λ s apart p k m at a f. wrong_kept s apart p k m at a f

pub returns-clause-after : goal.returns-clause-after
returns-clause-after c = λ s apart p k at n f a. after_kept s apart p k at n f a

pub returns-clause-begun : goal.returns-clause-begun
returns-clause-begun c = λ s apart p k m b. begun_kept s apart p k m b
