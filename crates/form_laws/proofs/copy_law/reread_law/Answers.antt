use Rattle.form_laws.proofs.Copying.{copied_shown}
use Rattle.form_laws.proofs.Rereading.{reread_reads}
use Rattle.form_laws.proofs.copy_law.reread_law.Goals as goal

pub returns-clause-body : goal.returns-clause-body
returns-clause-body c = reread_reads

pub returns-clause-shown : goal.returns-clause-shown
returns-clause-shown c = λ p o new solid all. copied_shown p new (record { code = all.code; bodies = λ k m b d i j e e'. reread_reads b d (all.bodies k m b d i j e e') }) solid o
