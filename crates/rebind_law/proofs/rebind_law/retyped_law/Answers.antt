use Rattle.rebind_law.proofs.Retyping.{retyped_program}
use Rattle.rebind_law.proofs.rebind_law.retyped_law.Goals as goal

pub returns : goal.returns
returns c = λ p q typed h. retyped_program p q typed h
