use Rattle.dalvik_state.proofs.Tops.{stack_goes_on, stack_goes_on_with, stack_handles}
use Rattle.dalvik_state.proofs.laws.top_law.Goals as goal

pub returns : goal.returns
returns c = record {
  goes_on = λ n script old new f e low h. stack_goes_on n script old new f e low h;
  goes_on_with = λ n script old new f item register d e low h. stack_goes_on_with n script old new f item register d e low h;
  handles = λ n script old new f at d e h. stack_handles n script old new f at d e h;
}
