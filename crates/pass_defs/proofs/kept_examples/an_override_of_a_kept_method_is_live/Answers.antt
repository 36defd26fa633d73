use Rattle.pass_defs.proofs.KeptMembers.{override_is_live, implemented_is_live}
use Rattle.pass_defs.proofs.kept_examples.an_override_of_a_kept_method_is_live.Goals as goal

pub returns-clause-class : goal.returns-clause-class
returns-clause-class c = override_is_live

pub returns-clause-interface : goal.returns-clause-interface
returns-clause-interface c = implemented_is_live
