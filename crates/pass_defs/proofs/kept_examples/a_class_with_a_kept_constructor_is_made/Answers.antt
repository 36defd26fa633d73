use Rattle.pass_defs.proofs.KeptMembers.{constructed_is_made, called_is_live}
use Rattle.pass_defs.proofs.kept_examples.a_class_with_a_kept_constructor_is_made.Goals as goal

pub returns-clause-made : goal.returns-clause-made
returns-clause-made c = constructed_is_made

pub returns-clause-called : goal.returns-clause-called
returns-clause-called c = called_is_live
