use Rattle.pass_defs.proofs.Conditional.{b_is_live, x_is_live}
use Rattle.pass_defs.proofs.examples.a_conditional_field_is_live.Goals as goal

pub returns-clause-class : goal.returns-clause-class
returns-clause-class c = b_is_live

pub returns-clause-field : goal.returns-clause-field
returns-clause-field c = x_is_live
