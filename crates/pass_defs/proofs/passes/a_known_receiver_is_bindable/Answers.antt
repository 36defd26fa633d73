use Rattle.pass_defs.proofs.Rebinding.{is_bindable, is_out_of_reach}
use Rattle.pass_defs.proofs.passes.a_known_receiver_is_bindable.Goals as goal

pub returns-clause-bindable : goal.returns-clause-bindable
returns-clause-bindable c = is_bindable

pub returns-clause-hidden : goal.returns-clause-hidden
returns-clause-hidden c = is_out_of_reach
