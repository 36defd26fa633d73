use Rattle.std.proofs.Common.{ap, ◌∙◌}
use Rattle.dalvik_state.specs.States.{classes_of}
use Rattle.dalvik_state.proofs.Opening.{status_named}
use Rattle.dalvik_state.proofs.state.State.set_status.Goals as goal

pub returns-clause-named : goal.returns-clause-named
returns-clause-named c = λ p own low. ap (classes_of p) c.write_status.ensures ∙ status_named p c.args.self.now.statuses.items c.args.class c.args.status own low
