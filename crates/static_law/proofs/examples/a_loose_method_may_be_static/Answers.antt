use Rattle.std.proofs.Common.{true}
use Rattle.dalvik_defs.specs.Examples.{keeps_m}
use Rattle.dalvik_defs.specs.Names.{void}
use Rattle.pass_defs.specs.LooseExamples.{is_q, loose_program, needs_no_receiver}
use Rattle.pass_defs.proofs.Loosely.{q_is_loose}
use Rattle.static_law.proofs.Judged.{may_be_static}
use Rattle.static_law.proofs.examples.a_loose_method_may_be_static.Goals as goal

pub returns : goal.returns
returns c = may_be_static needs_no_receiver loose_program (keeps_m void) true (λ x. Unit {0}) (λ k. true) (λ k n r. Unit {0}) is_q q_is_loose
