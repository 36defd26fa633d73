use Rattle.std.proofs.Common.{inr}
use Rattle.verify.proofs.Bodies.{all_for, one_for}
use Rattle.verify.proofs.checks.verify_all.Goals as goal

pub returns-in-Ok-clause-typed : goal.returns-in-Ok-clause-typed
returns-in-Ok-clause-typed c = all_for c.args.program.now c.args.hierarchy.now c.in_ok-verifier.verifier c.in_ok-verifier.ensures (c.has_few_classes.ensures c.if-not-has_few_classes.false) c.in-Ok.ensures.typed

pub returns-clause-refused : goal.returns-clause-refused
returns-clause-refused c = inr (one_for c.args.program.now c.args.hierarchy.now c.in_ok-verifier.verifier c.in-Err.fault c.in_ok-verifier.ensures (c.has_few_classes.ensures c.if-not-has_few_classes.false) c.in-Err.ensures.refused)
