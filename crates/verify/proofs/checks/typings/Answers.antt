use Rattle.std.proofs.Common.{inr}
use Rattle.verify.proofs.checks.typings.Goals as goal

pub returns-in-Ok-clause-typed : goal.returns-in-Ok-clause-typed
returns-in-Ok-clause-typed c = record { verifier = c.in_ok-verifier.verifier; is = c.in_ok-verifier.ensures; types = c.in-Ok.ensures.typed }

pub returns-clause-refused : goal.returns-clause-refused
returns-clause-refused c = inr (record { verifier = c.in_ok-verifier.verifier; is = c.in_ok-verifier.ensures; refuses = c.in-Err.ensures.refused })
