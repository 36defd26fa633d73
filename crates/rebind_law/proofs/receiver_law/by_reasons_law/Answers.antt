use Rattle.std.specs.Prelude.{◌≡◌, true}
use Rattle.rebind_law.proofs.ByReasons.{reasons_shown, reasons_typed}
use Rattle.rebind_law.proofs.receiver_law.by_reasons_law.Goals as goal

pub returns-clause-shown : goal.returns-clause-shown
returns-clause-shown c = λ facts_used p q t o numbers regular acyclic base h. reasons_shown (facts_used ≡ true) p q t regular h acyclic o numbers base

pub returns-clause-typed : goal.returns-clause-typed
returns-clause-typed c = λ facts_used p q t regular h. reasons_typed (facts_used ≡ true) p q t regular h
