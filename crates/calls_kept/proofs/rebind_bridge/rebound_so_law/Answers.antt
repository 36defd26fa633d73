use Rattle.std.specs.Prelude.{◌≡◌, true}
use Rattle.calls_kept.proofs.ReboundNamed.{rebound_shown, rebound_typed}
use Rattle.calls_kept.proofs.rebind_bridge.rebound_so_law.Goals as goal

pub returns-clause-shown : goal.returns-clause-shown
returns-clause-shown c = λ p q h facts t o facts_used w resolved ancestor typed uses names tabled others. rebound_shown p h w resolved ancestor typed facts t (facts_used ≡ true) uses names q others o tabled

pub returns-clause-typed : goal.returns-clause-typed
returns-clause-typed c = λ p q h facts t facts_used w resolved ancestor typed uses names others. rebound_typed p h w resolved ancestor typed facts t (facts_used ≡ true) uses names q others
