use Rattle.dead_code.specs.Wishes.{AreCleaned}
use Rattle.squeeze.specs.Skipping.{AreSkips}
use Rattle.layout_steps.proofs.Thinned.{thinned_lies}
use Rattle.layout_steps.proofs.layout_bridge.thinned_lays_out_law.Goals as goal

pub returns-clause-cleaned : goal.returns-clause-cleaned
returns-clause-cleaned c = λ admitted quiet p d. thinned_lies (AreCleaned quiet) admitted p d

pub returns-clause-squeezed : goal.returns-clause-squeezed
returns-clause-squeezed c = λ admitted p d. thinned_lies AreSkips admitted p d
