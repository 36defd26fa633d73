use Rattle.thin_pass.proofs.Lighter.{thinned_same, thinned_falls, thinned_less}
use Rattle.thin_pass.proofs.program.thin_program.Goals as goal

pub returns-clause-same : goal.returns-clause-same
returns-clause-same g c = thinned_same _ _ _ _ c.in_ok-changed.ensures

pub returns-clause-falls : goal.returns-clause-falls
returns-clause-falls g c = thinned_falls _ _ _ _ c.in_ok-changed.ensures

pub returns-clause-less : goal.returns-clause-less
returns-clause-less g c = thinned_less _ _ _ _ c.in_ok-changed.ensures
