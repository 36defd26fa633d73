use Rattle.pipeline.proofs.rounds.changed_passes.Goals as goal

pub returns : goal.returns
returns c = c.settle_bodies.ensures c.in_ok-marks.ensures
