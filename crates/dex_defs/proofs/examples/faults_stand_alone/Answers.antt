use Rattle.dex_defs.proofs.Faulty.{unordered, rootless, unknown}
use Rattle.dex_defs.proofs.examples.faults_stand_alone.Goals as goal

pub returns : goal.returns
returns c = record { unordered = unordered; rootless = rootless; unknown = unknown }
