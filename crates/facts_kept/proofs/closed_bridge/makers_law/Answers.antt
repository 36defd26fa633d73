use Rattle.class_defs.proofs.WellFormed.{sound}
use Rattle.facts_kept.proofs.Making.{makers_named}
use Rattle.facts_kept.proofs.closed_bridge.makers_law.Goals as goal

pub returns : goal.returns
returns c p formed once o own = makers_named p (sound p formed) once o own
