use Rattle.pass_defs.specs.FlatAnalysis.{flat_analysis}
use Rattle.cover_law.proofs.FlatSound.{flat_sound}
use Rattle.cover_law.proofs.SoundOn.{sound_on}
use Rattle.cover_law.proofs.cover_law.constants_are_sound.Goals as goal

pub returns-clause-all : goal.returns-clause-all
returns-clause-all c = flat_sound

pub returns-clause-typed : goal.returns-clause-typed
returns-clause-typed c = λ under floats. sound_on flat_analysis under floats (flat_sound under floats)
