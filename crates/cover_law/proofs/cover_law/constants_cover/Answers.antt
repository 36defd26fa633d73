use Rattle.pass_defs.specs.FlatAnalysis.{flat_analysis}
use Rattle.dalvik_defs.specs.Under.{is_under}
use Rattle.cover_law.proofs.FlatSound.{flat_sound}
use Rattle.cover_law.proofs.Runs.{covered_regular}
use Rattle.cover_law.proofs.SoundOn.{sound_on}
use Rattle.cover_law.proofs.cover_law.constants_cover.Goals as goal

pub returns : goal.returns
returns c = λ p o f floats facts script n base fit. covered_regular flat_analysis p o f floats facts script n (record { tabled = base; sound = sound_on flat_analysis (is_under p f) floats (flat_sound (is_under p f) floats) }) fit
