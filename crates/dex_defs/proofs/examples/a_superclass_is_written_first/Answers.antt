use Rattle.std.proofs.Common.{refl}
use Rattle.dex_defs.proofs.examples.a_superclass_is_written_first.Goals as goal

pub returns : goal.returns
returns c = λ flags. refl
