use Rattle.dex_base.proofs.DescriptorReading.{is_descriptor}
use Rattle.dex_base.proofs.laws.descriptor_law.Goals as goal

pub returns : goal.returns
returns c = is_descriptor
