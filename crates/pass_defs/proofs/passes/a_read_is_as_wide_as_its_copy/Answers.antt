use Rattle.std.proofs.Common.{refl}
use Rattle.insn_set.specs.declared.ops.Slot.TheVariants as slot
use Rattle.pass_defs.proofs.Copies.{wide_stale, other_width_stays}
use Rattle.pass_defs.proofs.passes.a_read_is_as_wide_as_its_copy.Goals as goal

pub returns-clause-wide : goal.returns-clause-wide
returns-clause-wide c = wide_stale

pub returns-clause-half : goal.returns-clause-half
returns-clause-half c = other_width_stays slot.Wide slot.Word refl

pub returns-clause-wider : goal.returns-clause-wider
returns-clause-wider c = other_width_stays slot.Word slot.Wide refl
