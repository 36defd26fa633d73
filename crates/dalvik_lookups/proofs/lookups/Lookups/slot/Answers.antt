use Rattle.std.proofs.Common.{ap, ◌∙◌}
use Rattle.dalvik_lookups.specs.Slots.{slot_in}
use Rattle.dalvik_lookups.proofs.lookups.Lookups.slot.Goals as goal

pub returns : goal.returns
returns c = λ r. c.slot_at.ensures ∙ ap (λ v. slot_in v c.args.class c.args.place) (c.as_slice.ensures.value ∙ r.slots)
