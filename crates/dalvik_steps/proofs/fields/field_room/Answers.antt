use Rattle.std.proofs.Common.{refl}
use Rattle.dalvik_steps.proofs.fields.field_room.Goals as goal

pub returns-clause-same : goal.returns-clause-same
returns-clause-same c = record {
  entries = c.reserve.ensures.entries.0;
  fields = λ number slot. c.reserve.ensures.entries.2 (number, slot);
  heap = refl;
  statics = refl;
  locks = refl;
  exposed = refl;
}

pub returns-in_err-reserve-clause-same : goal.returns-in_err-reserve-clause-same
returns-in_err-reserve-clause-same c = record {
  entries = c.reserve.ensures.entries.0;
  fields = λ number slot. c.reserve.ensures.entries.2 (number, slot);
  heap = refl;
  statics = refl;
  locks = refl;
  exposed = refl;
}
