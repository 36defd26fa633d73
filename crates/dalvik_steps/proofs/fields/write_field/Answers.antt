use Rattle.std.proofs.Common.{refl}
use Rattle.dalvik_steps.proofs.fields.write_field.Goals as goal

pub returns-clause-put : goal.returns-clause-put
returns-clause-put c = record {
  puts = λ m s. c.in_ok-insert.ensures.updates.0 (m, s);
  before = c.in_ok-insert.field-0;
  entry = c.in_ok-insert.ensures.entries;
  heap = refl;
  statics = refl;
  locks = refl;
  exposed = refl;
}
