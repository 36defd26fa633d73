use Rattle.std.proofs.Common.{refl}
use Rattle.dalvik_lookups.proofs.lookups.tables_of.Goals as goal

pub returns : goal.returns
returns c = record {
  over = record { program = refl; types = refl; texts = refl; kinds = refl; strings = refl; class_of = refl; class_kinds = refl };
  classes = refl;
  above = refl;
  framework = refl;
  slots = refl;
  constructors = refl;
  outer = refl;
  defaults = refl;
  count = c.slot_count.ensures;
}
