use Rattle.std.proofs.Common.{◌≡◌, ◌++◌, drop}
use Rattle.dex_write.specs.Data.{fields_text}
use Rattle.dex_write.proofs.classes.push_fields.Given as goal

abbrev pub invariant-loop-field : goal.invariant-loop-field
invariant-loop-field l = l.out.items ++ fields_text l.class l.before (drop l.field-index l.fields) ≡ l.fn.out.items ++ fields_text l.class 0 l.fields
