use Rattle.std.proofs.Common.{◌≡◌, ◌++◌, take, map, length}
use Rattle.dex_write.specs.Plans.{field_marks}
use Rattle.dex_write.proofs.sets.push_field_counts.Given as goal

abbrev pub invariant-loop-field : goal.invariant-loop-field
invariant-loop-field l = l.counts.items ≡ l.fn.counts.items ++ map (λ f. length (field_marks l.class f.1)) (take l.field-index l.fields)
