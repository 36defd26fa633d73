use Rattle.std.proofs.Common.{take}
use Rattle.std.specs.List.{flat_map}
use Rattle.dex_write.specs.Plans.{field_marks}
use Rattle.dex_write.specs.Sets.{ordered_marks, Added}
use Rattle.dex_write.proofs.marks.push_fields.Given as goal

abbrev pub invariant-loop-field : goal.invariant-loop-field
invariant-loop-field l = Added l.numbers (flat_map (λ f. ordered_marks l.numbers (field_marks l.class f.1)) (take l.field-index l.fields)) l.fn.out.bytes.items l.fn.out.starts.items l.out.bytes.items l.out.starts.items
