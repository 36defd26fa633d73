use Rattle.std.proofs.Common.{take}
use Rattle.std.specs.List.{flat_map}
use Rattle.dex_write.specs.Plans.{parameter_marks}
use Rattle.dex_write.specs.Sets.{ordered_marks, Added}
use Rattle.dex_write.proofs.marks.push_parameters.Given as goal

abbrev pub invariant-loop-method : goal.invariant-loop-method
invariant-loop-method l = Added l.numbers (flat_map (λ m. flat_map (ordered_marks l.numbers) (parameter_marks l.class m.place)) (take l.method-index l.methods)) l.fn.out.bytes.items l.fn.out.starts.items l.out.bytes.items l.out.starts.items
