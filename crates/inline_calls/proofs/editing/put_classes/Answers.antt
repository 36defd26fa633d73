use Rattle.std.proofs.Common.{refl, arith}
use Rattle.std.specs.Prelude.{[]}
use Rattle.inline_calls.specs.Edited.{class_by}
use Rattle.inline_calls.proofs.Edits.{each_more, each_all}
use Rattle.inline_calls.proofs.editing.put_classes.Goals as goal

pub loop-place-preserved : goal.loop-place-preserved
loop-place-preserved c = each_more class_by [] c.args.rows.now c.args.classes.now c.loop-place.classes c.loop-place.place _ c.put_class.new.class (c.row_at.result.now) (λ x. refl) (omega arith) c.loop-place.invariant c.row_at.ensures c.in_ok-put_class.ensures

pub returns : goal.returns
returns c = each_all class_by c.args.rows.now c.args.classes.now c.loop-place.classes c.loop-place.place (omega arith) c.loop-place.invariant
