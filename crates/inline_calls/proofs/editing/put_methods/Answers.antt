use Rattle.std.proofs.Common.{refl, arith}
use Rattle.std.specs.Prelude.{None}
use Rattle.std.specs.Option.{option_copied}
use Rattle.inline_calls.specs.Edited.{method_by}
use Rattle.inline_calls.proofs.Edits.{each_more, each_all}
use Rattle.inline_calls.proofs.editing.put_methods.Goals as goal

pub loop-place-preserved : goal.loop-place-preserved
loop-place-preserved c = each_more method_by None c.args.row.now c.args.methods.now c.loop-place.methods c.loop-place.place _ c.put_method.new.method (option_copied c.edit_at.result) (λ x. refl) (omega arith) c.loop-place.invariant c.edit_at.ensures c.in_ok-put_method.ensures

pub returns : goal.returns
returns c = each_all method_by c.args.row.now c.args.methods.now c.loop-place.methods c.loop-place.place (omega arith) c.loop-place.invariant
