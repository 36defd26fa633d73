use Rattle.std.proofs.Common.{refl, ap, ◌∙◌, arith}
use Rattle.rewrite_pass.specs.Plans.{method_by}
use Rattle.rewrite_pass.proofs.Writing.{each_more, each_all}
use Rattle.rewrite_pass.proofs.write.write_methods.Goals as goal

pub loop-place-preserved : goal.loop-place-preserved
loop-place-preserved c = each_more method_by c.args.plan.now c.args.methods.now c.loop-place.methods c.loop-place.place _ c.write_method.new.method c.edits_at.result.now (λ x. refl) (omega arith) c.loop-place.invariant c.edits_at.ensures c.in_ok-write_method.ensures

pub returns : goal.returns
returns c = each_all method_by c.args.plan.now c.args.methods.now c.loop-place.methods c.loop-place.place (λ x. refl) (omega arith) c.loop-place.invariant
