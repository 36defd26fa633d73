use Rattle.std.proofs.Common.{refl, ap, ◌∙◌, arith}
use Rattle.rewrite_pass.specs.Plans.{class_by}
use Rattle.rewrite_pass.proofs.Writing.{each_more, each_all}
use Rattle.rewrite_pass.proofs.write.write_classes.Goals as goal

pub loop-place-preserved : goal.loop-place-preserved
loop-place-preserved c = each_more class_by c.args.plan.now c.args.classes.now c.loop-place.classes c.loop-place.place _ c.write_class.new.class c.plan_at.result.now (λ x. refl) (omega arith) c.loop-place.invariant c.plan_at.ensures c.in_ok-write_class.ensures

pub returns : goal.returns
returns c = each_all class_by c.args.plan.now c.args.classes.now c.loop-place.classes c.loop-place.place (λ x. refl) (omega arith) c.loop-place.invariant
