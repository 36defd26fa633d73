use Rattle.std.proofs.Common.{map, refl}
use Rattle.hierarchy.specs.Membership.{key_at}
use Rattle.hierarchy.proofs.Indexed.{mapped_more}
use Rattle.hierarchy.proofs.members.rows_of_fields.Goals as goal

pub loop-class-preserved : goal.loop-class-preserved
loop-class-preserved c = mapped_more (λ k. map (λ f. key_at c.args.keys.now f.name) k.fields) c.args.classes.now c.args.classes.now c.loop-class.class-index c.class-item.result c.loop-class.rows c.push.new.self c.in_ok-keys_of_fields.field-0 refl c.class-item.is c.loop-class-test.true c.in_ok-push.ensures.ok c.in_ok-keys_of_fields.ensures c.loop-class.invariant
