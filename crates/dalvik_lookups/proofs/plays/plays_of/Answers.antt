use Rattle.std.proofs.Common.{take, subst}
use Rattle.dalvik_lookups.specs.Playing.{IsPlay}
use Rattle.dalvik_lookups.proofs.Making.{grows_on}
use Rattle.dalvik_lookups.proofs.Playing.{plays_stay, each_more, knows_on, ready}
use Rattle.dalvik_lookups.proofs.plays.plays_of.Goals as goal

pub loop-one-preserved : goal.loop-one-preserved
loop-one-preserved c =
    let i = c.loop-one.invariant in
    let mid = c.loop-one.names in
    let new = c.play_of.new.names in
    record {
      grows = λ r. grows_on c.args.names.now mid new (i.grows r) (c.in_ok-play_of.ensures.grows (i.grows r).ready);
      are = λ p k.
          let a = i.grows (ready p c.args.names.now c.args.declared.now k) in
          let g = c.in_ok-play_of.ensures.grows a.ready in
          each_more (IsPlay p new.types new.texts) c.args.script.now c.loop-one.plays.items c.push.new.self.items c.loop-one.one-index c.one-item.result c.in_ok-play_of.field-0 c.loop-one-test.true
          (plays_stay mid.types new.types mid.texts new.texts g.types g.texts p (take c.loop-one.one-index c.args.script.now) c.loop-one.plays.items (i.are p k))
          (subst (λ m. IsPlay p new.types new.texts m c.in_ok-play_of.field-0) c.one-item.is (c.in_ok-play_of.ensures.is p (knows_on p c.args.names.now mid c.args.declared.now k a))) c.in_ok-push.ensures.items;
    }
