use Rattle.std.proofs.Common.{take, subst}
use Rattle.dalvik_lookups.specs.Playing.{IsGift}
use Rattle.dalvik_lookups.proofs.Making.{grows_on}
use Rattle.dalvik_lookups.proofs.Playing.{gifts_stay, each_more}
use Rattle.dalvik_lookups.proofs.plays.gifts_of.Goals as goal

pub loop-value-preserved : goal.loop-value-preserved
loop-value-preserved c =
    let i = c.loop-value.invariant in
    let mid = c.loop-value.names in
    let new = c.gift_of.new.names in
    record {
      grows = λ r. grows_on c.args.names.now mid new (i.grows r) (c.in_ok-gift_of.ensures.grows (i.grows r).ready);
      each = λ r.
          let g = c.in_ok-gift_of.ensures.grows (i.grows r).ready in
          each_more (IsGift new.types new.texts) c.args.values.now c.loop-value.gifts.items c.push.new.self.items c.loop-value.value-index c.value-item.result c.in_ok-gift_of.field-0 c.loop-value-test.true
          (gifts_stay mid.types new.types mid.texts new.texts g.types g.texts (take c.loop-value.value-index c.args.values.now) c.loop-value.gifts.items (i.each r))
          (subst (λ v. IsGift new.types new.texts v c.in_ok-gift_of.field-0) c.value-item.is (c.in_ok-gift_of.ensures.is (i.grows r).ready)) c.in_ok-push.ensures.items;
    }
