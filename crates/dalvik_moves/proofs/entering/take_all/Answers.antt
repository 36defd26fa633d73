use Rattle.std.proofs.Common.{sym, subst}
use Rattle.std.proofs.lemmas.List.{take_all}
use Rattle.dalvik_lookups.specs.Playing.{AreEach, IsGift}
use Rattle.dalvik_lookups.specs.declared.plays.Gift.TheVariants as gift
use Rattle.dalvik_moves.proofs.Entered.{all_taken, taking_starts, taking_step}
use Rattle.dalvik_moves.proofs.entering.take_all.Goals as goal

pub loop-gift-init : goal.loop-gift-init
loop-gift-init c = λ o gs r reach s each.
    taking_starts c.args.tables.now.lookups o c.args.state.now.world gs c.new-gifts.result c.new-taken.result.items s c.new-gifts.ensures c.new-taken.ensures.items each

pub loop-gift-preserved : goal.loop-gift-preserved
loop-gift-preserved c = λ o gs r reach s each.
    taking_step c.args.tables.now.lookups o c.args.state.now.world c.args.values.now c.loop-gift.gift-index gift.Null c.loop-gift.gifts c.take.new.self c.loop-gift.taken.items c.push.new.self.items c.in_ok-one.one c.loop-gift-test.true
    (λ xs h. c.loop-gift.invariant o xs r reach s h) (λ g given is. c.in_ok-one.ensures o g r reach given is) c.in_ok-push.ensures.items gs each

pub returns : goal.returns
returns c = λ o gs r reach s each.
    let l = c.args.tables.now.lookups in
    all_taken l o c.args.state.now.world gs _
    (c.loop-gift.invariant o gs r reach s (subst (AreEach (IsGift l.types l.texts) gs) (sym (take_all c.loop-gift.gift-index c.args.values.now c.loop-gift-test.false)) each))
