use Rattle.std.proofs.Common.{◌∙◌, refl, sym}
use Rattle.call_targets.proofs.Contained.{at_place}
use Rattle.call_targets.proofs.Stepping.{statics_at, any_more, any_same}
use Rattle.call_targets.proofs.entered.enter_statics.Goals as goal
use Rattle.call_targets.proofs.entered.enter_statics.Goals.{then-enter_static, else-enter_static}

pub loop-own-preserved : goal.loop-own-preserved
loop-own-preserved c =
    let k = c.args.kept.now in
    let o = c.args.initialiser in
    let xs = c.args.methods.now in
    let i = c.loop-own.own in
    let m = c.index-methods-own.result in
    let at = at_place xs xs i m refl c.index-methods-own.is c.loop-own-test.true in
    record {
      some = elim c.if-enter_static.branch [
        | then-enter_static w ↦ w.any-is ∙ any_more k o xs i m at c.loop-own.any c.loop-own.invariant.some (sym c.enter_static.ensures.is ∙ w.if-enter_static.true)
        | else-enter_static w ↦ w.any-is ∙ any_same k o xs i m at c.loop-own.any c.loop-own.invariant.some (sym c.enter_static.ensures.is ∙ w.if-enter_static.false)
      ];
      adds = statics_at c.args.targets.now c.loop-own.targets c.enter_static.new.targets k o xs i m at c.loop-own.invariant.adds c.enter_static.ensures.adds;
    }
