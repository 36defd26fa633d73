use Rattle.std.proofs.Common.{refl}
use Rattle.dalvik_lookups.proofs.Playing.{gift_stays}
use Rattle.dalvik_lookups.proofs.plays.array_put_of.Goals as goal

pub returns-clause-is : goal.returns-clause-is
returns-clause-is c = λ p r.
    let a = c.in_ok-on.ensures.grows r in
    let g = c.in_ok-value.ensures.grows a.ready in
    let mid = c.gift_of.new.names in
    let new = c.gift_of-2.new.names in
    record {
      on = c.args.on.now;
      value = c.args.value.now;
      is = refl;
      held = gift_stays mid.types new.types mid.texts new.texts g.types g.texts c.args.on.now c.in_ok-on.on (c.in_ok-on.ensures.is r);
      given = c.in_ok-value.ensures.is a.ready;
    }
