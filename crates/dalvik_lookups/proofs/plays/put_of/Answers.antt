use Rattle.std.proofs.Common.{refl}
use Rattle.dalvik_lookups.proofs.Making.{grows_on}
use Rattle.dalvik_lookups.proofs.Playing.{field_stays, held_stays, ready}
use Rattle.dalvik_lookups.proofs.plays.put_of.Goals as goal

pub returns-clause-is : goal.returns-clause-is
returns-clause-is c = λ p k.
    let a = c.in_ok-field.ensures.grows (ready p c.args.names.now c.args.declared.now k) in
    let b = c.in_ok-on.ensures.grows a.ready in
    let g = c.in_ok-value.ensures.grows b.ready in
    let first = c.field_of.new.names in
    let mid = c.option_of.new.names in
    let new = c.gift_of.new.names in
    let both = grows_on first mid new b g in
    record {
      class = c.args.class.now;
      name = c.args.name.now;
      kind = c.args.kind.now;
      on = c.args.on.now;
      value = c.args.value.now;
      is = refl;
      found = field_stays first.types new.types first.texts new.texts both.types both.texts p c.args.class.now c.args.name.now c.args.kind.now c.in_ok-field.field (c.in_ok-field.ensures.is p k);
      held = held_stays mid.types new.types mid.texts new.texts g.types g.texts c.args.on.now c.in_ok-on.on (c.in_ok-on.ensures.is a.ready);
      given = c.in_ok-value.ensures.is b.ready;
    }
