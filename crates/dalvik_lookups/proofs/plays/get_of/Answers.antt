use Rattle.std.proofs.Common.{refl}
use Rattle.dalvik_lookups.proofs.Playing.{field_stays, ready}
use Rattle.dalvik_lookups.proofs.plays.get_of.Goals as goal

pub returns-clause-is : goal.returns-clause-is
returns-clause-is c = λ p k.
    let a = c.in_ok-field.ensures.grows (ready p c.args.names.now c.args.declared.now k) in
    let g = c.in_ok-on.ensures.grows a.ready in
    let mid = c.field_of.new.names in
    let new = c.option_of.new.names in
    record {
      class = c.args.class.now;
      name = c.args.name.now;
      kind = c.args.kind.now;
      on = c.args.on.now;
      is = refl;
      found = field_stays mid.types new.types mid.texts new.texts g.types g.texts p c.args.class.now c.args.name.now c.args.kind.now c.in_ok-field.field (c.in_ok-field.ensures.is p k);
      held = c.in_ok-on.ensures.is a.ready;
    }
