use Rattle.std.proofs.Common.{refl, subst}
use Rattle.dalvik_lookups.specs.Playing.{AreEach, IsGift}
use Rattle.dalvik_lookups.proofs.Playing.{ready}
use Rattle.dalvik_lookups.proofs.plays.enter_of.Goals as goal

pub returns-clause-is : goal.returns-clause-is
returns-clause-is c = λ p k.
    let a = c.in_ok-found.ensures.grows (ready p c.args.names.now c.args.declared.now k) in
    record {
      class = c.args.class.now;
      name = c.args.name.now;
      proto = c.args.proto.now;
      values = c.args.values.now;
      is = refl;
      found = c.in_ok-found.ensures.is p k;
      given = subst (λ v. AreEach (IsGift c.gifts_of.new.names.types c.gifts_of.new.names.texts) v c.in_ok-values.values.items) c.as_slice.ensures (c.in_ok-values.ensures.is a.ready);
    }
