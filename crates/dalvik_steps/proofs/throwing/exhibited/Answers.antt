use Rattle.std.proofs.Common.{subst}
use Rattle.dalvik_steps.specs.Flights.{FliesAs}
use Rattle.dalvik_steps.proofs.Flying.{exhibits_old}
use Rattle.dalvik_steps.proofs.throwing.exhibited.Goals as goal

pub returns-in_ok-drafted-in-Some-default : goal.returns-in_ok-drafted-in-Some-default
returns-in_ok-drafted-in-Some-default c = λ w v r i f.
    let l = c.args.tables.now.lookups in
    let base = c.args.world.now in
    let g = c.args.gifts.now in
    let d = c.in-Some-default.datum in
    let value = subst (FliesAs l base g w v) c.in-Some-default.is-0 f.value in
    exhibits_old l r base g w v d c.plain-throwable.result _ value.0 f.later c.plain-throwable.ensures
    (c.in_ok-drafted-in-Some-default.ensures (record { types = r.tabled.named.types; sound = i.sound; kinds = i.kinds; fine = value.1 }))
