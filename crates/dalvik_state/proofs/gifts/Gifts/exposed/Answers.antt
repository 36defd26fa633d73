use Rattle.std.proofs.Common.{ap, arith, length, subst, sym, ◌≡◌, ◌-◌, ◌∙◌}
use Rattle.dalvik_defs.specs.declared.script.Given.TheVariants as given
use Rattle.dalvik_state.specs.Giving.{own_taken, Takes}
use Rattle.dalvik_state.specs.Worlds.{spots_of}
use Rattle.dalvik_state.proofs.Taking.{takes_own, takes_seen, unseen}
use Rattle.dalvik_state.proofs.gifts.Gifts.exposed.Goals as goal

pub returns-in-Some : goal.returns-in-Some
returns-in-Some c = λ l o h. takes_seen l o c.args.world.now c.args.self.now h c.args.place c.in-Some.number c.in-Some.ensures

pub returns-in-None : goal.returns-in-None
returns-in-None c = λ l o h.
    let w = c.args.world.now in
    let g = c.args.self.now in
    let place : c.saturating_sub.result ≡ c.args.place - length w.exposed.items = omega arith in
    subst (Takes l o w g g (given.Exposed c.args.place)) (sym (c.own_exposed.ensures ∙ ap (own_taken (length (spots_of w)) (length g.things.items)) place))
    (takes_own l o w g h c.args.place (unseen l o w g h c.args.place c.in-None.ensures))
