use Rattle.std.proofs.Common.{◌<◌, length, arith, refl, subst}
use Rattle.std.specs.Prelude.{◌^◌}
use Rattle.dalvik_defs.specs.Names.{throwable_type}
use Rattle.dalvik_state.specs.Runs.{world_in}
use Rattle.dalvik_state.specs.Views.{names_in, value_of}
use Rattle.dalvik_state.specs.Worlds.{spots_of}
use Rattle.dalvik_steps.specs.Falls.{IsFalling}
use Rattle.dalvik_steps.specs.declared.throwing.Landing.{Landing}
use Rattle.dalvik_steps.specs.declared.throwing.Landing.TheVariants as landing
use Rattle.dalvik_steps.proofs.Landed.{exhibits, lands_framework, lands_handler, lands_nowhere}
use Rattle.dalvik_steps.proofs.throwing.descend.Goals as goal

pub returns-in-Handler : goal.returns-in-Handler
returns-in-Handler c = λ l steps script all r h.
    let place = c.in-Handler.place in
    let at = c.in-Handler.position in
    let begun = subst (λ (to : Landing). IsFalling l steps script all to c.args.state.now c.args.wraps.now c.args.datum) c.in-Handler.is h in
    let fallen = c.unwind-caught.ensures l steps script all (landing.Handler place at) r refl begun in
    let mid = c.unwind-caught.new.state in
    let small : at < 2 ^ 32 = omega arith in
    lands_handler l r steps script all mid fallen.more c.unwind-caught.result c.go_to_handler.new.self place at fallen.falls fallen.low small c.go_to_handler.ensures.stack c.go_to_handler.ensures.rest

pub returns-in-Framework : goal.returns-in-Framework
returns-in-Framework c = λ l steps script all r h.
    let place = c.in-Framework.place in
    let shown = c.in-Framework.shown in
    let begun = subst (λ (to : Landing). IsFalling l steps script all to c.args.state.now c.args.wraps.now c.args.datum) c.in-Framework.is h in
    let fallen = c.unwind-uncaught.ensures l steps script all (landing.Framework place shown) r refl begun in
    let mid = c.unwind-uncaught.new.state in
    let d = c.unwind-uncaught.result in
    let x = exhibits l r steps script all mid fallen.more d place shown fallen.falls fallen.low in
    let draft = c.draft_of.ensures (names_in l) (world_in l mid) (length (spots_of mid.world)) x in
    let seen = c.show-value.ensures.shown l throwable_type (value_of (names_in l) d) fallen.falls.running.world fallen.falls.room draft in
    lands_framework l r steps script all mid fallen.more d c.show-value.new.world c.set_pending.new.self place shown c.show-value.result fallen.falls fallen.low seen c.set_pending.ensures.rest c.set_pending.ensures.stack

pub returns-in-Nowhere : goal.returns-in-Nowhere
returns-in-Nowhere c = λ l steps script all r h.
    let begun = subst (λ (to : Landing). IsFalling l steps script all to c.args.state.now c.args.wraps.now c.args.datum) c.in-Nowhere.is h in
    lands_nowhere l r steps script all c.args.state.now c.args.wraps.now c.args.datum c.end.new.self c.end.ensures begun
