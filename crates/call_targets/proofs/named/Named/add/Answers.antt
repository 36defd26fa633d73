use Rattle.std.proofs.Common.{◌≤◌, subst, sym, refl, arith}
use Rattle.call_targets.specs.Adding.{TurnsOn}
use Rattle.call_targets.specs.Targeted.{call_at}
use Rattle.call_targets.proofs.Contained.{got_short}
use Rattle.call_targets.proofs.Naming.{notes_new}
use Rattle.call_targets.proofs.Turning.{number_is, turn_in}
use Rattle.call_targets.proofs.named.Named.add.Goals as goal

pub returns-in_ok-list-in-Some : goal.returns-in_ok-list-in-Some
returns-in_ok-list-in-Some c = λ few are.
    let p = c.args.at.now.program.now in
    let old = c.args.self.now in
    let n = call_at c.args.method c.args.interface in
    let lt = got_short p.methods c.args.method c.in-Some.name.now (sym c.in-Some.ensures) in
    let m : c.args.method ≤ 65536 = omega (arith, lt, few) in
    let is = number_is c.args.method c.args.interface c.call_number-number.result m c.call_number-number.ensures in
    notes_new p old c.list.new.self c.args.interface c.args.method c.in-Some.name.now (record { number = c.call_number-number.result; method = c.args.method }) are (sym c.in-Some.ensures) is refl
    (subst (λ v. TurnsOn n old.seen.items v.items) (sym c.in_ok-list-in-Some.ensures.seen) (turn_in old.seen n c.call_number-number.result c.deref_mut.result.now c.turn_on.new.marks c.turn_on.ensures c.deref_mut.ensures.value c.deref_mut.ensures.len is))
    c.in_ok-list-in-Some.ensures.long c.in_ok-list-in-Some.ensures.rows
