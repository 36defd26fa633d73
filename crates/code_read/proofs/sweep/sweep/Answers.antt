use Rattle.std.proofs.Common.{◌≡◌, ◌≤◌, ◌<◌, length, drop, get_or, sym, ◌∙◌, ap, subst, arith, Result, Ok, Err}
use Rattle.std.proofs.lemmas.Grind.{common_steps}
use Rattle.std.proofs.lemmas.Result.{err_from_is_err_and}
use Rattle.dex_base.proofs.Loop.{fails_known}
use Rattle.code_read.proofs.Sweeping.{sweep_begins, sweep_goes_on, sweep_fails, sweep_is_done, starts_rise, pays_rise}
use Rattle.code_read.proofs.sweep.sweep.Goals as goal

pub loop-at-init : goal.loop-at-init
loop-at-init c = rw (c.new.ensures.items, c.new-2.ensures.items) (sweep_begins c.args.units.now)

pub returns-in_err-size-clause-gives : goal.returns-in_err-size-clause-gives
returns-in_err-size-clause-gives c =
    let p = err_from_is_err_and c.from_residual.result c.from_residual.ensures.1 in
    let is = rw c.rest_from-rest.ensures at c.in_err-size.ensures.is in
    rw (p.1, p.2) (fails_known _ _ _ (sweep_fails _ _ _ _ c.loop-at.invariant c.loop-at-test.true (sym is)))

pub loop-at-preserved : goal.loop-at-preserved
loop-at-preserved c =
    let e = c.rest_from-rest.ensures in
    let is = rw e at c.in_ok-size.ensures.is in
    let inside = rw e at c.in_ok-size.ensures.inside in
    let unit = rw e at c.unit_at.ensures in
    sweep_goes_on _ _ _ _ _ _ c.loop-at.invariant c.loop-at-test.true (sym is) c.in_ok-size.ensures.some inside unit c.in_ok-take_piece.ensures

pub returns-clause-starts : goal.returns-clause-starts
returns-clause-starts c = rw c.truncate.ensures.items (starts_rise _ _ _ (sweep_is_done _ _ _ c.loop-at.invariant c.loop-at-test.false))

pub returns-clause-payloads : goal.returns-clause-payloads
returns-clause-payloads c = pays_rise _ _ _ (sweep_is_done _ _ _ c.loop-at.invariant c.loop-at-test.false)
