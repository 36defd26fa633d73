use Rattle.std.proofs.Common.{◌∙◌, ap, sym, ◌<◌, true, length, get_or, arith}
use Rattle.std.proofs.lemmas.Option.{slice_get-get_or}
use Rattle.dalvik_steps.specs.Turns.{hinders}
use Rattle.dalvik_steps.proofs.Turning.{left_test}
use Rattle.dalvik_steps.proofs.starting.left_of.Goals as goal

pub returns-then-hinders : goal.returns-then-hinders
returns-then-hinders c =
    let statuses = c.args.state.now.statuses.items in
    let above = c.args.above.now in
    let at = c.loop-at.at in
    let inside : at < length above = omega arith in
    let there = slice_get-get_or above at 0 inside in
    sym (left_test statuses at above (get_or above at 0) true there (ap hinders (sym c.status.ensures) ∙ sym c.hinders.ensures ∙ c.if-hinders.true)) ∙ c.loop-at.invariant
