use Rattle.std.proofs.Common.{◌≡◌, false, replicate, rules}
use Rattle.compact.proofs.Placing.{first_free}
use Rattle.compact.proofs.places.least_for.Goals as goal

pub returns-clause-clear : goal.returns-clause-clear
returns-clause-clear c =
    let clear : c.in_ok-marks.marks.items ≡ replicate c.args.places.now.top false = search rules in
    (first_free c.args.clash.now c.args.places.now.numbers.items c.as_slice.result.now c.args.size c.first_clear.result c.args.places.now.top c.in_ok-marks.marks.items c.bar_run.new.marks.items c.as_slice-2.result.now c.as_slice.ensures.value clear c.as_slice-2.ensures.value c.bar_run.ensures c.first_clear.ensures).0

pub returns-clause-least : goal.returns-clause-least
returns-clause-least c =
    let clear : c.in_ok-marks.marks.items ≡ replicate c.args.places.now.top false = search rules in
    (first_free c.args.clash.now c.args.places.now.numbers.items c.as_slice.result.now c.args.size c.first_clear.result c.args.places.now.top c.in_ok-marks.marks.items c.bar_run.new.marks.items c.as_slice-2.result.now c.as_slice.ensures.value clear c.as_slice-2.ensures.value c.bar_run.ensures c.first_clear.ensures).1
