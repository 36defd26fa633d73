use native.Mathlib.Omega.{arith}
use Rattle.std.proofs.Common.{length, subst, ap}
use Rattle.keep_rules.specs.View.{is_below, AreEmpty}
use Rattle.keep_rules.proofs.ViewLemmas.{below_more, rows_start, rows_end, below_past}
use Rattle.keep_rules.proofs.tables.classes_below.Goals as goal

pub loop-place-init : goal.loop-place-init
loop-place-init c = rows_start (is_below c.args.program.now) (length c.args.program.now.types) c.in_ok-below.below.items (subst (λ n. AreEmpty n c.in_ok-below.below.items) c.len.ensures c.in_ok-below.ensures)

pub loop-place-preserved : goal.loop-place-preserved
loop-place-preserved c = below_more c.args.program.now (length c.args.program.now.types) c.loop-place.place c.as_slice-classes.result.now c.index-classes-place.result c.loop-place.below.items _ c.as_slice-classes.ensures
    c.loop-place-test.true c.index-classes-place.is c.loop-place.invariant c.in_ok-add_below.ensures

pub returns : goal.returns
returns c = rows_end (is_below c.args.program.now) (length c.args.program.now.types) c.loop-place.place c.loop-place.below.items
    (λ k n h. let past = c.loop-place-test.false in let size = ap length c.as_slice-classes.ensures in below_past c.args.program.now k n (omega (arith, h, past, size)))
    c.loop-place.invariant
