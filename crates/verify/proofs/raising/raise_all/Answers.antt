use Rattle.std.proofs.Common.{◌≡◌, ◌<◌, ◌≤◌, ◌||◌, min, length, refl, sym, ap, ◌∙◌, arith}
use Rattle.verify.proofs.Cells.{cells_on, rose_on, cells_end, rose_end}
use Rattle.verify.specs.declared.kinds.Kind.TheVariants.{Undefined}
use Rattle.verify.proofs.raising.raise_all.Goals as goal

pub loop-at-preserved : goal.loop-at-preserved
loop-at-preserved c =
    let within : c.loop-at.at < length c.args.kinds.now = omega (arith, c.loop-at-test.true, c.min-at-end.ensures) in
    let inside : c.loop-at.at < length c.args.cells.now = omega (arith, c.loop-at-test.true, c.min-at-end.ensures) in
    let i = c.loop-at.invariant in
    record {
      cells = ap (λ x. Rattle.std.proofs.Common.set c.loop-at.cells c.loop-at.at x) c.raise-rose.ensures.cell ∙ cells_on c.args.tables.now c.args.kinds.now c.args.cells.now c.loop-at.cells c.loop-at.at Undefined _ _ within inside i.cells refl refl;
      rose = ap (λ x. c.loop-at.rose || x) c.raise-rose.ensures.rose ∙ rose_on c.args.tables.now c.args.kinds.now c.args.cells.now c.loop-at.cells c.loop-at.at Undefined _ _ c.loop-at.rose within inside i.cells i.rose refl refl;
    }

pub returns-clause-cells : goal.returns-clause-cells
returns-clause-cells c =
    let end : min (length c.args.cells.now) (length c.args.kinds.now) ≤ c.loop-at.at = omega (arith, c.loop-at-test.false, c.min-at-end.ensures) in
    cells_end c.args.tables.now c.args.kinds.now c.args.cells.now c.loop-at.cells c.loop-at.at end c.loop-at.invariant.cells

pub returns-clause-rose : goal.returns-clause-rose
returns-clause-rose c =
    let end : min (length c.args.cells.now) (length c.args.kinds.now) ≤ c.loop-at.at = omega (arith, c.loop-at-test.false, c.min-at-end.ensures) in
    rose_end c.args.tables.now c.args.kinds.now c.args.cells.now c.loop-at.rose c.loop-at.at end c.loop-at.invariant.rose
