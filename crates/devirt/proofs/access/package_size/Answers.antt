use Rattle.std.proofs.Common.{arith}
use Rattle.devirt.proofs.Packages.{to_slash, past_other}
use Rattle.devirt.proofs.access.package_size.Goals.{then-unit-eq47, else-unit-eq47}
use Rattle.devirt.proofs.access.package_size.Goals as goal

pub loop-at-preserved : goal.loop-at-preserved
loop-at-preserved c = elim c.if-unit-eq47.branch [
  | then-unit-eq47 w ↦ record {
    front = to_slash c.args.units.now c.loop-at.at c.if-unit-eq47.size c.loop-at-test.true w.if-unit-eq47.true w.size-is;
    short = (let s = w.size-is in omega (arith, s));
  }
  | else-unit-eq47 w ↦ record {
    front = past_other c.args.units.now c.loop-at.at c.if-unit-eq47.size c.loop-at.size c.loop-at-test.true w.if-unit-eq47.false w.size-is c.loop-at.invariant.front;
    short = (let s = w.size-is in let h = c.loop-at.invariant.short in omega (arith, s, h));
  }
]
