use Rattle.std.proofs.Common.{◌≡◌, ◌≤◌, ◌⊎◌}
use Rattle.verify.proofs.Covering.{CoversTo}
use Rattle.verify.proofs.flow.cover.Given as goal

abbrev pub invariant-loop-position : goal.invariant-loop-position
invariant-loop-position l = record {
  covers : CoversTo l.fn.covering l.covering l.region l.place l.position;
  at : (l.position ≡ l.region.first) ⊎ (l.position ≤ l.region.end);
}
