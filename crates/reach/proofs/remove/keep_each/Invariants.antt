use Rattle.std.proofs.Common.{◌≡◌, map, take, drop, ◌++◌}
use Rattle.std.specs.Prelude.{sum_by}
use Rattle.program_model.specs.Cells.{capped}
use Rattle.reach.specs.Kept.{kept_in, removed_in}
use Rattle.reach.proofs.remove.keep_each.Given as goal

abbrev pub invariant-loop-class : goal.invariant-loop-class
invariant-loop-class l = record {
  kept : l.classes ≡ map (kept_in l.live) (take l.class-index l.initial.classes) ++ drop l.class-index l.initial.classes;
  count : l.gone ≡ capped (sum_by (removed_in l.live) (take l.class-index l.initial.classes));
}
