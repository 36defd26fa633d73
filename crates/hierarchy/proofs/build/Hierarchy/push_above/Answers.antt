use Rattle.std.proofs.Common.{◌∙◌, ◌++◌}
use Rattle.class_defs.specs.Finding.{beside}
use Rattle.hierarchy.specs.Tables.{read_at, row_of}
use Rattle.hierarchy.specs.Walking.{waits}
use Rattle.hierarchy.proofs.Lowest.{seeds_more}
use Rattle.hierarchy.proofs.build.Hierarchy.push_above.Goals as goal

pub loop-at-preserved : goal.loop-at-preserved
loop-at-preserved c = record {
  waits = seeds_more (λ f. row_of c.args.self.now.shape.lists.rows f.class ++ beside (read_at c.args.self.now.shape.supers.items f.class)) c.args.candidates.now c.loop-at.at (record { class = 0; place = 0 }) (waits c.loop-at.walk) (waits c.push_ups.new.walk) (waits c.args.walk.now)
      c.loop-at-test.true c.loop-at.auto.at c.in_ok-push_ups.ensures.waits c.loop-at.invariant.waits;
  seen = c.in_ok-push_ups.ensures.seen ∙ c.loop-at.invariant.seen;
  list = c.in_ok-push_ups.ensures.list ∙ c.loop-at.invariant.list;
}
