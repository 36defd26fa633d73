use Rattle.std.proofs.Common.{sym, ◌∙◌}
use Rattle.dalvik_defs.specs.Naming.{type_at, named}
use Rattle.dalvik_lookups.specs.Reached.{is_framework_type}
use Rattle.dalvik_lookups.proofs.Outward.{any_here, any_before, all_here}
use Rattle.dalvik_lookups.proofs.lookups.Lookups.lists_framework_type.Goals as goal

pub loop-kind-preserved : goal.loop-kind-preserved
loop-kind-preserved c = record {
  none = λ r h. any_before (type_at c.args.self.now.program.now) (is_framework_type (named c.args.self.now.program.now)) c.args.kinds.now c.loop-kind.kind-index c.loop-kind-test.true (c.loop-kind.invariant.none r h)
      (sym (c.is_framework_type.ensures r (all_here c.args.self.now.program.now c.args.kinds.now c.loop-kind.kind-index c.loop-kind-test.true h)) ∙ c.if-is_framework_type.false);
}

pub returns-then-is_framework_type : goal.returns-then-is_framework_type
returns-then-is_framework_type c = λ r h. any_here (type_at c.args.self.now.program.now) (is_framework_type (named c.args.self.now.program.now)) c.args.kinds.now c.loop-kind.kind-index c.loop-kind-test.true
    (sym (c.is_framework_type.ensures r (all_here c.args.self.now.program.now c.args.kinds.now c.loop-kind.kind-index c.loop-kind-test.true h)) ∙ c.if-is_framework_type.true)
