use Rattle.std.proofs.Common.{◌++◌, ◌∙◌, ap}
use Rattle.dalvik_defs.specs.Naming.{type_at}
use Rattle.dalvik_lookups.proofs.Spelled.{spelled_more}
use Rattle.dalvik_lookups.proofs.naming.spell_types.Goals as goal

pub loop-one-preserved : goal.loop-one-preserved
loop-one-preserved c = record {
  out = spelled_more (type_at c.args.program.now) c.args.types.now c.loop-one.one-index c.loop-one.out.items c.extend_from_slice.new.self.items c.args.out.now.items c.loop-one-test.true c.loop-one.invariant.out
      (c.in_ok-extend_from_slice.ensures.items ∙ ap (λ v. c.loop-one.out.items ++ v) c.descriptor_of.ensures);
}
