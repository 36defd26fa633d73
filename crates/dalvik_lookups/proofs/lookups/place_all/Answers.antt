use Rattle.std.proofs.Common.{arith, get_or, ◌∙◌}
use Rattle.dalvik_lookups.specs.declared.types.Kind.{Kind}
use Rattle.dalvik_lookups.proofs.Making.{placed_step, placed_size, placed_all}
use Rattle.dalvik_lookups.proofs.lookups.place_all.Goals as goal

pub loop-kind-preserved : goal.loop-kind-preserved
loop-kind-preserved c =
    let k : Kind = get_or c.args.class_kinds.now c.loop-kind.kind-index (record { depth = 0; base = 0 }) in
    record {
      size = placed_size c.loop-kind.places c.put_class.new.places k c.loop-kind.place c.put_class.ensures ∙ c.loop-kind.invariant.size;
      count = λ small. omega (arith, c.saturating_add-place.ensures, c.loop-kind.invariant.count small, c.loop-kind-test.true, small);
      placed = λ n e small below. placed_step c.args.class_kinds.now c.args.places.now c.loop-kind.places c.put_class.new.places c.loop-kind.kind-index n (record { depth = 0; base = 0 }) c.loop-kind.place
          c.loop-kind-test.true e c.loop-kind.invariant.size small below (c.loop-kind.invariant.count small) (c.loop-kind.invariant.placed n e small below) c.put_class.ensures;
    }

pub returns-clause-placed : goal.returns-clause-placed
returns-clause-placed c = λ n e small below. placed_all c.args.class_kinds.now c.loop-kind.places c.loop-kind.kind-index (omega (arith, c.loop-kind-test.false)) (c.loop-kind.invariant.placed n e small below)
