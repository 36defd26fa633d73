use Rattle.std.specs.List.{filter_map}
use Rattle.class_defs.specs.Members.{own_virtual}
use Rattle.hierarchy.proofs.Overriding.{found_more}
use Rattle.hierarchy.proofs.build.Hierarchy.virtual_among.Goals as goal

pub loop-class-preserved : goal.loop-class-preserved
loop-class-preserved c = λ name proto h k. found_more (own_virtual c.args.program.now name proto) c.loop-class.found.items c.push_found.new.found.items (filter_map (own_virtual c.args.program.now name proto) c.args.classes.now) c.args.classes.now c.loop-class.class-index c.own_virtual.result
    c.loop-class-test.true (c.own_virtual.ensures name proto h k) c.in_ok-push_found.ensures (c.loop-class.invariant name proto h k)
