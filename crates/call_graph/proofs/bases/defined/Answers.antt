use Rattle.std.proofs.Common.{◌∙◌, ap}
use Rattle.std.specs.Prelude.{cond, Some}
use Rattle.call_graph.proofs.Contained.{AtPlace, at_place}
use Rattle.call_graph.specs.Bases.{same_text, kind_of}
use Rattle.call_graph.proofs.Descriptors.{last_at}
use Rattle.call_graph.proofs.bases.defined.Goals as goal

pub loop-class-preserved : goal.loop-class-preserved
loop-class-preserved c = λ t.
    let at : AtPlace c.args.program.now.classes c.loop-class.class-index c.class-item.result = at_place c.args.program.now.classes c.as_slice-class-items.result.now c.loop-class.class-index c.class-item.result c.as_slice-class-items.ensures c.class-item.is c.loop-class-test.true in
    last_at c.args.program.now t c.args.program.now.classes c.loop-class.class-index c.class-item.result (kind_of c.loop-class.kinds t) (kind_of c.insert.new.self t) at (c.loop-class.invariant t)
    (c.in_ok-insert.ensures.updates.0 (record c.descriptor_of.result { now = t }) ∙ ap (λ u. cond (same_text u t) (Some c.class-item.result.name) (kind_of c.loop-class.kinds t)) c.descriptor_of.ensures)
