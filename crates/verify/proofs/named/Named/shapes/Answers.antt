use Rattle.std.proofs.Common.{◌∙◌, ap}
use Rattle.program_model.specs.Texts.{string_text}
use Rattle.verify.specs.Descriptors.{shape_named}
use Rattle.verify.proofs.Along.{mapped_more}
use Rattle.verify.proofs.named.Named.shapes.Goals as goal

pub loop-string-preserved : goal.loop-string-preserved
loop-string-preserved c = mapped_more (λ s. shape_named c.args.program.now (string_text c.args.program.now s)) c.args.program.now.types c.as_slice-string-items.result.now c.loop-string.string-index 0 c.loop-string.shapes.items c.push.new.self.items c.shape.result
    c.as_slice-string-items.ensures c.loop-string-test.true c.loop-string.invariant c.in_ok-push.ensures.items
    (c.shape.ensures ∙ ap (shape_named c.args.program.now) c.units_of.ensures)
