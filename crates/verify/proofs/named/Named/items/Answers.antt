use Rattle.std.proofs.Common.{◌∙◌, ap}
use Rattle.program_model.specs.Texts.{string_text}
use Rattle.verify.specs.Descriptors.{item_number, without_brackets}
use Rattle.verify.proofs.Along.{mapped_more}
use Rattle.verify.proofs.named.Named.items.Goals as goal

pub loop-string-preserved : goal.loop-string-preserved
loop-string-preserved c = mapped_more (λ s. item_number c.args.program.now (without_brackets (string_text c.args.program.now s))) c.args.program.now.types c.as_slice-string-items.result.now c.loop-string.string-index 0 c.loop-string.items.items c.push.new.self.items c.item.result
    c.as_slice-string-items.ensures c.loop-string-test.true c.loop-string.invariant c.in_ok-push.ensures.items
    (c.item.ensures ∙ ap (item_number c.args.program.now) (c.without_brackets.ensures ∙ ap without_brackets c.units_of.ensures))
