use Rattle.std.proofs.Common.{◌∙◌, take_all}
use Rattle.static_protos.proofs.Sets.{texts_more}
use Rattle.static_protos.proofs.tables.texts_of.Goals as goal

pub loop-text-preserved : goal.loop-text-preserved
loop-text-preserved c = λ differ.
    texts_more c.args.strings.now c.loop-text.text-index c.text-item.result c.loop-text.texts.keys c.insert.new.self.keys c.in_ok-from_slice.field-0 c.loop-text-test.true c.text-item.is differ (c.in_ok-from_slice.ensures.items ∙ c.units.ensures) (c.loop-text.invariant differ) c.in_ok-insert.ensures.keys

pub returns : goal.returns
returns c = λ differ. c.loop-text.invariant differ ∙ take_all c.loop-text.text-index c.args.strings.now c.loop-text-test.false
