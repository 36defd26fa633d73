use Rattle.std.proofs.Common.{◌∙◌, refl, take}
use Rattle.stub_library.specs.Meeting.{is_seen, texts_of}
use Rattle.stub_library.proofs.Levels.{one_taken, texts_one, text_given}
use Rattle.stub_library.proofs.Adding.{adds_none}
use Rattle.stub_library.proofs.declared.add_all_unseen.Goals as goal

pub loop-text-init : goal.loop-text-init
loop-text-init c = adds_none (is_seen c.args.seen.now) (texts_of c.args.next.now.items)

pub loop-text-preserved : goal.loop-text-preserved
loop-text-preserved c = texts_one (take c.loop-text.text-index c.args.texts.now) _ c.text-item.result (is_seen c.args.seen.now) (is_seen c.loop-text.seen) (is_seen c.add_unseen.new.seen)
    (texts_of c.args.next.now.items) (texts_of c.loop-text.next.items) (texts_of c.add_unseen.new.next.items)
    (one_taken c.args.texts.now c.args.texts.now c.loop-text.text-index c.text-item.result c.text-item.result refl c.text-item.is c.loop-text-test.true)
    c.loop-text.invariant (text_given c.units.result.now c.text-item.result _ _ _ _ c.units.ensures c.in_ok-add_unseen.ensures)
