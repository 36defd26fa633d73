use Rattle.std.proofs.Common.{◌∙◌, refl, take, get_or}
use Rattle.std.specs.Prelude.{slice_get}
use Rattle.stub_library.specs.Meeting.{is_seen, texts_of, class_above}
use Rattle.stub_library.proofs.Levels.{one_taken, adds_one}
use Rattle.stub_library.proofs.Adding.{adds_none}
use Rattle.stub_library.proofs.declared.Declared.add_all_above.Goals as goal

pub loop-place-init : goal.loop-place-init
loop-place-init c = adds_none (is_seen c.args.seen.now) (texts_of c.args.next.now.items)

pub loop-place-preserved : goal.loop-place-preserved
loop-place-preserved c = adds_one (λ j. class_above (slice_get c.args.self.now.library.now.classes j)) (take c.loop-place.place-index c.args.places.now) _ (get_or c.args.places.now c.loop-place.place-index 0)
    (is_seen c.args.seen.now) (is_seen c.loop-place.seen) (is_seen c.add_above.new.seen)
    (texts_of c.args.next.now.items) (texts_of c.loop-place.next.items) (texts_of c.add_above.new.next.items)
    (one_taken c.args.places.now c.args.places.now c.loop-place.place-index (get_or c.args.places.now c.loop-place.place-index 0) 0 refl refl c.loop-place-test.true)
    c.loop-place.invariant c.in_ok-add_above.ensures
