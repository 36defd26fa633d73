use Rattle.std.proofs.Common.{◌∙◌, refl, take, get_or, Bor, List, ℕ}
use Rattle.std.specs.List.{flat_map, list_all}
use Rattle.program_model.specs.Texts.{string_text}
use Rattle.stub_library.specs.Stubs.{proto_text}
use Rattle.stub_library.specs.Shut.{above_of}
use Rattle.stub_library.specs.Meeting.{is_seen, texts_of, local_clear}
use Rattle.stub_library.proofs.Levels.{text_taken, adds_one, meets_one}
use Rattle.stub_library.proofs.Adding.{adds_none, meets_none}
use Rattle.stub_library.proofs.declared.Declared.meet_level.Goals as goal

pub loop-text-init : goal.loop-text-init
loop-text-init c = record {
  meets = meets_none c.args.self.now.spelled.now.program.now c.args.met.now;
  adds = adds_none (is_seen c.args.seen.now) (texts_of c.args.next.now.items);
}

pub loop-text-preserved : goal.loop-text-preserved
loop-text-preserved c =
    let p = c.args.self.now.spelled.now.program.now in
    let l = c.args.self.now.library.now in
    let i = c.loop-text.invariant in
    let here = texts_of (take c.loop-text.text-index c.args.level.now) in
    let taken = text_taken c.args.level.now c.loop-text.text-index _ c.loop-text-test.true in
    record {
      meets = meets_one p (λ q t. local_clear l (string_text p q.name) (proto_text p q.proto) t) here _ _ c.args.met.now c.loop-text.met c.meet.new.met taken i.meets c.in_ok-meet.ensures.meets;
      adds = adds_one (above_of l) here _ _ (is_seen c.args.seen.now) (is_seen c.loop-text.seen) (is_seen c.meet.new.seen) (texts_of c.args.next.now.items) (texts_of c.loop-text.next.items) (texts_of c.meet.new.next.items)
          taken i.adds c.in_ok-meet.ensures.adds;
    }
