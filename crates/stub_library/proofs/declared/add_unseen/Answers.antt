use Rattle.std.proofs.Common.{◌∙◌, sym, refl, ap, true, false}
use Rattle.stub_library.specs.Meeting.{is_seen, texts_of}
use Rattle.stub_library.proofs.Levels.{texts_append, not_false}
use Rattle.stub_library.proofs.Adding.{adds_fresh, adds_known}
use Rattle.stub_library.proofs.declared.add_unseen.Goals as goal

pub returns-then-not-is_new : goal.returns-then-not-is_new
returns-then-not-is_new c = adds_known c.args.text.now (is_seen c.args.seen.now) (is_seen c.insert.new.self) (texts_of c.args.next.now.items) (texts_of c.args.next.now.items)
    (λ u. c.in_ok-is_new.ensures.updates.0 (record c.args.text { now = u })) (not_false _ (sym c.in_ok-is_new.ensures.added ∙ c.if-not-is_new.true)) refl

pub returns : goal.returns
returns c = adds_fresh c.args.text.now (is_seen c.args.seen.now) (is_seen c.insert.new.self) (texts_of c.args.next.now.items) (texts_of c.push.new.self.items)
    (λ u. c.in_ok-is_new.ensures.updates.0 (record c.args.text { now = u })) (ap texts_of c.in_ok-push.ensures.items ∙ texts_append c.args.next.now.items _)
