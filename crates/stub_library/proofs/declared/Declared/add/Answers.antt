use Rattle.std.proofs.Common.{◌∙◌, refl, sym, ap}
use Rattle.stub_library.specs.Meeting.{text_at, class_text, declared_among}
use Rattle.stub_library.proofs.Adding.{declared_more}
use Rattle.stub_library.proofs.declared.Declared.add.Goals as goal

pub returns-clause-more : goal.returns-clause-more
returns-clause-more c = λ done to got.
    let l = c.args.self.now.library.now in
    let s = c.args.self.now.spelled.now in
    declared_more s.program.now l s c.args.self.now _ done c.args.class.now c.of_vec.result c.requires to got refl
    (c.in_ok-add.ensures (text_at l) done to.listed (ap class_text got ∙ sym c.units.ensures)) c.in_ok-push.ensures.items
    (c.of_vec.ensures ∙ c.in_ok-numbers.ensures ∙ ap (declared_among s.program.now s.numbers.items) c.as_slice.ensures)
