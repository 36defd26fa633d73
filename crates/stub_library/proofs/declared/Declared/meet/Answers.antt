use Rattle.std.proofs.Common.{◌∙◌, refl, sym, ap, subst, length}
use Rattle.std.specs.Prelude.{◌++◌, ◌&&◌, ◌||◌}
use Rattle.stub_library.specs.Meeting.{is_seen, texts_of, text_at, has_any, rows_at}
use Rattle.program_model.specs.MemberRules.{is_object}
use Rattle.stub_library.proofs.Adding.{met_one, added_above}
use Rattle.stub_library.proofs.declared.Declared.meet.Goals as goal

pub returns-clause-meets : goal.returns-clause-meets
returns-clause-meets c =
    let d = c.args.self.now in
    let l = d.library.now in
    let at = c.as_slice-places.ensures.value ∙ c.in_ok-places.ensures (text_at l) (length l.classes) c.requires.listed in
    met_one d.spelled.now.program.now l d c.requires c.args.text.now c.as_slice-places.result.now at c.args.met.now _ c.has_any-is_declared.result
    (λ e. c.has_any-is_declared.ensures ∙ ap has_any e) (λ j js e. c.has_any-is_declared.ensures ∙ ap has_any e)
    (c.all_known-met.ensures ∙ ap (λ b. c.args.met.now.whole && (b || c.has_any-is_declared.result)) c.is_object.ensures) c.in_ok-add_methods.ensures

pub returns-clause-adds : goal.returns-clause-adds
returns-clause-adds c =
    let d = c.args.self.now in
    let l = d.library.now in
    let at = c.as_slice-places.ensures.value ∙ c.in_ok-places.ensures (text_at l) (length l.classes) c.requires.listed in
    added_above d.spelled.now.program.now l d c.requires c.args.text.now c.as_slice-places.result.now at (is_seen c.args.seen.now) (is_seen c.add_all_above.new.seen) (texts_of c.args.next.now.items) (texts_of c.add_all_above.new.next.items) c.in_ok-add_all_above.ensures
