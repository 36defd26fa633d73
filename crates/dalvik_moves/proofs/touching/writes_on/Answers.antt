use Rattle.std.proofs.Common.{◌∙◌, ap, sym, subst}
use Rattle.std.specs.Prelude.{None, Option, Some}
use Rattle.std.specs.Option.{option_map}
use Rattle.dalvik_defs.specs.Face.{Place}
use Rattle.dalvik_defs.specs.Gives.{fits}
use Rattle.dalvik_defs.specs.Moves.{writes}
use Rattle.dalvik_defs.specs.Outer.{outer_of}
use Rattle.dalvik_lookups.specs.Facing.{run_face}
use Rattle.dalvik_state.specs.Drafts.{given_world}
use Rattle.dalvik_state.specs.Runs.{classes_in, setting_in, world_in, IsNext}
use Rattle.dalvik_state.specs.Views.{names_in, value_of}
use Rattle.dalvik_state.specs.declared.gifts.Taken.{Taken}
use Rattle.dalvik_moves.specs.Moving.{freed_in}
use Rattle.dalvik_moves.proofs.FieldMoves.{next_at, write_over, write_then}
use Rattle.dalvik_moves.proofs.Moved.{next_as, on_err, over_as, undone_itself, undone_kept}
use Rattle.dalvik_moves.proofs.touching.writes_on.Goals as goal

pub returns-in_err-given-clause-err : goal.returns-in_err-given-clause-err
returns-in_err-given-clause-err c = λ o script steps owes first rest k field g what h kept got is.
    on_err _ _ (undone_itself c.args.tables.now.lookups steps c.args.memo.now c.args.state.now h.run.kept h.run.state h.run.on)

pub returns-in_err-legal-clause-err : goal.returns-in_err-legal-clause-err
returns-in_err-legal-clause-err c = λ o script steps owes first rest k field g what h kept got is.
    let takes = c.in_ok-given.ensures o what h.run.right h.reach got.given is in
    on_err _ _ (undone_itself c.args.tables.now.lookups steps c.fits.new.memo c.args.state.now (c.fits.ensures.kept h.run.right h.run.kept takes.given kept.kind) h.run.state h.run.on)

pub returns-in_err-writes_field-clause-err : goal.returns-in_err-writes_field-clause-err
returns-in_err-writes_field-clause-err c = λ o script steps owes first rest k field g what h kept got is.
    let l = c.args.tables.now.lookups in
    let takes = c.in_ok-given.ensures o what h.run.right h.reach got.given is in
    on_err _ _ (undone_kept l steps c.fits.new.memo c.args.state.now c.writes_field.new.state (c.fits.ensures.kept h.run.right h.run.kept takes.given kept.kind) (c.in_err-writes_field.ensures.err o c.args.memo.now script steps owes first rest h))

pub returns-in_ok-writes_field-clause-ok : goal.returns-in_ok-writes_field-clause-ok
returns-in_ok-writes_field-clause-ok c = λ o floats script steps owes first rest k field g what h kept got is fit.
    let l = c.args.tables.now.lookups in
    let n = names_in l in
    let old = c.args.state.now in
    let s = setting_in l o floats in
    let before = given_world n old.world c.args.gifts in
    let after = given_world n old.world c.take.new.self in
    let given = c.in_ok-given.given in
    let x = option_map (λ (t : Taken). value_of n t.datum) c.args.to.1 in
    let takes = c.in_ok-given.ensures o what h.run.right h.reach got.given is in
    let looked = c.fits.ensures.kept h.run.right h.run.kept takes.given kept.kind in
    let legal = c.in_ok-legal.ensures.is o before what h.run.right h.run.kept takes.given takes.fine is takes.allowed kept.kind ∙ ap (fits (run_face l) (outer_of l.program.now o) before after what (value_of n given.datum)) kept.text in
    let event = c.in_ok-writes_field.ensures.ok o c.args.memo.now script steps owes first rest k field h kept takes.given takes.fine in
    subst (λ (p : Option Place). IsNext l steps script c.fits.new.memo c.writes_field.new.state None (writes s (world_in l old) (classes_in l old) k p g what (freed_in l script old) rest)) (sym kept.own)
    (next_as l steps script c.fits.new.memo c.writes_field.new.state None _ (writes s (world_in l old) (classes_in l old) k (Some kept.place) g what (freed_in l script old) rest) looked
    (write_then s (world_in l old) before (classes_in l old) k kept.place g x (freed_in l script old) rest kept.kept got.got what after (value_of n given.datum) fit takes.got c.in_ok-legal.legal legal c.if-legal.true) event)

pub returns-else-legal-clause-ok : goal.returns-else-legal-clause-ok
returns-else-legal-clause-ok c = λ o floats script steps owes first rest k field g what h kept got is fit.
    let l = c.args.tables.now.lookups in
    let n = names_in l in
    let old = c.args.state.now in
    let s = setting_in l o floats in
    let before = given_world n old.world c.args.gifts in
    let after = given_world n old.world c.take.new.self in
    let given = c.in_ok-given.given in
    let x = option_map (λ (t : Taken). value_of n t.datum) c.args.to.1 in
    let takes = c.in_ok-given.ensures o what h.run.right h.reach got.given is in
    let looked = c.fits.ensures.kept h.run.right h.run.kept takes.given kept.kind in
    let legal = c.in_ok-legal.ensures.is o before what h.run.right h.run.kept takes.given takes.fine is takes.allowed kept.kind ∙ ap (fits (run_face l) (outer_of l.program.now o) before after what (value_of n given.datum)) kept.text in
    subst (λ (p : Option Place). IsNext l steps script c.fits.new.memo c.end.new.self None (writes s (world_in l old) (classes_in l old) k p g what (freed_in l script old) rest)) (sym kept.own)
    (next_at l steps script c.fits.new.memo _ c.end.new.self None _ c.end.ensures
    (over_as l steps script c.fits.new.memo old (writes s (world_in l old) (classes_in l old) k (Some kept.place) g what (freed_in l script old) rest) looked
    (write_over s (world_in l old) before (classes_in l old) k kept.place g x (freed_in l script old) rest kept.kept got.got what after (value_of n given.datum) fit takes.got c.in_ok-legal.legal legal c.if-legal.false)))
