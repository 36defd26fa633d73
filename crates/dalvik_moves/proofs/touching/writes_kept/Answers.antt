use Rattle.std.proofs.Common.{◌∙◌, ap, sym, subst}
use Rattle.std.specs.Prelude.{None, Option, Some}
use Rattle.std.specs.Option.{option_map}
use Rattle.dalvik_defs.specs.Face.{Place}
use Rattle.dalvik_defs.specs.Legal.{on_fits}
use Rattle.dalvik_defs.specs.Moves.{writes}
use Rattle.dalvik_defs.specs.Outer.{outer_of}
use Rattle.dalvik_defs.specs.declared.names.FieldKey.{FieldKey}
use Rattle.dalvik_lookups.specs.Facing.{run_face}
use Rattle.dalvik_state.specs.Drafts.{given_world}
use Rattle.dalvik_state.specs.Runs.{classes_in, setting_in, world_in, IsNext}
use Rattle.dalvik_state.specs.Views.{names_in, value_of}
use Rattle.dalvik_state.specs.declared.gifts.Taken.{Taken}
use Rattle.dalvik_moves.specs.Moving.{freed_in}
use Rattle.dalvik_moves.proofs.FieldMoves.{got_taken, moving_memo, next_at, write_unfit}
use Rattle.dalvik_moves.proofs.Moved.{on_err, over_as, undone_itself}
use Rattle.dalvik_moves.proofs.Taken.{none_given}
use Rattle.dalvik_moves.proofs.touching.writes_kept.Goals as goal

pub returns-in_err-taken-clause-err : goal.returns-in_err-taken-clause-err
returns-in_err-taken-clause-err c = λ o script steps owes first rest k g what h kept are is.
    on_err _ _ (undone_itself c.args.tables.now.lookups steps c.args.memo.now c.args.state.now h.run.kept h.run.state h.run.on)

pub returns-in_err-legal-clause-err : goal.returns-in_err-legal-clause-err
returns-in_err-legal-clause-err c = λ o script steps owes first rest k g what h kept are is.
    let l = c.args.tables.now.lookups in
    let w = c.args.state.now.world in
    let start = none_given l w c.new-gifts.result h.run.state.world c.new-gifts.ensures in
    let got = got_taken l o w c.new-gifts.result c.take_option.new.self h.run.state.world c.new-gifts.ensures g c.in_ok-taken.taken (c.in_ok-taken.ensures o g h.run.right h.reach start are) in
    on_err _ _ (undone_itself l steps c.on_fits.new.memo c.args.state.now (c.on_fits.ensures.kept h.run.right h.run.kept got.given kept.within) h.run.state h.run.on)

pub returns-then-legal-clause-ok : goal.returns-then-legal-clause-ok
returns-then-legal-clause-ok c = λ o floats script steps owes first rest k g what h kept are is.
    let l = c.args.tables.now.lookups in
    let n = names_in l in
    let w = c.args.state.now.world in
    let all = c.take_option.new.self in
    let start = none_given l w c.new-gifts.result h.run.state.world c.new-gifts.ensures in
    let got = got_taken l o w c.new-gifts.result all h.run.state.world c.new-gifts.ensures g c.in_ok-taken.taken (c.in_ok-taken.ensures o g h.run.right h.reach start are) in
    let looked = c.on_fits.ensures.kept h.run.right h.run.kept got.given kept.within in
    let x = option_map (λ (t : Taken). value_of n t.datum) c.in_ok-taken.taken in
    let legal = c.in_ok-legal.ensures.is o (world_in l c.args.state.now) g kept.place h.run.right h.run.kept got.given got.on kept.within kept.stands
    ∙ ap (λ (y : FieldKey). on_fits (run_face l) (outer_of l.program.now o) (world_in l c.args.state.now) (given_world n w all) y kept.place g x) kept.named in
    c.writes_on.ensures.ok o floats script steps owes first rest k c.args.found.1.now g what (moving_memo l o c.args.memo.now c.on_fits.new.memo script steps c.args.state.now owes first rest looked h) kept got is (sym legal ∙ c.if-legal.true)

pub returns-then-legal-clause-err : goal.returns-then-legal-clause-err
returns-then-legal-clause-err c = λ o script steps owes first rest k g what h kept are is.
    let l = c.args.tables.now.lookups in
    let w = c.args.state.now.world in
    let all = c.take_option.new.self in
    let start = none_given l w c.new-gifts.result h.run.state.world c.new-gifts.ensures in
    let got = got_taken l o w c.new-gifts.result all h.run.state.world c.new-gifts.ensures g c.in_ok-taken.taken (c.in_ok-taken.ensures o g h.run.right h.reach start are) in
    let looked = c.on_fits.ensures.kept h.run.right h.run.kept got.given kept.within in
    c.writes_on.ensures.err o script steps owes first rest k c.args.found.1.now g what (moving_memo l o c.args.memo.now c.on_fits.new.memo script steps c.args.state.now owes first rest looked h) kept got is

pub returns-else-legal-clause-ok : goal.returns-else-legal-clause-ok
returns-else-legal-clause-ok c = λ o floats script steps owes first rest k g what h kept are is.
    let l = c.args.tables.now.lookups in
    let n = names_in l in
    let old = c.args.state.now in
    let w = old.world in
    let s = setting_in l o floats in
    let all = c.take_option.new.self in
    let start = none_given l w c.new-gifts.result h.run.state.world c.new-gifts.ensures in
    let got = got_taken l o w c.new-gifts.result all h.run.state.world c.new-gifts.ensures g c.in_ok-taken.taken (c.in_ok-taken.ensures o g h.run.right h.reach start are) in
    let looked = c.on_fits.ensures.kept h.run.right h.run.kept got.given kept.within in
    let x = option_map (λ (t : Taken). value_of n t.datum) c.in_ok-taken.taken in
    let legal = c.in_ok-legal.ensures.is o (world_in l old) g kept.place h.run.right h.run.kept got.given got.on kept.within kept.stands
    ∙ ap (λ (y : FieldKey). on_fits (run_face l) (outer_of l.program.now o) (world_in l old) (given_world n w all) y kept.place g x) kept.named in
    subst (λ (p : Option Place). IsNext l steps script c.on_fits.new.memo c.end.new.self None (writes s (world_in l old) (classes_in l old) k p g what (freed_in l script old) rest)) (sym kept.own)
    (next_at l steps script c.on_fits.new.memo _ c.end.new.self None _ c.end.ensures
    (over_as l steps script c.on_fits.new.memo old (writes s (world_in l old) (classes_in l old) k (Some kept.place) g what (freed_in l script old) rest) looked
    (write_unfit s (world_in l old) (given_world n w all) (classes_in l old) k kept.place g x (freed_in l script old) rest kept.kept got.got what c.in_ok-legal.legal legal c.if-legal.false)))
