use Rattle.std.proofs.Common.{◌<◌, arith, length}
use Rattle.std.specs.Prelude.{None, Some}
use Rattle.dalvik_defs.specs.Moves.{writes_item}
use Rattle.dalvik_defs.specs.State.{Items}
use Rattle.dalvik_lookups.specs.Views.{type_text}
use Rattle.dalvik_state.specs.Drafts.{given_world}
use Rattle.dalvik_state.specs.Runs.{classes_in, setting_in, world_in}
use Rattle.dalvik_state.specs.Views.{names_in, value_of, values_of}
use Rattle.dalvik_moves.specs.Moving.{freed_in}
use Rattle.dalvik_moves.proofs.FieldMoves.{next_at}
use Rattle.dalvik_moves.proofs.ItemMoves.{array_kind, item_over, item_then, many}
use Rattle.dalvik_moves.proofs.Moved.{next_as, on_err, over_as, undone_itself, undone_kept}
use Rattle.dalvik_moves.proofs.Taken.{first_taken, none_given}
use Rattle.dalvik_moves.proofs.touching.puts_fitting.Goals as goal

pub returns-in_err-given-clause-err : goal.returns-in_err-given-clause-err
returns-in_err-given-clause-err c = λ o script steps owes first rest what items h is there.
    on_err _ _ (undone_itself c.args.tables.now.lookups steps c.args.memo.now c.args.state.now h.run.kept h.run.state h.run.on)

pub returns-in_err-legal-clause-err : goal.returns-in_err-legal-clause-err
returns-in_err-legal-clause-err c = λ o script steps owes first rest what items h is there.
    let l = c.args.tables.now.lookups in
    let w = c.args.state.now.world in
    let start = none_given l w c.new-gifts.result h.run.state.world c.new-gifts.ensures in
    let one = first_taken l o w c.new-gifts.result c.take.new.self what c.args.value c.in_ok-given.given c.new-gifts.ensures is (c.in_ok-given.ensures o what h.run.right h.reach start is) in
    let kind = array_kind l w c.args.at.0 c.args.at.2 items h.run.state.world there in
    on_err _ _ (undone_itself l steps c.fits.new.memo c.args.state.now (c.fits.ensures.kept h.run.right h.run.kept one.given kind) h.run.state h.run.on)

pub returns-in_err-puts_item-clause-err : goal.returns-in_err-puts_item-clause-err
returns-in_err-puts_item-clause-err c = λ o script steps owes first rest what items h is there.
    let l = c.args.tables.now.lookups in
    let w = c.args.state.now.world in
    let start = none_given l w c.new-gifts.result h.run.state.world c.new-gifts.ensures in
    let one = first_taken l o w c.new-gifts.result c.take.new.self what c.args.value c.in_ok-given.given c.new-gifts.ensures is (c.in_ok-given.ensures o what h.run.right h.reach start is) in
    let kind = array_kind l w c.args.at.0 c.args.at.2 items h.run.state.world there in
    on_err _ _ (undone_kept l steps c.fits.new.memo c.args.state.now c.puts_item.new.state (c.fits.ensures.kept h.run.right h.run.kept one.given kind) (c.in_err-puts_item.ensures.err o c.args.memo.now script steps owes first rest h))

pub returns-in_ok-puts_item-clause-ok : goal.returns-in_ok-puts_item-clause-ok
returns-in_ok-puts_item-clause-ok c = λ o floats script steps owes first rest what items h is there low.
    let l = c.args.tables.now.lookups in
    let n = names_in l in
    let old = c.args.state.now in
    let w = old.world in
    let s = setting_in l o floats in
    let all = c.take.new.self in
    let text = type_text l.types c.args.at.2 in
    let given = c.in_ok-given.given in
    let start = none_given l w c.new-gifts.result h.run.state.world c.new-gifts.ensures in
    let one = first_taken l o w c.new-gifts.result all what c.args.value given c.new-gifts.ensures is (c.in_ok-given.ensures o what h.run.right h.reach start is) in
    let kind = array_kind l w c.args.at.0 c.args.at.2 items h.run.state.world there in
    let looked = c.fits.ensures.kept h.run.right h.run.kept one.given kind in
    let legal = c.in_ok-legal.ensures.is o (world_in l old) what h.run.right h.run.kept one.given one.fine one.gift one.allowed kind in
    let size = many n items in
    let below : c.args.at.1 < length (values_of n items) = omega (arith, low, size) in
    next_as l steps script c.fits.new.memo c.puts_item.new.state None _ (writes_item s (world_in l old) (classes_in l old) (value_of n c.args.at.0) (Some (Items text (values_of n items))) c.args.at.1 what (freed_in l script old) rest) looked
    (item_then s (world_in l old) (given_world n w all) (classes_in l old) (value_of n c.args.at.0) text (values_of n items) c.args.at.1 what (value_of n given.datum) (freed_in l script old) rest one.got c.in_ok-legal.legal legal c.if-legal.true below)
    (c.in_ok-puts_item.ensures.ok o c.args.memo.now script steps owes first rest items h one.given one.fine there)

pub returns-else-legal-clause-ok : goal.returns-else-legal-clause-ok
returns-else-legal-clause-ok c = λ o floats script steps owes first rest what items h is there low.
    let l = c.args.tables.now.lookups in
    let n = names_in l in
    let old = c.args.state.now in
    let w = old.world in
    let s = setting_in l o floats in
    let all = c.take.new.self in
    let text = type_text l.types c.args.at.2 in
    let given = c.in_ok-given.given in
    let start = none_given l w c.new-gifts.result h.run.state.world c.new-gifts.ensures in
    let one = first_taken l o w c.new-gifts.result all what c.args.value given c.new-gifts.ensures is (c.in_ok-given.ensures o what h.run.right h.reach start is) in
    let kind = array_kind l w c.args.at.0 c.args.at.2 items h.run.state.world there in
    let looked = c.fits.ensures.kept h.run.right h.run.kept one.given kind in
    let legal = c.in_ok-legal.ensures.is o (world_in l old) what h.run.right h.run.kept one.given one.fine one.gift one.allowed kind in
    next_at l steps script c.fits.new.memo _ c.end.new.self None _ c.end.ensures
    (over_as l steps script c.fits.new.memo old (writes_item s (world_in l old) (classes_in l old) (value_of n c.args.at.0) (Some (Items text (values_of n items))) c.args.at.1 what (freed_in l script old) rest) looked
    (item_over s (world_in l old) (given_world n w all) (classes_in l old) (value_of n c.args.at.0) text (values_of n items) c.args.at.1 what (value_of n given.datum) (freed_in l script old) rest one.got c.in_ok-legal.legal legal c.if-legal.false))
