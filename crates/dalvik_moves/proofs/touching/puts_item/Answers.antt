use Rattle.std.proofs.Common.{◌∙◌, ap, sym, subst}
use Rattle.std.specs.Prelude.{List, None, length, slice_set}
use Rattle.insn_set.specs.declared.ops.Item.{Item}
use Rattle.dalvik_defs.specs.Items.{stored}
use Rattle.dalvik_defs.specs.State.{put_thing, quiet, Items, On}
use Rattle.dalvik_lookups.specs.Views.{type_text}
use Rattle.dalvik_state.specs.Drafts.{gift_spots}
use Rattle.dalvik_state.specs.Giving.{IsGivenFine}
use Rattle.dalvik_state.specs.Runs.{classes_in}
use Rattle.dalvik_state.specs.Views.{names_in, value_of, values_of}
use Rattle.dalvik_state.specs.Worlds.{shape_at, Spot}
use Rattle.dalvik_state.proofs.Fine.{fine_stored}
use Rattle.dalvik_steps.proofs.Handing.{given_same, room_exact, space_exact}
use Rattle.dalvik_moves.specs.Moving.{freed_in}
use Rattle.dalvik_moves.proofs.ItemMoves.{fine_same, moving_same, with_same}
use Rattle.dalvik_moves.proofs.Moved.{event_as, on_err}
use Rattle.dalvik_moves.proofs.Touched.{world_undone}
use Rattle.dalvik_moves.proofs.touching.puts_item.Goals as goal

pub returns-in_err-reserve-clause-err : goal.returns-in_err-reserve-clause-err
returns-in_err-reserve-clause-err c = λ o memo script steps owes first rest h.
    on_err _ _ (world_undone c.args.tables.now.lookups steps c.args.state.now c.reserve.new.world h.run.state h.run.on c.reserve.ensures.same)

pub returns-clause-ok : goal.returns-clause-ok
returns-clause-ok c = λ o memo script steps owes first rest items h i fine there.
    let l = c.args.tables.now.lookups in
    let n = names_in l in
    let old = c.args.state.now in
    let g = c.args.gifts in
    let mid = c.reserve.new.world in
    let same = c.reserve.ensures.same in
    let count = length g.things.items in
    let array = c.args.at.0 in
    let place = c.args.at.1 in
    let text = type_text l.types c.args.at.2 in
    let cut = c.stored-cut.result in
    let value = c.stored-cut.ensures.named n ∙ ap (λ (m : Item). stored m (value_of n c.args.datum)) (c.item.ensures h.run.right.tabled.named.types) in
    let there_now = subst (IsGivenFine l old.world g) (sym c.stored-cut.ensures.is) (fine_stored n (length (gift_spots old.world g)) c.item.result c.args.datum fine) in
    event_as l steps script c.put_item.new.state None _ _ (λ j. quiet (On (put_thing (with_same l old.world mid same g j) (value_of n array) (Items text (slice_set (values_of n items) place (value j)))) (classes_in l old) (freed_in l script old) rest))
    (c.put_item.ensures l o memo script steps owes first rest c.args.at.2 items (moving_same l steps old mid same o memo script owes first rest h) (room_exact mid count c.in_ok-reserve.ensures.room) (space_exact mid count c.in_ok-reserve.ensures.space)
    (given_same l g old.world mid same i) (fine_same l old.world mid same g cut there_now) (ap (λ (ss : List Spot). shape_at ss array) same.heap ∙ there))
