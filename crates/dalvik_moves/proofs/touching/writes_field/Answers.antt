use Rattle.std.proofs.Common.{◌∙◌, ap, sym, subst}
use Rattle.std.specs.Prelude.{length, None}
use Rattle.std.specs.Option.{option_map}
use Rattle.insn_set.specs.declared.ops.Item.{Item}
use Rattle.dalvik_defs.specs.Items.{item_of_type, stored}
use Rattle.dalvik_defs.specs.Moves.{goes, with_field}
use Rattle.dalvik_state.specs.Drafts.{gift_spots}
use Rattle.dalvik_state.specs.Giving.{IsGivenFine}
use Rattle.dalvik_state.specs.Runs.{classes_in}
use Rattle.dalvik_state.specs.Views.{names_in, value_of}
use Rattle.dalvik_state.specs.declared.gifts.Taken.{Taken}
use Rattle.dalvik_state.proofs.Fine.{fine_stored}
use Rattle.dalvik_moves.specs.Moving.{freed_in}
use Rattle.dalvik_moves.proofs.Moved.{event_as, on_err}
use Rattle.dalvik_moves.proofs.Shuffled.{fine_shuffled, given_shuffled, moving_shuffled, undone_shuffled, with_shuffled}
use Rattle.dalvik_moves.proofs.touching.writes_field.Goals as goal

pub returns-clause-ok : goal.returns-clause-ok
returns-clause-ok c = λ o memo script steps owes first rest k field h kept i fine.
    let l = c.args.tables.now.lookups in
    let n = names_in l in
    let old = c.args.state.now in
    let g = c.args.gifts in
    let mid = c.makes_room.new.world in
    let same = c.makes_room.ensures.same in
    let cut = c.stored-cut.result in
    let x = option_map (λ (t : Taken). value_of n t.datum) c.args.to.1 in
    let value = c.stored-cut.ensures.named n ∙ ap (λ (m : Item). stored m (value_of n c.args.datum)) (c.item.ensures h.run.right.tabled.named.types ∙ ap item_of_type kept.text) in
    let there = subst (IsGivenFine l old.world g) (sym c.stored-cut.ensures.is) (fine_stored n (length (gift_spots old.world g)) c.item.result c.args.datum fine) in
    event_as l steps script c.writes_ready.new.state None _ _ (λ j. goes (with_field (with_shuffled l old.world mid same g j) k x (value j)) (classes_in l old) (freed_in l script old) rest)
    (c.writes_ready.ensures o memo script steps owes first rest k field (moving_shuffled l steps old mid same o memo script owes first rest h) kept c.in_ok-makes_room.ensures.room (given_shuffled l old.world mid same g i) (fine_shuffled l old.world mid same g cut there))

pub returns-in_err-makes_room-clause-err : goal.returns-in_err-makes_room-clause-err
returns-in_err-makes_room-clause-err c = λ o memo script steps owes first rest h.
    on_err _ _ (undone_shuffled c.args.tables.now.lookups steps c.args.state.now c.makes_room.new.world c.makes_room.ensures.same h.run.state h.run.on)
