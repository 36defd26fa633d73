use Rattle.std.proofs.Common.{◌≡◌, ◌∙◌, ap, sym, length, map, drop}
use Rattle.std.specs.Prelude.{slice_get, Some, None}
use Rattle.std.proofs.lemmas.Result.{IfOk-weaker}
use Rattle.dalvik_defs.specs.Legal.{receiver_ok}
use Rattle.dalvik_defs.specs.Outer.{outer_of}
use Rattle.dalvik_lookups.specs.Facing.{run_face}
use Rattle.dalvik_state.specs.Drafts.{gift_spots, given_world}
use Rattle.dalvik_state.specs.Views.{names_in, value_of, world_of}
use Rattle.dalvik_moves.specs.Moving.{datums_of}
use Rattle.dalvik_moves.proofs.Entered.{fine_at_first, first_named, none_named, taken_fine}
use Rattle.dalvik_moves.proofs.entering.is_on_receiver.Goals as goal

pub returns-in-Some-clause-is : goal.returns-in-Some-clause-is
returns-in-Some-clause-is c = λ o f gs r reach k all m.
    let l = c.args.tables.now.lookups in
    let n = names_in l in
    let w = c.args.state.now.world in
    let v = c.args.values.now in
    let ds = datums_of v.taken.items in
    let there : slice_get ds 0 ≡ Some c.in-Some.receiver = sym (ap (λ ts. slice_get (datums_of ts) 0) c.as_slice.ensures.value) ∙ sym c.first_of.ensures ∙ c.in-Some.is in
    let fine = fine_at_first n (length (gift_spots w v.gifts)) ds c.in-Some.receiver there (taken_fine l o w (world_of n w) v.gifts gs v.taken.items all.taken) in
    IfOk-weaker c.receiver_ok.result _ _ (λ b e. e ∙ ap (receiver_ok (run_face l) (outer_of l.program.now o) (given_world n w v.gifts) f) (sym (first_named n ds c.in-Some.receiver there)))
    (c.receiver_ok.ensures.is o f (map (value_of n) (drop 1 ds)) r reach k all.given fine m.there m.found)

pub returns-in-None-clause-is : goal.returns-in-None-clause-is
returns-in-None-clause-is c = λ o f gs r reach k all m.
    let l = c.args.tables.now.lookups in
    let n = names_in l in
    let w = c.args.state.now.world in
    let v = c.args.values.now in
    let ds = datums_of v.taken.items in
    let there : slice_get ds 0 ≡ None = sym (ap (λ ts. slice_get (datums_of ts) 0) c.as_slice.ensures.value) ∙ sym c.first_of.ensures ∙ c.in-None.is in
    ap (receiver_ok (run_face l) (outer_of l.program.now o) (given_world n w v.gifts) f) (sym (none_named n ds there))
