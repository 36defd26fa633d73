use Rattle.std.proofs.Common.{◌≡◌, ◌≤◌, length, arith, sym, subst, ap}
use Rattle.hierarchy.proofs.Definers.{definers_more, definers_done}
use Rattle.hierarchy.proofs.Indexed.{AtPlace, at_place}
use Rattle.hierarchy.proofs.members.definers.Goals as goal

pub loop-place-preserved : goal.loop-place-preserved
loop-place-preserved c = λ short.
    let at : AtPlace c.args.rows.now.rows c.loop-place.place c.row-item.result = at_place c.args.rows.now.rows c.as_slice-row-items.result.now c.loop-place.place c.row-item.result c.as_slice-row-items.ensures c.row-item.is c.loop-place-test.true in
    let here : AtPlace c.args.rows.now.rows c.loop-place.place c.as_slice.result.now = subst (AtPlace c.args.rows.now.rows c.loop-place.place) (sym c.as_slice.ensures) at in
    let word_is : c.word.result ≡ c.loop-place.place = c.word.ensures (omega (arith, here.short, short.few)) in
    definers_more c.args.rows.now.rows c.loop-place.definers.rows c.note_all.new.below.rows c.as_slice.result.now c.args.count c.loop-place.place c.word.result word_is here.got c.in_ok-note_all.ensures (c.loop-place.invariant short)

pub returns : goal.returns
returns c = λ short once.
    let whole : length c.as_slice-row-items.result.now ≡ length c.args.rows.now.rows = ap length c.as_slice-row-items.ensures in
    let past : length c.as_slice-row-items.result.now ≤ c.loop-place.place = c.loop-place-test.false in
    let within : c.loop-place.place ≤ length c.as_slice-row-items.result.now = c.loop-place.auto.place-end in
    definers_done c.args.rows.now.rows c.loop-place.definers.rows c.args.count c.loop-place.place once (omega (arith, whole, past, within)) (c.loop-place.invariant short)
