use Rattle.std.proofs.Common.{◌≡◌, ◌+◌, arith, take, sym, subst, ◌∙◌}
use Rattle.hierarchy.specs.Membership.{found_in}
use Rattle.hierarchy.proofs.Indexed.{AtPlace, at_place, rows_more}
use Rattle.hierarchy.proofs.members.members_of.Goals as goal

pub loop-place-preserved : goal.loop-place-preserved
loop-place-preserved c = λ short.
    let at : AtPlace c.args.rows.now.rows c.loop-place.place c.row-item.result = at_place c.args.rows.now.rows c.as_slice-row-items.result.now c.loop-place.place c.row-item.result c.as_slice-row-items.ensures c.row-item.is c.loop-place-test.true in
    let here : AtPlace c.args.rows.now.rows c.loop-place.place c.as_slice.result.now = subst (AtPlace c.args.rows.now.rows c.loop-place.place) (sym c.as_slice.ensures) at in
    let word_is : c.word.result ≡ c.loop-place.place = c.word.ensures (omega (arith, here.short, short.few)) in
    rows_more (take c.loop-place.place c.args.rows.now.rows) (take (c.loop-place.place + 1) c.args.rows.now.rows) c.as_slice.result.now c.word.result (found_in c.loop-place.members) (found_in c.add_class.new.self)
    here.more (word_is ∙ here.before) (c.loop-place.invariant short) (c.in_ok-add_class.ensures (short.each c.loop-place.place c.as_slice.result.now here.got))
