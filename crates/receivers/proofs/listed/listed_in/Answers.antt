use Rattle.std.proofs.Common.{◌≡◌, ◌∙◌, ◌<◌, ◌≤◌, Some, length, ap, sym, arith, subst}
use Rattle.std.specs.Prelude.{slice_get}
use Rattle.std.proofs.lemmas.Option.{slice_get-get_or}
use Rattle.hierarchy.specs.Touring.{add_to_all}
use Rattle.receivers.specs.Listing.{kinds_above, AreListed}
use Rattle.receivers.proofs.Rows.{listed_none, listed_more}
use Rattle.receivers.proofs.listed.listed_in.Goals as goal

pub loop-place-init : goal.loop-place-init
loop-place-init c = λ few. listed_none c.args.classes.now c.args.kinds c.in_ok-rows.rows c.in_ok-rows.ensures

pub loop-place-preserved : goal.loop-place-preserved
loop-place-preserved c = λ few.
    let cs = c.args.classes.now in
    let n = c.loop-place.place in
    let k = c.index-classes-place.result in
    let l : n < length cs = c.loop-place-test.true in
    let there : slice_get cs n ≡ Some k = slice_get-get_or cs n k l ∙ ap (λ y. Some y) (sym c.index-classes-place.is) in
    listed_more cs c.args.kinds c.loop-place.rows c.note_in.new.rows n k there (c.in_ok-note_in.ensures ∙ ap (add_to_all c.loop-place.rows (kinds_above k)) (c.word.ensures (omega (arith, l, few)))) (c.loop-place.invariant few)

pub returns : goal.returns
returns c = λ few.
    let past : length c.args.classes.now ≤ c.loop-place.place = c.loop-place-test.false in
    let within : c.loop-place.place ≤ length c.args.classes.now = c.loop-place.auto.place-end in
    let end : c.loop-place.place ≡ length c.args.classes.now = omega (arith, past, within) in
    subst (AreListed c.args.classes.now c.args.kinds c.loop-place.rows) end (c.loop-place.invariant few)
