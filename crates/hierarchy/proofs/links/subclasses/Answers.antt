use Rattle.std.proofs.Common.{◌≡◌, ◌∙◌, ◌≤◌, length, ap, arith, subst}
use Rattle.class_defs.specs.Finding.{beside}
use Rattle.hierarchy.specs.Touring.{add_to_all, IsBelow}
use Rattle.hierarchy.proofs.Linked.{below_none, below_more}
use Rattle.hierarchy.proofs.links.subclasses.Goals as goal

pub loop-place-init : goal.loop-place-init
loop-place-init c = λ few. below_none c.args.supers.now c.args.lists.now.rows c.in_ok-below.below.rows c.in_ok-below.ensures

pub loop-place-preserved : goal.loop-place-preserved
loop-place-preserved c = λ few. below_more c.args.supers.now c.args.lists.now.rows c.loop-place.below.rows c.note_super.new.below.rows c.note_all.new.below.rows c.loop-place.place
    (c.in_ok-note_super.ensures ∙ ap (λ o. add_to_all c.loop-place.below.rows (beside o) c.loop-place.place) c.read.ensures)
    (c.in_ok-note_all.ensures ∙ ap (λ l. add_to_all c.note_super.new.below.rows l c.loop-place.place) c.row.ensures) (c.loop-place.invariant few)

pub returns : goal.returns
returns c = λ few.
    let whole = c.word-place-end.ensures few in
    let past : c.word-place-end.result ≤ c.loop-place.place = c.loop-place-test.false in
    let within : c.loop-place.place ≤ c.word-place-end.result = c.loop-place.auto.place-end in
    let end : c.loop-place.place ≡ length c.args.supers.now = omega (arith, whole, past, within) in
    subst (IsBelow c.args.supers.now c.args.lists.now.rows c.loop-place.below.rows) end (c.loop-place.invariant few)
