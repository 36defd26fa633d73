use Rattle.std.proofs.Common.{◌≡◌, ◌∙◌, length, vec_len, sym, ap}
use Rattle.std.specs.List.{list_any}
use Rattle.call_graph.specs.Supers.{lists_at}
use Rattle.call_targets.specs.Walking.{IsClean}
use Rattle.call_targets.proofs.Listing.{own_place, listed_same, nowhere}
use Rattle.call_targets.proofs.bound.lists_above.Goals as goal

pub returns-in_ok-kinds-in-Some : goal.returns-in_ok-kinds-in-Some
returns-in_ok-kinds-in-Some c = λ fits is.
    let p = c.args.at.now.program.now in
    let k = c.in-Some.class.now in
    let marks = c.in_ok-marks-in-Some.marks in
    let long : vec_len marks.marks ≡ length p.types = c.in_ok-marks-in-Some.ensures.size ∙ c.len.ensures in
    let clean : IsClean marks = record { unmarked = c.in_ok-marks-in-Some.ensures.none; idle = c.in_ok-marks-in-Some.ensures.idle } in
    c.one_lists.ensures is ∙ ap (list_any (lists_at p c.args.kind)) c.as_slice.ensures.value
    ∙ listed_same p is.ranked fits is.once k.name c.args.caller c.args.kind c.in_ok-kinds-in-Some.kinds.items (own_place p is.ranked is.once c.args.caller k (sym c.in-Some.ensures)) (c.in_ok-kinds-in-Some.ensures.above is long clean) (c.in_ok-kinds-in-Some.ensures.from is long clean)

pub returns-in-None : goal.returns-in-None
returns-in-None c = λ fits is. sym (nowhere c.args.at.now.program.now is.ranked fits is.once c.args.caller c.args.kind (sym c.in-None.ensures))
