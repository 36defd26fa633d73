use Rattle.std.proofs.Common.{◌∙◌, ap, length, arith}
use Rattle.stub_library.specs.Marking.{up_to, entered_at, found_open, open_marks, entered}
use Rattle.stub_library.proofs.Steps.{whole_twice}
use Rattle.stub_library.proofs.narrowing.left.Goals as goal

pub returns : goal.returns
returns c =
    let p = c.args.program.now in
    let kept = c.args.kept.now in
    let opens = c.args.above.now.opens.items in
    let rows = c.args.above.now.numbers.items in
    let ok = c.in_ok-marks.marks.ok in
    whole_twice c.in_ok-marks.marks.items c.as_mut_slice.result.now c.enter.new.marks (up_to (entered_at p kept rows) (length p.classes)) (up_to (found_open p (open_marks p opens)) (length p.classes)) c.in_ok-marks.marks.len
    c.as_mut_slice.ensures.value c.in_ok-enter.ensures (omega (arith, ok))
    ∙ ap (entered p kept opens rows) c.in_ok-marks.ensures
