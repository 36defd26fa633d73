use Rattle.std.proofs.Common.{◌∙◌, ◌+◌, sym, ap, subst, length, replicate, true, false}
use Rattle.stub_library.specs.Marking.{is_on, set_all, rounds}
use Rattle.stub_library.specs.Calling.{AreCalled}
use Rattle.stub_library.proofs.Done.{rounds_are}
use Rattle.stub_library.proofs.narrowing.shut_marks.Goals as goal

pub returns : goal.returns
returns c = λ l met n.
    let p = c.args.program.now in
    let h = c.args.hierarchy.now in
    let kept = c.as_slice-kept.result.now in
    let left = c.as_slice-left.result.now in
    let ps = c.as_slice-pairs.result.now in
    let called = c.as_slice-called.result.now in
    ap (λ ms. is_on ms n) (c.in_ok-marks.ensures ∙ ap (λ m. rounds left ps (m + 1)) c.len-classes.ensures)
    ∙ rounds_are p c.requires.formed h c.requires.resolved c.args.outside.now l called c.args.above.now.opens.items c.args.above.now.numbers.items (subst (AreCalled p h) (sym c.as_slice-called.ensures.value) c.in_ok-called.ensures) met kept left ps
    (c.as_slice-kept.ensures.value ∙ c.in_ok-kept.ensures ∙ ap (λ m. set_all true (replicate m false) c.as_slice-methods.result.now) c.len.ensures ∙ ap (set_all true (replicate (length p.methods) false)) c.as_slice-methods.ensures)
    (c.as_slice-left.ensures.value ∙ c.in_ok-left.ensures) (c.as_slice-pairs.ensures.value ∙ c.in_ok-pairs.ensures) n
