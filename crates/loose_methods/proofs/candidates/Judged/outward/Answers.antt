use Rattle.std.proofs.Common.{◌∙◌, ap, false, length, replicate, subst, sym}
use Rattle.std.proofs.lemmas.List.{with_items_is}
use Rattle.loose_methods.specs.Asked.{Outwards}
use Rattle.loose_methods.specs.Loose.{is_outward}
use Rattle.loose_methods.specs.Marking.{IsTable}
use Rattle.loose_methods.proofs.Under.{outwards_all, outwards_none}
use Rattle.loose_methods.proofs.candidates.Judged.outward.Goals as goal

pub returns : goal.returns
returns c = λ j.
    let p = c.args.self.now.program.now in
    let none : Outwards p 0 c.as_mut_slice.result.now = outwards_none p c.as_mut_slice.result.now (c.as_mut_slice.ensures.value ∙ (c.in_ok-marks.ensures ∙ ap (λ n. replicate n false) c.len.ensures)) in
    let done : Outwards p (length p.classes) c.mark_outwards.new.marks = c.in_ok-mark_outwards.ensures j c.as_slice.ensures none in
    subst (IsTable (length p.classes) (is_outward p)) (sym (with_items_is c.in_ok-marks.marks c.mark_outwards.new.marks (done.long ∙ (sym none.long ∙ c.as_mut_slice.ensures.len)))) (outwards_all p c.mark_outwards.new.marks done)
