use Rattle.std.proofs.Common.{◌≡◌, ◌∙◌, ap, false, length, replicate, subst, sym}
use Rattle.std.proofs.lemmas.List.{with_items_is}
use Rattle.loose_methods.specs.Asked.{AreCandidates, CandidatesTo}
use Rattle.loose_methods.specs.Candidates.{is_kept}
use Rattle.loose_methods.specs.Loose.{is_outward}
use Rattle.loose_methods.specs.Marking.{IsTable, turned_on}
use Rattle.loose_methods.proofs.Marking.{candidates_all, candidates_none, kept_table}
use Rattle.loose_methods.proofs.Marks.{turned_long}
use Rattle.loose_methods.proofs.candidates.Judged.candidates.Goals as goal

pub returns : goal.returns
returns c = λ j.
    let p = c.args.self.now.program.now in
    let o = c.args.outside.now in
    let none : CandidatesTo p o 0 c.as_mut_slice.result.now = candidates_none p o c.as_mut_slice.result.now (c.as_mut_slice.ensures.value ∙ (c.in_ok-marks.ensures ∙ ap (λ n. replicate n false) c.len-2.ensures)) in
    let size : length c.turn_all.new.marks ≡ c.in_ok-kept.kept.len = ap length c.turn_all.ensures ∙ (turned_long c.deref_mut.result.now c.as_slice.result.now ∙ c.deref_mut.ensures.len) in
    let kept : IsTable (length p.methods) (is_kept o) c.as_slice-2.result.now =
    subst (IsTable (length p.methods) (is_kept o)) (sym (c.as_slice-2.ensures.value ∙ with_items_is c.in_ok-kept.kept c.turn_all.new.marks size))
    (kept_table (length p.methods) o c.turn_all.new.marks (c.turn_all.ensures ∙ (ap (λ ms. turned_on ms c.as_slice.result.now) (c.deref_mut.ensures.value ∙ (c.in_ok-kept.ensures ∙ ap (λ n. replicate n false) c.len.ensures)) ∙ ap (turned_on (replicate (length p.methods) false)) c.as_slice.ensures))) in
    let outward : IsTable (length p.classes) (is_outward p) c.as_slice-3.result.now = subst (IsTable (length p.classes) (is_outward p)) (sym c.as_slice-3.ensures.value) (c.in_ok-outward.ensures j) in
    let done : CandidatesTo p o (length p.classes) c.mark_classes.new.marks = c.in_ok-mark_classes.ensures o j kept outward c.as_slice-4.ensures none in
    subst (AreCandidates p o) (sym (with_items_is c.in_ok-marks.marks c.mark_classes.new.marks (done.long ∙ (sym none.long ∙ c.as_mut_slice.ensures.len)))) (candidates_all p o c.mark_classes.new.marks done)
