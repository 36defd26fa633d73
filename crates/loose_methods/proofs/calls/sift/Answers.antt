use Rattle.std.proofs.Common.{◌∙◌, ap, arith, length, sym}
use Rattle.std.specs.Prelude.{slice_get}
use Rattle.std.specs.List.{list_any}
use Rattle.class_defs.proofs.WellFormed.{few_classes}
use Rattle.loose_methods.specs.Loose.{calls_allow, classes_allow}
use Rattle.loose_methods.specs.declared.calls.Marks.{Marks}
use Rattle.loose_methods.proofs.Allowed.{short_codes}
use Rattle.loose_methods.proofs.Bars.{keeps_same}
use Rattle.loose_methods.proofs.Sifts.{none_kept, sifted_first}
use Rattle.loose_methods.proofs.calls.sift.Goals as goal

pub returns-then-not-has_mark : goal.returns-then-not-has_mark
returns-then-not-has_mark c = λ o j cand.
    none_kept (calls_allow c.args.judged.now.program.now c.args.facts.now c.args.admitted.now.methods.items) c.args.loose.items (ap (list_any (λ mark. mark)) (sym c.deref.ensures.value) ∙ (sym c.has_mark.ensures ∙ c.if-not-has_mark.true))

pub returns : goal.returns
returns c = λ o j cand.
    let p = c.args.judged.now.program.now in
    let facts = c.args.facts.now in
    let admitted = c.args.admitted.now.methods.items in
    let marks : Marks = record { loose = c.args.loose; virtual_calls = c.in_ok-virtual_calls.virtual_calls; interface_calls = c.in_ok-interface_calls.interface_calls } in
    let first = sifted_first p o marks c.len-count.result cand c.in_ok-virtual_calls.ensures c.in_ok-interface_calls.ensures in
    let few = few_classes p j.formed in
    let long = ap length c.as_slice-2.ensures in
    let all = c.in_ok-judge_classes.ensures o j first (omega (arith, few, long)) (λ i k e. short_codes p j.formed i k (ap (λ l. slice_get l i) (sym c.as_slice-2.ensures) ∙ e)) in
    keeps_same _ (calls_allow p facts admitted) c.args.loose.items c.judge_classes.new.marks.loose.items all.keeps (λ n m.
    ap (λ a. classes_allow p facts a n 0 c.as_slice-2.result.now) c.as_slice.ensures.value ∙ ap (classes_allow p facts admitted n 0) c.as_slice-2.ensures)
