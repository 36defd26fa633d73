use Rattle.std.proofs.Common.{subst, sym}
use Rattle.std.specs.List.{list_any}
use Rattle.program_model.specs.declared.program.Class.{Class}
use Rattle.rule_text.specs.Related.{AreEach, IsEntryOf}
use Rattle.keep_rules.specs.Grown.{Kinds, Fields, Methods, Silent, Grew, all_marks, size_of, marks_of}
use Rattle.keep_rules.specs.Described.{class_names}
use Rattle.keep_rules.proofs.GrownLemmas.{marked_is, marked_more}
use Rattle.keep_rules.proofs.outside.mark_all.Goals as goal

pub returns : goal.returns
returns c = λ es ready are.
    let p = c.args.view.now.program.now in
    let m = c.mark_entries.new.marks in
    let old = c.in_ok-marks.marks in
    let grew = c.in_ok-mark_entries.ensures es ready (subst (λ l. AreEach IsEntryOf l es) (sym c.as_slice.ensures.value) are) in
    let kinds = marked_is (size_of p Kinds) (all_marks p es Kinds) (marks_of Kinds old) (marks_of Kinds m) (c.in_ok-marks.ensures Kinds) (grew Kinds) in
    record {
      classes = marked_more (size_of p Kinds) (all_marks p es Kinds) (λ n. list_any (λ (d : Class). class_names p m.fields.described.items m.methods.described.items d n) p.classes) m.classes.items c.keep_described.new.classes.items kinds
          (subst (λ fs. Grew (λ n. list_any (λ (d : Class). class_names p fs m.methods.described.items d n) p.classes) m.classes.items c.keep_described.new.classes.items) c.as_slice-2.ensures.value
          (subst (λ ms. Grew (λ n. list_any (λ (d : Class). class_names p c.as_slice-2.result.now ms d n) p.classes) m.classes.items c.keep_described.new.classes.items) c.as_slice-3.ensures.value (c.in_ok-keep_described.ensures ready kinds.size)));
      fields = λ s. marked_is (size_of p (Fields s)) (all_marks p es (Fields s)) (marks_of (Fields s) old) (marks_of (Fields s) m) (c.in_ok-marks.ensures (Fields s)) (grew (Fields s));
      methods = λ s. marked_is (size_of p (Methods s)) (all_marks p es (Methods s)) (marks_of (Methods s) old) (marks_of (Methods s) m) (c.in_ok-marks.ensures (Methods s)) (grew (Methods s));
      silent = marked_is (size_of p Silent) (all_marks p es Silent) (marks_of Silent old) (marks_of Silent m) (c.in_ok-marks.ensures Silent) (grew Silent);
    }
