use Rattle.std.proofs.Common.{◌∙◌, sym, ap}
use Rattle.dalvik_defs.specs.Naming.{mark_of}
use Rattle.rule_defs.specs.Patterns.{class_name_fits}
use Rattle.rule_defs.specs.Members.{type_of_note}
use Rattle.keep_rules.proofs.AccessLemmas.{note_type}
use Rattle.keep_rules.proofs.EachLemmas.{named_end, named_found, named_passed}
use Rattle.keep_rules.proofs.access.mark_holds.Goals as goal

pub returns-then-fits : goal.returns-then-fits
returns-then-fits c = λ w is. named_found (mark_of c.args.program.now) (λ m. class_name_fits w (type_of_note m.note)) c.args.marks.now c.loop-mark.mark-index _ _ c.loop-mark-test.true c.mark-item.is
    (c.in_ok-fits.ensures w is ∙ ap (class_name_fits w) (c.descriptor.ensures ∙ sym (note_type c.args.program.now _))) c.if-fits.true (c.loop-mark.invariant w is)

pub loop-mark-preserved : goal.loop-mark-preserved
loop-mark-preserved c = λ w is. named_passed (mark_of c.args.program.now) (λ m. class_name_fits w (type_of_note m.note)) c.args.marks.now c.loop-mark.mark-index _ _ c.loop-mark-test.true c.mark-item.is
    (c.in_ok-fits.ensures w is ∙ ap (class_name_fits w) (c.descriptor.ensures ∙ sym (note_type c.args.program.now _))) c.if-fits.false (c.loop-mark.invariant w is)

pub returns : goal.returns
returns c = λ w is. named_end (mark_of c.args.program.now) (λ m. class_name_fits w (type_of_note m.note)) c.args.marks.now _ c.loop-mark-test.false (c.loop-mark.invariant w is)
