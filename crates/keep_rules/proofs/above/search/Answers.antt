use Rattle.std.proofs.Common.{◌∙◌, ap, sym}
use Rattle.std.specs.Prelude.{slice_get}
use Rattle.keep_rules.proofs.AnyLemmas.{none_past}
use Rattle.class_defs.proofs.WellFormed.{sound}
use Rattle.keep_rules.proofs.BelowLemmas.{search_more, search_end}
use Rattle.keep_rules.proofs.above.search.Goals as goal

pub loop-at-preserved : goal.loop-at-preserved
loop-at-preserved c = λ a ready start. let p = c.args.view.now.program.now in
    search_more p (sound p ready.formed) c.args.view.now.hierarchy.now ready.of a c.args.view.now.below.items ready.below c.loop-at.under.items c.mark_below.new.under.items c.loop-at.kinds.items c.mark_below.new.kinds.items c.loop-at.at _ (sym (c.in-Some.ensures ∙ ap (λ l. slice_get l c.loop-at.at) c.as_slice.ensures.value)) c.in_ok-mark_below-in-Some.ensures (c.loop-at.invariant a ready start)

pub returns-in-None : goal.returns-in-None
returns-in-None c = λ a ready start. let p = c.args.view.now.program.now in
    search_end p (sound p ready.formed) c.args.view.now.hierarchy.now ready.of a c.loop-at.under.items c.loop-at.kinds.items c.loop-at.at (c.loop-at.invariant a ready start)
    (none_past c.loop-at.kinds.items c.loop-at.at (sym (c.in-None.ensures ∙ ap (λ l. slice_get l c.loop-at.at) c.as_slice.ensures.value)))
