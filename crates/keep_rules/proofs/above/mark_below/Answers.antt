use Rattle.std.proofs.Common.{◌∙◌, ap, subst}
use Rattle.keep_rules.specs.Rows.{row_in}
use Rattle.keep_rules.specs.Below.{MarksSome}
use Rattle.keep_rules.proofs.above.mark_below.Goals as goal

pub returns : goal.returns
returns c = subst (λ ps. MarksSome c.args.view.now.program.now ps c.args.under.now.items c.mark_classes.new.under.items c.args.kinds.now.items c.mark_classes.new.kinds.items) (c.row_at-places.ensures ∙ ap (λ r. row_in r c.args.kind) c.as_slice.ensures.value) c.in_ok-mark_classes.ensures
