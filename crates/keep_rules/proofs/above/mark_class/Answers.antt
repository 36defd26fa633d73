use Rattle.std.proofs.Common.{◌∙◌, sym, ap}
use Rattle.keep_rules.specs.Marks.{is_on}
use Rattle.keep_rules.proofs.BelowLemmas.{some_marked, some_added}
use Rattle.keep_rules.proofs.above.mark_class.Goals as goal

pub returns-then-marked : goal.returns-then-marked
returns-then-marked c = some_marked c.args.program.now c.args.place c.args.under.now.items c.args.kinds.now.items (ap (λ l. is_on l c.args.place) (sym c.as_slice.ensures.value) ∙ sym c.is_marked-marked.ensures ∙ c.if-marked.true)

pub returns : goal.returns
returns c = some_added c.args.program.now c.args.place c.args.under.now.items _ c.args.kinds.now.items _ c.mark.ensures c.in_ok-add_class.ensures (ap (λ l. is_on l c.args.place) (sym c.as_slice.ensures.value) ∙ sym c.is_marked-marked.ensures ∙ c.if-marked.false)
