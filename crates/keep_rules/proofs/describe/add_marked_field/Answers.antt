use Rattle.keep_rules.specs.Described.{field_names}
use Rattle.keep_rules.proofs.DescribedLemmas.{unmarked_lists, marked_lists}
use Rattle.keep_rules.proofs.describe.add_marked_field.Goals as goal

pub returns-then-not-marked : goal.returns-then-not-marked
returns-then-not-marked c = λ ready. let p = c.args.view.now.program.now in unmarked_lists p c.args.fields.now c.args.field (λ n. field_names p n c.args.field) c.is_marked-marked.result c.args.out.now.items c.is_marked-marked.ensures c.if-not-marked.true

pub returns : goal.returns
returns c = λ ready. let p = c.args.view.now.program.now in
    marked_lists p c.args.fields.now c.args.field (λ n. field_names p n c.args.field) c.is_marked-marked.result c.args.out.now.items _ c.is_marked-marked.ensures c.if-not-marked.false (c.in_ok-add_field.ensures ready)
