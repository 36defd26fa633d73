use Rattle.keep_rules.specs.Described.{names_class, field_names}
use Rattle.keep_rules.proofs.DescribedLemmas.{listed_none, listed_as, field_named, field_unnamed}
use Rattle.keep_rules.proofs.describe.add_field.Goals as goal

pub returns-in_ok-add_class-in-Some : goal.returns-in_ok-add_class-in-Some
returns-in_ok-add_class-in-Some c = λ ready. let p = c.args.view.now.program.now in
    listed_as p (λ n. names_class p n c.in-Some.name.now.kind) (λ n. field_names p n c.args.field) c.args.out.now.items _ (λ n h. field_named p n c.args.field c.in-Some.name.now c.in-Some.ensures) (c.in_ok-add_class-in-Some.ensures ready)

pub returns-in-None : goal.returns-in-None
returns-in-None c = λ ready. let p = c.args.view.now.program.now in listed_none p (λ n. field_names p n c.args.field) c.args.out.now.items (λ n h. field_unnamed p n c.args.field c.in-None.ensures)
