use Rattle.std.proofs.Common.{drop}
use Rattle.std.specs.List.{list_any}
use Rattle.keep_rules.specs.View.{IsReady}
use Rattle.keep_rules.specs.Described.{names_class, ListsLeft}
use Rattle.keep_rules.proofs.describe.add_classes.Given as goal

abbrev pub invariant-loop-kind : goal.invariant-loop-kind
invariant-loop-kind l = IsReady l.view → ListsLeft l.view.program.now (λ n. list_any (names_class l.view.program.now n) (drop l.kind-index l.kinds)) (λ n. list_any (names_class l.view.program.now n) l.kinds) l.initial.out.items l.out.items
