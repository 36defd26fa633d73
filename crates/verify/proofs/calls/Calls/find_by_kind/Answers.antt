use Rattle.std.proofs.Common.{◌∙◌, sym}
use Rattle.verify.proofs.Calling.{kind_listed, kind_above}
use Rattle.verify.proofs.calls.Calls.find_by_kind.Goals as goal

pub returns-then-branch-clause-is : goal.returns-then-branch-clause-is
returns-then-branch-clause-is c = λ q of e k fair size. kind_listed c.args.self.now.program.now c.args.class c.args.kind q k (sym c.if-branch.true ∙ c.in_ok-lists_above.ensures.is of fair size)

pub returns-else-branch-clause-is : goal.returns-else-branch-clause-is
returns-else-branch-clause-is c = λ q of e k fair size.
    kind_above c.args.self.now.program.now c.args.class c.args.kind q c.find_above.result k (sym c.if-branch.false ∙ c.in_ok-lists_above.ensures.is of fair size) (c.find_above.ensures q of e)
