use Rattle.std.proofs.Common.{◌∙◌, sym, subst}
use Rattle.verify.specs.Supers.{Finds}
use Rattle.verify.proofs.Calling.{finds_none}
use Rattle.verify.proofs.calls.Calls.search_all.Goals as goal

pub returns-else-has_super-clause-is : goal.returns-else-has_super-clause-is
returns-else-has_super-clause-is c = λ of s. subst (λ found. Finds c.args.self.now.program.now c.args.class c.args.insns.now found) (sym c.new.ensures.items) (finds_none c.args.self.now.program.now c.args.class c.args.insns.now (sym c.has_super.ensures ∙ c.if-has_super.false))
