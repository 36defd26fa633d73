use Rattle.std.proofs.Common.{◌≡◌, sym, subst}
use Rattle.std.specs.Prelude.{IfOk}
use Rattle.insn_set.specs.declared.ops.InvokeKind.{InvokeKind}
use Rattle.const_prop.specs.Given.{kind_value}
use Rattle.const_prop.proofs.results.Results.of_kind.Goals as goal

pub returns-in-Super : goal.returns-in-Super
returns-in-Super c = λ k name proto is lt.
    subst (λ (q : InvokeKind). IfOk c.of_super.result (λ v. v ≡ kind_value c.args.self.now.program.now c.args.self.now.facts.now c.args.caller q name proto c.args.class)) (sym c.in-Super.is) (c.of_super.ensures k name proto is)
