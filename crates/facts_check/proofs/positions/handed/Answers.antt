use Rattle.std.proofs.Common.{Option, subst}
use Rattle.std.specs.Prelude.{IfSome}
use Rattle.std.specs.Option.{option_copied}
use Rattle.dom_frame.specs.Registers.{Registers}
use Rattle.closed_facts.specs.Edges.{edges}
use Rattle.facts_check.specs.Landing.{EachGoes}
use Rattle.facts_check.proofs.Placing.{none_taken}
use Rattle.facts_check.proofs.positions.handed.Goals as goal

pub returns-in-Some : goal.returns-in-Some
returns-in-Some c = λ known n. record {
  goes = subst (λ (o : Option (Option Registers)). IfSome o (λ next. EachGoes c.args.site.now.starts.now n next (edges c.args.known.now.program.now c.args.known.now.facts.now n c.args.insn.now c.args.registers.now))) c.in-Some.is (c.in_ok-next-in_default.ensures known n);
  taken = none_taken c.args.known.now c.args.site.now.class (option_copied c.args.before) c.args.insn.now c.args.registers.now c.in-Some.next c.in_default.not-MoveResult;
}
