use Rattle.std.proofs.Common.{◌+◌, ◌++◌, Option, sym, subst}
use Rattle.dom_frame.specs.Registers.{Registers}
use Rattle.dom_frame.specs.Steps.{unswitched}
use Rattle.closed_facts.specs.Edges.{arm, cases_from}
use Rattle.facts_check.specs.Landing.{EachGoes}
use Rattle.facts_check.proofs.Landings.{switch_goes}
use Rattle.facts_check.proofs.jumps.behind_switch.Goals as goal

pub returns : goal.returns
returns c = λ n.
    subst (λ (o : Option Registers). EachGoes c.args.starts.now n o (arm (n + 1) (unswitched c.args.insn.now c.args.registers.now) ++ cases_from 0 c.args.insn.now c.args.targets.now c.args.registers.now)) (sym c.in_ok-switch_past.ensures)
    (switch_goes c.args.starts.now n c.args.insn.now c.args.targets.now c.args.registers.now (c.in_ok-cases_land.ensures c.if-not-branch.false))
