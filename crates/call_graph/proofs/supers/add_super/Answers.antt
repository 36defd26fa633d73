use Rattle.std.proofs.Common.{ap}
use Rattle.class_defs.specs.Finding.{is_037}
use Rattle.call_graph.proofs.SuperCalls.{adds_old}
use Rattle.call_graph.proofs.supers.add_super.Goals as goal

pub returns-in_ok-add_above-in-V035-clause-finds : goal.returns-in_ok-add_above-in-V035-clause-finds
returns-in_ok-add_above-in-V035-clause-finds c = λ is fits are short q e.
    adds_old c.args.at.now.program.now c.args.caller.0 c.args.caller.1 q c.args.out.now.items c.add_above.new.out.items (ap is_037 c.in-V035.is) (c.in_ok-add_above-in-V035.ensures.adds is q (c.key_of_method-key.ensures.is c.args.at.now.program.now q e))
