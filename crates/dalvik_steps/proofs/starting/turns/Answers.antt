use Rattle.std.proofs.Common.{length, subst, sym}
use Rattle.dalvik_state.specs.Worlds.{spots_of}
use Rattle.dalvik_steps.specs.Turns.{ComesTurn}
use Rattle.dalvik_steps.specs.declared.starting.Turn.{Turn}
use Rattle.dalvik_steps.proofs.Stacked.{no_turn_left}
use Rattle.dalvik_steps.proofs.starting.turns.Goals as goal

pub returns-in-Goes-clause-ok : goal.returns-in-Goes-clause-ok
returns-in-Goes-clause-ok c = λ steps script r run on low.
    let l = c.args.tables.now.lookups in
    let size = length (spots_of c.args.state.now.world) in
    c.stands.ensures.ok l steps script r run on low (subst (ComesTurn l size c.args.class) c.in-Goes.is (c.in_ok-frame.ensures size r low))

pub returns-in-Ends-clause-ok : goal.returns-in-Ends-clause-ok
returns-in-Ends-clause-ok c = λ steps script r run on low.
    let l = c.args.tables.now.lookups in
    let size = length (spots_of c.args.state.now.world) in
    no_turn_left l steps script c.args.state.now _ c.args.count c.args.class c.end.ensures (subst (ComesTurn l size c.args.class) c.in-Ends.is (c.in_ok-frame.ensures size r low))
