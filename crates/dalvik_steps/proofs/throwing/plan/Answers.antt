use Rattle.std.proofs.Common.{refl}
use Rattle.dalvik_state.specs.Drafts.{given_world}
use Rattle.dalvik_state.specs.Views.{names_in}
use Rattle.dalvik_steps.specs.Flights.{thrown_value, thrown_world}
use Rattle.dalvik_steps.proofs.throwing.plan.Goals as goal

pub returns-in_err-wraps-clause-kept : goal.returns-in_err-wraps-clause-kept
returns-in_err-wraps-clause-kept c = λ steps run given thrown low.
    let l = c.args.tables.now.lookups in
    let u = given_world (names_in l) c.args.state.now.world c.args.gifts.now in
    c.fly.ensures.kept steps (thrown_world l u c.args.thrown) (thrown_value l u c.args.thrown) run given (c.flying_of-flying.ensures l run.right given thrown) low

pub returns-in_err-reserves-clause-kept : goal.returns-in_err-reserves-clause-kept
returns-in_err-reserves-clause-kept c = λ steps run given thrown low.
    let l = c.args.tables.now.lookups in
    let u = given_world (names_in l) c.args.state.now.world c.args.gifts.now in
    c.fly.ensures.kept steps (thrown_world l u c.args.thrown) (thrown_value l u c.args.thrown) run given (c.flying_of-flying.ensures l run.right given thrown) low

pub returns-clause-kept : goal.returns-clause-kept
returns-clause-kept c = λ steps run given thrown low.
    let l = c.args.tables.now.lookups in
    let u = given_world (names_in l) c.args.state.now.world c.args.gifts.now in
    c.fly.ensures.kept steps (thrown_world l u c.args.thrown) (thrown_value l u c.args.thrown) run given (c.flying_of-flying.ensures l run.right given thrown) low

pub returns-clause-flies : goal.returns-clause-flies
returns-clause-flies c = λ steps run given thrown low.
    let l = c.args.tables.now.lookups in
    let u = given_world (names_in l) c.args.state.now.world c.args.gifts.now in
    record { thrown = refl; flies = c.in_ok-wraps.ensures.flies steps (thrown_world l u c.args.thrown) (thrown_value l u c.args.thrown) run given (c.flying_of-flying.ensures l run.right given thrown) low }
