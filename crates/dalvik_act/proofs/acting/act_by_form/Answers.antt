use Rattle.std.proofs.Common.{◌≡◌, length, rules}
use Rattle.std.specs.Prelude.{true}
use Rattle.std.proofs.lemmas.Result.{IfOk-weaker}
use Rattle.name_bridge.proofs.Tables.{sound}
use Rattle.dalvik_state.specs.Worlds.{spots_of}
use Rattle.dalvik_act.specs.Acting.{is_test}
use Rattle.dalvik_act.proofs.Bodies.{placed_of}
use Rattle.dalvik_act.proofs.Worlds.{kept_same, safe_here, safe_same}
use Rattle.dalvik_act.proofs.acting.act_by_form.Goals as goal

pub returns-in-If-clause-acts : goal.returns-in-If-clause-acts
returns-in-If-clause-acts c = λ is under floats size n made k apart fine h w.
    let test : is_test c.args.insn.now ≡ true = search rules in
    c.act_tests.ensures.acts test under floats size n k apart fine h w

pub returns-in-Nop-clause-safe : goal.returns-in-Nop-clause-safe
returns-in-Nop-clause-safe c = λ a fits array. safe_here c.args.tables.now.lookups c.args.world.now c.args.frame.now c.act_moves.new.frame c.act_moves.result a.ready c.act_moves.ensures.safe

pub returns-in-Cmp-clause-safe : goal.returns-in-Cmp-clause-safe
returns-in-Cmp-clause-safe c = λ a fits array. safe_here c.args.tables.now.lookups c.args.world.now c.args.frame.now c.act_numbers.new.frame c.act_numbers.result a.ready c.act_numbers.ensures.safe

pub returns-in-If-clause-safe : goal.returns-in-If-clause-safe
returns-in-If-clause-safe c = λ a fits array. safe_here c.args.tables.now.lookups c.args.world.now c.args.frame.now c.act_tests.new.frame c.act_tests.result a.ready c.act_tests.ensures.safe

pub returns-in-PackedSwitch-clause-safe : goal.returns-in-PackedSwitch-clause-safe
returns-in-PackedSwitch-clause-safe c = λ a fits array. safe_here c.args.tables.now.lookups c.args.world.now c.args.frame.now c.act_switches.new.frame c.act_switches.result a.ready c.act_switches.ensures.safe

pub returns-in-Const-clause-safe : goal.returns-in-Const-clause-safe
returns-in-Const-clause-safe c = λ a fits array.
    let l = c.args.tables.now.lookups in
    let w = c.args.world.now in
    let f = c.args.frame.now in
    record {
      world = kept_same l w a.ready.sound;
      safe = c.act_constants.ensures.safe a.right.tabled.named (placed_of l.program.now (sound l.program.now a.right.well) c.args.insn.now fits array) (length (spots_of w)) a.ready.below a.ready.fine;
    }

pub returns-in-ReturnVoid-clause-safe : goal.returns-in-ReturnVoid-clause-safe
returns-in-ReturnVoid-clause-safe c = λ a fits array. let l = c.args.tables.now.lookups in let w = c.args.world.now in safe_same l w c.args.frame.now c.act_ends.result a.ready (c.act_ends.ensures.fine l (length (spots_of w)) a.ready.fine)

pub returns-in-MonitorEnter-clause-safe : goal.returns-in-MonitorEnter-clause-safe
returns-in-MonitorEnter-clause-safe c = λ a fits array. let l = c.args.tables.now.lookups in let w = c.args.world.now in safe_same l w c.args.frame.now c.act_monitors.result a.ready (c.act_monitors.ensures.fine l (length (spots_of w)) a.ready.fine)

pub returns-in-NewInstance-clause-safe : goal.returns-in-NewInstance-clause-safe
returns-in-NewInstance-clause-safe c = λ a fits array. let l = c.args.tables.now.lookups in let w = c.args.world.now in safe_same l w c.args.frame.now c.act_outward.result a.ready (c.act_outward.ensures.fine l (length (spots_of w)) fits a.ready.fine)

pub returns-in-ArrayLength-clause-safe : goal.returns-in-ArrayLength-clause-safe
returns-in-ArrayLength-clause-safe c = λ a fits array. c.act_arrays.ensures.safe a.right a.ready fits array

pub returns-in-ArrayGet-clause-safe : goal.returns-in-ArrayGet-clause-safe
returns-in-ArrayGet-clause-safe c = λ a fits array. c.act_items.ensures.safe c.args.tables.now.lookups a.ready

pub returns-in-ArrayGet-clause-memo : goal.returns-in-ArrayGet-clause-memo
returns-in-ArrayGet-clause-memo c = λ a fits. c.act_items.ensures.memo a

pub returns-in_ok-effect-in-CheckCast-clause-safe : goal.returns-in_ok-effect-in-CheckCast-clause-safe
returns-in_ok-effect-in-CheckCast-clause-safe c = λ a fits array. safe_here c.args.tables.now.lookups c.args.world.now c.args.frame.now c.act_types.new.frame c.in_ok-effect-in-CheckCast.effect a.ready c.in_ok-effect-in-CheckCast.ensures.safe
