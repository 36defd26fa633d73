use Rattle.std.proofs.Common.{◌≡◌, ap, sym, subst, ◌∙◌}
use Rattle.insn_set.specs.declared.form.Insn.{Insn}
use Rattle.std.specs.Prelude.{length}
use Rattle.dalvik_defs.specs.Naming.{form_of}
use Rattle.dalvik_defs.specs.ActPlain.{exits}
use Rattle.dalvik_defs.specs.declared.state.Value.{Value}
use Rattle.dalvik_defs.specs.Effect.{Locks, register, unless_null}
use Rattle.dalvik_defs.specs.Act.{act}
use Rattle.dalvik_state.specs.Views.{IsFine, frame_of, value_of, world_of}
use Rattle.dalvik_state.specs.Worlds.{spots_of}
use Rattle.dalvik_act.proofs.Outward.{held}
use Rattle.dalvik_act.proofs.Safe.{held_fine}
use Rattle.dalvik_act.proofs.plain.act_monitors.Goals as goal

pub returns-in-MonitorEnter-clause-acts : goal.returns-in-MonitorEnter-clause-acts
returns-in-MonitorEnter-clause-acts c = λ is under floats n k apart locks fine.
    let w = world_of n c.args.world.now in
    let f = frame_of n c.args.frame.now in
    let asked = c.in-MonitorEnter in
    let value : value_of n c.get-datum.result ≡ register f asked.on = ap (value_of n) c.get-datum.ensures ∙ held n c.args.frame.now asked.on in
    c.unless_null.ensures.acts n k w f
    ∙ ap (λ (v : Value). unless_null v (Locks v)) value
    ∙ ap (λ (x : Insn). act under floats (form_of n.program x) w f) (sym asked.is)

pub returns-in-MonitorExit-clause-acts : goal.returns-in-MonitorExit-clause-acts
returns-in-MonitorExit-clause-acts c = λ is under floats n k apart locks fine.
    let w = world_of n c.args.world.now in
    let f = frame_of n c.args.frame.now in
    let asked = c.in-MonitorExit in
    let value : value_of n c.get-datum-in-MonitorExit.result ≡ register f asked.on = ap (value_of n) c.get-datum-in-MonitorExit.ensures ∙ held n c.args.frame.now asked.on in
    let there = subst (IsFine n (length (spots_of c.args.world.now))) (sym c.get-datum-in-MonitorExit.ensures) (fine.registers asked.on) in
    c.unless_null-in-MonitorExit.ensures.acts n k w f
    ∙ ap (unless_null (value_of n c.get-datum-in-MonitorExit.result)) (c.exits.ensures.acts n k apart locks there f)
    ∙ ap (λ (v : Value). unless_null v (exits w v)) value
    ∙ ap (λ (x : Insn). act under floats (form_of n.program x) w f) (sym asked.is)

pub returns-in-MonitorEnter-clause-fine : goal.returns-in-MonitorEnter-clause-fine
returns-in-MonitorEnter-clause-fine c = λ l size k. c.unless_null.ensures.fine l size (λ e. record { fine = held_fine l size c.args.frame.now c.in-MonitorEnter.on c.get-datum.result k c.get-datum.ensures; there = e })

pub returns-in-MonitorExit-clause-fine : goal.returns-in-MonitorExit-clause-fine
returns-in-MonitorExit-clause-fine c = λ l size k. c.unless_null-in-MonitorExit.ensures.fine l size (λ e. c.exits.ensures.fine l size (held_fine l size c.args.frame.now c.in-MonitorExit.on c.get-datum-in-MonitorExit.result k c.get-datum-in-MonitorExit.ensures) e)
