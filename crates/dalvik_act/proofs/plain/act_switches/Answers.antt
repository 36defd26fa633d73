use Rattle.std.proofs.Common.{◌≡◌, ℕ, rules, FitsSigned, ap, sym, ◌∙◌}
use Rattle.std.specs.Prelude.{Option, false, true}
use Rattle.std.specs.Int.{w32}
use Rattle.std.proofs.lemmas.Int.{to_z-of_z}
use Rattle.insn_set.specs.declared.form.Insn.{Insn}
use Rattle.dalvik_defs.specs.Naming.{form_of}
use Rattle.dalvik_defs.specs.Arith.{signed}
use Rattle.dalvik_defs.specs.ActNumber.{number}
use Rattle.dalvik_defs.specs.ActPlain.{goes_to, switch_target}
use Rattle.dalvik_defs.specs.Act.{act}
use Rattle.dalvik_state.specs.Frames.{number_in}
use Rattle.dalvik_state.specs.Views.{frame_of}
use Rattle.dalvik_act.specs.Acting.{are_keys, is_switch}
use Rattle.dalvik_act.proofs.Answered.{number_at}
use Rattle.dalvik_act.proofs.plain.act_switches.Goals as goal

pub returns-in-SparseSwitch-clause-acts : goal.returns-in-SparseSwitch-clause-acts
returns-in-SparseSwitch-clause-acts c = λ is under floats n k h w.
    let f = frame_of n c.args.frame.now in
    let switch = c.in-SparseSwitch in
    let keys : c.as_slice-in-SparseSwitch.result.now ≡ switch.keys = c.as_slice-in-SparseSwitch.ensures in
    let targets : c.as_slice-in-SparseSwitch-2.result.now ≡ switch.targets = c.as_slice-in-SparseSwitch-2.ensures in
    let read : number_in c.get-in-SparseSwitch.result ≡ number f switch.on = ap number_in c.get-in-SparseSwitch.ensures ∙ number_at n c.args.frame.now switch.on in
    let fits : FitsSigned w32 c.key_of-key.result = search rules in
    let key : c.key_of-key.result ≡ signed false (number f switch.on) = c.key_of-key.ensures ∙ ap (signed false) read in
    let ok : are_keys c.as_slice-in-SparseSwitch.result.now c.as_slice-in-SparseSwitch-2.result.now ≡ true = (λ i. are_keys (keys i) (targets i)) ∙ ap is_switch (sym switch.is) ∙ is in
    c.goes_to-in-SparseSwitch.ensures.does n k h w
    ∙ ap (λ (t : Option ℕ). goes_to t w f) (c.sparse_target-target.ensures ok ∙ (λ i. switch_target ((to_z-of_z w32 c.key_of-key.result fits ∙ key) i) (keys i) (targets i)))
    ∙ ap (λ (x : Insn). act under floats (form_of n.program x) w f) (sym switch.is)
