use Rattle.std.proofs.Common.{Bool, ap, sym, ◌∙◌}
use Rattle.insn_set.specs.declared.form.Insn.{Insn}
use Rattle.dalvik_defs.specs.Naming.{form_of}
use Rattle.dalvik_defs.specs.ActPlain.{branch}
use Rattle.dalvik_defs.specs.Act.{act}
use Rattle.dalvik_state.specs.Views.{frame_of}
use Rattle.dalvik_act.proofs.Tests.{tests_two, tests_zero}
use Rattle.dalvik_act.proofs.plain.act_tests.Goals as goal

pub returns-in-If-clause-acts : goal.returns-in-If-clause-acts
returns-in-If-clause-acts c = λ is under floats size n k apart fine h w.
    let f = frame_of n c.args.frame.now in
    let holds = tests_two n c.args.frame.now size apart fine c.in-If.test c.in-If.a c.get.result c.get.ensures c.in-If.b c.get-in-If.result c.passes-holds.result c.get-in-If.ensures c.passes-holds.ensures in
    c.branches.ensures.does n k h w
    ∙ ap (λ (b : Bool). branch b w f c.in-If.target) holds
    ∙ ap (λ (x : Insn). act under floats (form_of n.program x) w f) (sym c.in-If.is)

pub returns-in-IfZero-clause-acts : goal.returns-in-IfZero-clause-acts
returns-in-IfZero-clause-acts c = λ is under floats size n k apart fine h w.
    let f = frame_of n c.args.frame.now in
    let holds = tests_zero n c.args.frame.now size apart fine c.in-IfZero.test c.in-IfZero.a c.get-in-IfZero.result c.get-in-IfZero.ensures c.passes-holds-in-IfZero.result c.passes-holds-in-IfZero.ensures in
    c.branches-in-IfZero.ensures.does n k h w
    ∙ ap (λ (b : Bool). branch b w f c.in-IfZero.target) holds
    ∙ ap (λ (x : Insn). act under floats (form_of n.program x) w f) (sym c.in-IfZero.is)
