use Rattle.std.proofs.Common.{◌≡◌, ◌∙◌, ap, sym}
use Rattle.std.specs.Prelude.{Some, None}
use Rattle.std.specs.Option.{option_copied}
use Rattle.std.proofs.lemmas.Result.{IfOk-weaker}
use Rattle.program_model.specs.Lookups as look
use Rattle.dalvik_steps.proofs.Entering.{entry_of}
use Rattle.dalvik_steps.proofs.stack.entry_frame.Goals as goal

pub returns-in-Some : goal.returns-in-Some
returns-in-Some c = λ size own r e fine.
    let l = c.args.tables.now.lookups in
    let m = c.in-Some.method.now in
    let there : look.method_at l.program.now c.args.at ≡ Some m = sym c.method.ensures ∙ ap option_copied c.in-Some.is in
    IfOk-weaker c.first_frame.result _ _ (λ o h. entry_of l r size c.args.at own m c.args.values.now o e there fine h) c.first_frame.ensures

pub returns-in-None : goal.returns-in-None
returns-in-None c = λ size own r e fine.
    let l = c.args.tables.now.lookups in
    let there : look.method_at l.program.now c.args.at ≡ None = sym c.method.ensures ∙ ap option_copied c.in-None.is in
    let no : Some own ≡ None = sym e ∙ there in
    cc
