use Rattle.std.proofs.Common.{◌≡◌, ◌∙◌, ap, ap₂, codes, true}
use Rattle.std.proofs.lemmas.Result.{IfOk-weaker}
use Rattle.clap.specs.Simple.{App, app_of, app_of_fields, on_top, with_rule}
use Rattle.command_line.specs.Parsing.{bare_app, operand_rule, valued_rule}
use Rattle.command_line.proofs.parse.command.Goals as goal

pub returns : goal.returns
returns c =
    let bare : app_of c.disable_help_flag.result ≡ bare_app c.args.name.now =
    ap app_of_fields c.disable_help_flag.ensures ∙ ap (on_top (λ s. record s { disable_help_flag = true })) c.new.ensures.app in
    let one : app_of c.in_ok-arg.field-0 ≡ with_rule (bare_app c.args.name.now) operand_rule = c.in_ok-arg.ensures.shape c.operand.ensures.local ∙ ap₂ with_rule bare c.operand.ensures.rule in
    let two = c.in_ok-arg-2.ensures.shape c.valued.ensures.local ∙ ap₂ with_rule one c.valued.ensures.rule in
    let three = c.in_ok-arg-3.ensures.shape c.valued-2.ensures.local ∙ ap₂ with_rule two c.valued-2.ensures.rule in
    let four = c.in_ok-arg-4.ensures.shape c.valued-3.ensures.local ∙ ap₂ with_rule three c.valued-3.ensures.rule in
    IfOk-weaker c.arg-5.result _ _ (λ m h. h.shape c.flag.ensures.local ∙ ap₂ with_rule four c.flag.ensures.rule) c.arg-5.ensures
