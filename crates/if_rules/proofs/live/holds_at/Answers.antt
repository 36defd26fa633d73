use Rattle.std.proofs.Common.{◌≡◌, ◌∙◌, None, Some, slice_get, ap, sym}
use Rattle.std.specs.Option.{option_copied}
use Rattle.std.proofs.lemmas.Result.{IfOk-weaker}
use Rattle.keep_rules.proofs.KeepLemmas.{class_has_names}
use Rattle.if_rules.proofs.Rounds.{holds_class, holds_no_class}
use Rattle.if_rules.proofs.live.holds_at.Goals as goal

pub returns-in-Some : goal.returns-in-Some
returns-in-Some c = λ r formed of.
    let at : slice_get c.args.program.now.classes c.args.instance.now.class ≡ Some c.in-Some.class.now = sym c.class_there.ensures ∙ ap option_copied c.in-Some.is in
    IfOk-weaker c.holds_in.result _ _ (λ b is. is ∙ sym (holds_class c.args.program.now c.args.live.now r c.args.instance.now c.in-Some.class.now at))
    (c.holds_in.ensures r (class_has_names c.args.program.now formed c.args.instance.now.class c.in-Some.class.now at) of)

pub returns-in-None : goal.returns-in-None
returns-in-None c = λ r formed of.
    let at : slice_get c.args.program.now.classes c.args.instance.now.class ≡ None = sym c.class_there.ensures ∙ ap option_copied c.in-None.is in
    holds_no_class c.args.program.now c.args.live.now r c.args.instance.now at
