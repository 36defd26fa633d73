use Rattle.std.proofs.Common.{◌≡◌, ◌∙◌, true, Some, ap, sym}
use Rattle.std.specs.Prelude.{◌||◌, not}
use Rattle.receivers.specs.Receiving.{interface_at}
use Rattle.devirt.specs.Binding.{default_of, is_under_default}
use Rattle.devirt.proofs.Defaults.{default_short}
use Rattle.devirt.proofs.binding.Binder.may_rebind.Goals as goal

pub returns-in-Some : goal.returns-in-Some
returns-in-Some c = λ r l.
    let p = c.args.self.now.finder.program.now in
    let e : default_of p c.args.method ≡ Some c.in-Some.interface = sym (c.default_of.ensures r) ∙ c.in-Some.is in
    let i : interface_at p c.args.class ≡ true = sym c.is_interface.ensures ∙ c.if-not-is_interface.false in
    c.is_under.ensures p r l (default_short p c.args.method c.in-Some.interface e)
    ∙ sym (ap (λ b. not b || is_under_default p c.args.class (default_of p c.args.method)) i ∙ ap (is_under_default p c.args.class) e)
