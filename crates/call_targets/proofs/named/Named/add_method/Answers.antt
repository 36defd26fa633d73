use Rattle.std.proofs.Common.{◌≡◌, ◌∙◌, List, Bool, true, ap, sym}
use Rattle.call_targets.specs.Targeted.{is_on}
use Rattle.call_targets.proofs.Naming.{body_some}
use Rattle.call_targets.proofs.named.Named.add_method.Goals as goal

pub returns-in_ok-add_body-in-Some : goal.returns-in_ok-add_body-in-Some
returns-in_ok-add_body-in-Some c = λ few are.
    let name = c.args.method.now.name in
    let on : is_on c.args.live.now.methods.items name ≡ true = ap (λ (l : List Bool). is_on l name) (sym c.deref.ensures.value) ∙ sym c.is_on.ensures ∙ c.if-not-is_on.false in
    body_some c.args.live.now c.args.at.now.program.now c.args.method.now c.in-Some.body c.args.self.now c.add_body.new.self on c.in-Some.is (c.in_ok-add_body-in-Some.ensures few are)
