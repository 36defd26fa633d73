use Rattle.std.proofs.Common.{◌≡◌, ℕ, ◌-◌, ◌∙◌, ap, refl, take}
use Rattle.dalvik_lookups.specs.Views.{type_text}
use Rattle.dalvik_state.specs.declared.state.Waiting.{Waiting}
use Rattle.dalvik_state.specs.States.{below_top}
use Rattle.dalvik_steps.proofs.Handing.{given_out}
use Rattle.dalvik_steps.proofs.stack.gives_out.Goals as goal

pub returns-clause-ok : goal.returns-clause-ok
returns-clause-ok c = λ steps script early r run on outside given fine.
    let l = c.args.tables.now.lookups in
    let old = c.args.state.now in
    let stack : c.pop.new.self.items ≡ below_top old.stack.items = c.pop.ensures.rest ∙ ap (λ (n : ℕ). take (n - 1) old.stack.items) old.stack.ok.0 in
    given_out l steps script old _ c.args.gifts c.args.value (type_text l.types c.args.kind) c.in_ok-value.value run on outside (c.in_ok-value.ensures.ok r given fine) refl stack refl refl
