use Rattle.std.proofs.Common.{◌≡◌, ℕ, ◌-◌, ◌∙◌, ap, refl, take}
use Rattle.dalvik_state.specs.States.{below_top}
use Rattle.dalvik_steps.proofs.Handing.{given_within}
use Rattle.dalvik_steps.proofs.stack.gives_within.Goals as goal

pub returns-clause-ok : goal.returns-clause-ok
returns-clause-ok c = λ steps script early r run on outside given fine kind.
    let l = c.args.tables.now.lookups in
    let old = c.args.state.now in
    let stack : c.pop.new.self.items ≡ below_top old.stack.items = c.pop.ensures.rest ∙ ap (λ (n : ℕ). take (n - 1) old.stack.items) old.stack.ok.0 in
    given_within l r steps early script old (record old { world = c.puts.new.world; stack = c.pop.new.self }) _ c.args.gifts c.args.value kind run on outside fine (c.in_ok-puts.ensures.ok l given) refl stack refl refl c.hand_back.ensures
