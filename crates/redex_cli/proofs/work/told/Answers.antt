use Rattle.redex_cli.proofs.Tells.{told_so, none_asked}
use Rattle.redex_cli.proofs.work.told.Goals as goal

pub returns-clause-told : goal.returns-clause-told
returns-clause-told g c = told_so (λ b. (goal.Adviser-dyn g (b.vtable, b.value)).replies b.value) c.args.tells.now c.args.advisers.items _ _ _ _ c.new-panel.ensures.advisers c.new-panel.ensures.answers c.in_ok-tell_all.ensures

pub returns-clause-unasked : goal.returns-clause-unasked
returns-clause-unasked g c = none_asked c.args.tells.now _ _ _ _ c.new-panel.ensures.answers c.in_ok-tell_all.ensures
