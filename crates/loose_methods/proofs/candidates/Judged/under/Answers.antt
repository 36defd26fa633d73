use Rattle.std.proofs.Common.{◌∙◌, ◌++◌, ap, [], ◌∷◌}
use Rattle.loose_methods.proofs.Under.{under_are}
use Rattle.loose_methods.proofs.candidates.Judged.under.Goals as goal

pub returns : goal.returns
returns c = λ j lt. under_are c.args.self.now.program.now j.resolved.of.ranked c.args.place c.push.new.self.items lt
    (c.in_ok-push.ensures.items ∙ ap (λ xs. xs ++ c.args.place ∷ []) (c.in_ok-under.ensures c.args.self.now.program.now j.resolved lt))
