use Rattle.std.proofs.Common.{◌∙◌, ap, refl, sym}
use Rattle.std.specs.Prelude.{◌&&◌, not}
use Rattle.loose_methods.specs.Loose.{is_this}
use Rattle.loose_methods.specs.Marking.{is_on}
use Rattle.loose_methods.proofs.Marks.{barred, barred_long, unbarred}
use Rattle.loose_methods.proofs.mentions.bar.Goals as goal

pub returns-in-Some-clause-long : goal.returns-in-Some-clause-long
returns-in-Some-clause-long c = barred_long c.args.marks.now c.turn.new.marks c.in-Some.number c.turn.ensures

pub returns-in-Some-clause-are : goal.returns-in-Some-clause-are
returns-in-Some-clause-are c = λ n. barred c.args.marks.now c.turn.new.marks c.in-Some.number n c.turn.ensures ∙ ap (λ o. is_on c.args.marks.now n && not (is_this n o)) (sym c.in-Some.is)

pub returns-in-None-clause-are : goal.returns-in-None-clause-are
returns-in-None-clause-are c = λ n. unbarred c.args.marks.now c.args.marks.now n refl ∙ ap (λ o. is_on c.args.marks.now n && not (is_this n o)) (sym c.in-None.is)
