use Rattle.std.proofs.Common.{sym, ◌∙◌}
use Rattle.hierarchy.specs.Membership.{found_in}
use Rattle.hierarchy.proofs.Indexed.{add_new}
use Rattle.hierarchy.proofs.members.Members.add.Goals as goal

pub returns-in_ok-insert-in-None : goal.returns-in_ok-insert-in-None
returns-in_ok-insert-in-None c = add_new c.args.class c.args.key c.args.place (found_in c.args.self.now) (found_in (record { places = c.insert.new.self })) (sym c.find.ensures ∙ c.in-None.is) (c.in_ok-insert-in-None.ensures.updates.0)
