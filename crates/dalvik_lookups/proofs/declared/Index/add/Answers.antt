use Rattle.std.proofs.Common.{sym, ◌∙◌}
use Rattle.dalvik_lookups.specs.Declaring.{found_in}
use Rattle.dalvik_lookups.proofs.Indexed.{add_new}
use Rattle.dalvik_lookups.proofs.declared.Index.add.Goals as goal

pub returns-in_ok-insert-in-None : goal.returns-in_ok-insert-in-None
returns-in_ok-insert-in-None c = add_new c.args.class c.args.key c.args.place (found_in c.args.self.now) (found_in (record { places = c.insert.new.self })) (sym c.find.ensures ∙ c.in-None.is) (c.in_ok-insert-in-None.ensures.updates.0)
