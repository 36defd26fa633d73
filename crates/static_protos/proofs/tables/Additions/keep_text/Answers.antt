use Rattle.static_protos.proofs.Grown.{inserted}
use Rattle.static_protos.proofs.tables.Additions.keep_text.Goals as goal

pub returns-in_ok-insert-in-None-clause-texts : goal.returns-in_ok-insert-in-None-clause-texts
returns-in_ok-insert-in-None-clause-texts c = λ e.
    inserted c.args.self.now.texts.keys c.insert.new.self.keys c.in_ok-from_slice-in-None.field-0 c.args.text.now c.args.place c.in_ok-from_slice-in-None.ensures.items c.in-None.is e c.in_ok-insert-in-None.ensures.keys
