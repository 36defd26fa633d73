use Rattle.dalvik_lookups.proofs.Making.{grows_types, has_names_stay}
use Rattle.dalvik_lookups.proofs.lookups.above_of.Goals as goal

pub returns-clause-grows : goal.returns-clause-grows
returns-clause-grows c = λ r. grows_types c.args.names.now c.rows_of.new.types r (c.in_ok-rows.ensures.grows r.types)

pub returns-clause-above : goal.returns-clause-above
returns-clause-above c = λ w h.
    let g = grows_types c.args.names.now c.rows_of.new.types (record { types = h.types; texts = h.texts }) (c.in_ok-rows.ensures.grows h.types) in
    c.in_ok-above.ensures w (has_names_stay c.args.program.now c.args.names.now _ h g) c.args.framework.now (c.in_ok-rows.ensures.rows h.types)
