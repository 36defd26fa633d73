use Rattle.std.proofs.Common.{◌∙◌, ◌++◌, map, ap}
use Rattle.class_defs.specs.Places.{interface_places}
use Rattle.dalvik_lookups.specs.declared.starts.Visit.TheVariants.{Above}
use Rattle.dalvik_lookups.specs.Rising.{todo}
use Rattle.dalvik_lookups.proofs.lookups.Lookups.interfaces_first.Goals as goal

pub returns-clause-is : goal.returns-clause-is
returns-clause-is c = λ r m.
    let clear = c.clear.ensures.clear m.fair in
    c.in_ok-out.ensures.is c.args.class r (record { long = clear.long ∙ m.long; unseen = clear.unseen })
    (c.in_ok-push_all.ensures.first ∙ ap (λ l. map (λ c. Above c) l ++ todo c.new-rise.result) (c.interfaces_of.ensures c.args.self.now.program.now r.resolved.of) ∙ ap (λ s. map (λ c. Above c) (interface_places c.args.self.now.program.now c.args.class) ++ s) c.new-rise.ensures)
