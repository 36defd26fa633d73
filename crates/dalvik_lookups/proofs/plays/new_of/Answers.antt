use Rattle.std.proofs.Common.{ap, ◌∙◌}
use Rattle.dalvik_defs.specs.declared.script.Given.TheVariants as given
use Rattle.dalvik_lookups.proofs.plays.new_of.Goals as goal

pub returns-clause-is : goal.returns-clause-is
returns-clause-is c = λ r. let k = c.in_ok-kind.ensures.is r in record { is = ap (λ u. given.New u) (k.text ∙ c.units.ensures); stands = record { kind = k.kind; deep = c.in_ok-kind.ensures.deep r } }
