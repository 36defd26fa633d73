use Rattle.std.proofs.Common.{◌≡◌, drop}
use Rattle.dex_base.specs.declared.descriptor.Spot.TheVariants.{Element}
use Rattle.dex_base.specs.Descriptor.{ends_in}
use Rattle.dex_base.proofs.descriptor.split_descriptor.Given as goal

abbrev pub invariant-loop-at : goal.invariant-loop-at
invariant-loop-at l = ends_in l.at l.spot (drop l.at l.units) ≡ ends_in 0 (Element 0) l.fn.text
