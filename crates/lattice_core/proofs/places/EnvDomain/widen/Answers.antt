use Rattle.std.proofs.Common.{◌≡◌, arith, length}
use Rattle.std.specs.Prelude.{max}
use Rattle.std.proofs.lemmas.Grind.{common_steps}
use Rattle.lattice_core.proofs.Envs.{ends_fits, ends_upper, ends_widened}
use Rattle.lattice_core.proofs.places.EnvDomain.widen.Goals as goal

pub invariant_of-result : goal.invariant_of-result
invariant_of-result g c =
    let e : c.loop-i.i ≡ max (length c.self.inside.items.items) (length c.newer.inside.items.items) = grind (arith, common_steps) in
    ends_fits _ _ _ _ _ _ _ _ _ e c.self.view_is c.newer.view_is _ _ c.self.invariant.few c.newer.invariant.few c.in_ok-copy.ensures c.self.invariant.low_is c.loop-i.invariant.made

pub returns-clause-over : goal.returns-clause-over
returns-clause-over g c =
    let e : c.loop-i.i ≡ max (length c.self.inside.items.items) (length c.newer.inside.items.items) = grind (arith, common_steps) in
    ends_upper _ _ _ _ _ _ _ _ _ e c.self.view_is c.newer.view_is g.met.L.Lattice.reflexive c.loop-i.invariant.made

pub returns-clause-falls : goal.returns-clause-falls
returns-clause-falls g c =
    let e : c.loop-i.i ≡ max (length c.self.inside.items.items) (length c.newer.inside.items.items) = grind (arith, common_steps) in
    ends_widened _ _ _ _ _ _ _ _ _ e c.self.view_is c.newer.view_is _ _ _ g.met.L.Lattice.reflexive c.self.invariant.few c.newer.invariant.few c.loop-i.invariant.made c.loop-i.invariant.falls
