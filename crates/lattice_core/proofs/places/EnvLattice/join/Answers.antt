use Rattle.std.proofs.Common.{◌≡◌, arith, length}
use Rattle.std.specs.Prelude.{max}
use Rattle.std.proofs.lemmas.Grind.{common_steps}
use Rattle.lattice_core.proofs.Envs.{ends_fits, ends_upper}
use Rattle.lattice_core.proofs.places.EnvLattice.join.Goals as goal

pub invariant_of-result : goal.invariant_of-result
invariant_of-result g c =
    let e : c.loop-i.i ≡ max (length c.self.inside.items.items) (length c.other.inside.items.items) = grind (arith, common_steps) in
    ends_fits _ _ _ _ _ _ _ _ _ e c.self.view_is c.other.view_is _ _ c.self.invariant.few c.other.invariant.few c.in_ok-copy.ensures c.self.invariant.low_is c.loop-i.invariant

pub returns-clause-over : goal.returns-clause-over
returns-clause-over g c =
    let e : c.loop-i.i ≡ max (length c.self.inside.items.items) (length c.other.inside.items.items) = grind (arith, common_steps) in
    ends_upper _ _ _ _ _ _ _ _ _ e c.self.view_is c.other.view_is g.met.L.Lattice.reflexive c.loop-i.invariant
