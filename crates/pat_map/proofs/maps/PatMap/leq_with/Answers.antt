use Rattle.std.proofs.Common.{◌≡◌, sym, subst, refl, false, true}
use Rattle.std.specs.Prelude.{IsTrue, ◌↔◌}
use Rattle.std.specs.FinMap as finite
use Rattle.pat_map.specs.Trees.{IsTree, IsBelow, map_of}
use Rattle.pat_map.specs.TreeLaws.{Below}
use Rattle.pat_map.specs.MapLaws.{none_below, not_below_none, map_below}
use Rattle.pat_map.proofs.maps.PatMap.leq_with.Goals as goal

pub returns-in-None-default : goal.returns-in-None-default
returns-in-None-default g c =
    let v : finite.empty ≡ c.args.self.now = rw c.in-None-default.is-0 at c.self.view_is in
    (λ t. subst (λ m. IsBelow g.V.Lattice.below m c.args.other.now) v (none_below g.V.Lattice.below c.args.other.now), λ h. refl)

pub returns-in-Some-None : goal.returns-in-Some-None
returns-in-Some-None g c =
    let tree : IsTree c.in-Some-None.field-0-0.value = rw c.in-Some-None.is-0 at c.self.invariant in
    let v : map_of c.in-Some-None.field-0-0.value ≡ c.args.self.now = rw c.in-Some-None.is-0 at c.self.view_is in
    let w : finite.empty ≡ c.args.other.now = rw c.in-Some-None.is-1 at c.other.view_is in (
      λ t. let f : false ≡ true = t in absurd (cc),
      λ h. absurd (not_below_none g.V.Lattice.below c.in-Some-None.field-0-0.value tree (subst (λ m. IsBelow g.V.Lattice.below m finite.empty) (sym v) (subst (IsBelow g.V.Lattice.below c.args.self.now) (sym w) h))),
    )

pub returns-in-Some-Some : goal.returns-in-Some-Some
returns-in-Some-Some g c =
    let tree : IsTree c.in-Some-Some.tree.value = rw c.in-Some-Some.is-0 at c.self.invariant in
    let more : IsTree c.in-Some-Some.more.value = rw c.in-Some-Some.is-1 at c.other.invariant in
    let v : map_of c.in-Some-Some.tree.value ≡ c.args.self.now = rw c.in-Some-Some.is-0 at c.self.view_is in
    let w : map_of c.in-Some-Some.more.value ≡ c.args.other.now = rw c.in-Some-Some.is-1 at c.other.view_is in
    let b : IsTrue c.is_below.result ↔ Below g.V.Lattice.below c.in-Some-Some.tree.value c.in-Some-Some.more.value = rw (c.deref.ensures, c.deref-in-Some-Some.ensures) at c.is_below.ensures in
    let m = map_below g.V.Lattice.below c.in-Some-Some.tree.value c.in-Some-Some.more.value tree more in
    let r : IsTrue c.is_below.result ↔ IsBelow g.V.Lattice.below (map_of c.in-Some-Some.tree.value) (map_of c.in-Some-Some.more.value) = (λ t. m.0 (b.0 t), λ h. b.1 (m.1 h)) in
    subst (λ a. IsTrue c.is_below.result ↔ IsBelow g.V.Lattice.below a c.args.other.now) v (subst (λ a. IsTrue c.is_below.result ↔ IsBelow g.V.Lattice.below (map_of c.in-Some-Some.tree.value) a) w r)
