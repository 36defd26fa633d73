use Rattle.std.proofs.Common.{◌≡◌, arith}
use Rattle.std.proofs.lemmas.Grind.{common_steps}
use Rattle.std.specs.FinMap as finite
use Rattle.lattice_core.specs.Laws.{IsUpper, IsWidened}
use Rattle.pat_map.specs.Trees.{IsTree, IsBelow, map_of, union}
use Rattle.pat_map.specs.TreeLaws.{Joins, ok_so}
use Rattle.pat_map.specs.Pours.{Made, WidensTo}
use Rattle.pat_map.specs.MapOrder.{map_rank, HasWords, IsMerge, merge_none, none_merge, trees_merge, root_words, merge_upper, merge_over, merge_falls}
use Rattle.pat_map.proofs.maps.PatMap.join_with.Goals as goal

pub returns-in_default-None-clause-is : goal.returns-in_default-None-clause-is
returns-in_default-None-clause-is g c =
    let w : finite.empty ≡ c.args.newer.now = rw c.in_default-None.is-1 at c.newer.view_is in
    ok_so c.share.result (λ m. m ≡ c.args.self.now) (λ m. m ≡ union g.V.Lattice.joined c.args.self.now c.args.newer.now) c.share.ensures
    (λ m e. (merge_none (IsUpper g.V.Lattice.below) g.V.Lattice.joined c.args.self.now c.args.newer.now m w e).is)

pub returns-in-None-default-clause-is : goal.returns-in-None-default-clause-is
returns-in-None-default-clause-is g c =
    let v : finite.empty ≡ c.args.self.now = rw c.in-None-default.is-0 at c.self.view_is in
    ok_so c.share-in-None-default.result (λ m. m ≡ c.args.newer.now) (λ m. m ≡ union g.V.Lattice.joined c.args.self.now c.args.newer.now) c.share-in-None-default.ensures
    (λ m e. (none_merge (IsUpper g.V.Lattice.below) g.V.Lattice.joined c.args.self.now c.args.newer.now m v e).is)

pub returns-in_ok-pour_joins-in-Some-Some-clause-is : goal.returns-in_ok-pour_joins-in-Some-Some-clause-is
returns-in_ok-pour_joins-in-Some-Some-clause-is g c =
    let tree : IsTree c.in-Some-Some.tree.value = rw c.in-Some-Some.is-0 at c.self.invariant in
    let more : IsTree c.in-Some-Some.more.value = rw c.in-Some-Some.is-1 at c.newer.invariant in
    let v : map_of c.in-Some-Some.tree.value ≡ c.args.self.now = rw c.in-Some-Some.is-0 at c.self.view_is in
    let w : map_of c.in-Some-Some.more.value ≡ c.args.newer.now = rw c.in-Some-Some.is-1 at c.newer.view_is in
    let e : c.in_ok-clone-in-Some-Some.field-0.value ≡ c.in-Some-Some.tree.value = grind (arith, common_steps) in
    let joins : Joins g.V.Lattice.joined c.in-Some-Some.tree.value c.in-Some-Some.more.value c.in_ok-pour_joins-in-Some-Some.field-0.value = rw (e, c.deref.ensures) at c.in_ok-pour_joins-in-Some-Some.ensures.joins in
    let made : Made (IsUpper g.V.Lattice.below) g.V.Lattice.joined c.in-Some-Some.tree.value c.in-Some-Some.more.value = rw (e, c.deref.ensures) at c.in_ok-pour_joins-in-Some-Some.ensures.made in
    (trees_merge (IsUpper g.V.Lattice.below) g.V.Lattice.joined c.args.self.now c.args.newer.now c.in-Some-Some.tree.value c.in-Some-Some.more.value c.in_ok-pour_joins-in-Some-Some.field-0.value v w tree more c.in_ok-pour_joins-in-Some-Some.ensures.tree joins made).is

pub returns-in_default-None-clause-over : goal.returns-in_default-None-clause-over
returns-in_default-None-clause-over g c =
    let w : finite.empty ≡ c.args.newer.now = rw c.in_default-None.is-1 at c.newer.view_is in
    ok_so c.share.result (λ m. m ≡ c.args.self.now) (IsUpper (IsBelow g.V.Lattice.below) c.args.self.now c.args.newer.now) c.share.ensures
    (λ m e. merge_upper g.V.Lattice.below g.met.V.Lattice.reflexive g.V.Lattice.joined c.args.self.now c.args.newer.now m (merge_none (IsUpper g.V.Lattice.below) g.V.Lattice.joined c.args.self.now c.args.newer.now m w e))

pub returns-in-None-default-clause-over : goal.returns-in-None-default-clause-over
returns-in-None-default-clause-over g c =
    let v : finite.empty ≡ c.args.self.now = rw c.in-None-default.is-0 at c.self.view_is in
    ok_so c.share-in-None-default.result (λ m. m ≡ c.args.newer.now) (IsUpper (IsBelow g.V.Lattice.below) c.args.self.now c.args.newer.now) c.share-in-None-default.ensures
    (λ m e. merge_upper g.V.Lattice.below g.met.V.Lattice.reflexive g.V.Lattice.joined c.args.self.now c.args.newer.now m (none_merge (IsUpper g.V.Lattice.below) g.V.Lattice.joined c.args.self.now c.args.newer.now m v e))

pub returns-in_ok-pour_joins-in-Some-Some-clause-over : goal.returns-in_ok-pour_joins-in-Some-Some-clause-over
returns-in_ok-pour_joins-in-Some-Some-clause-over g c =
    let tree : IsTree c.in-Some-Some.tree.value = rw c.in-Some-Some.is-0 at c.self.invariant in
    let more : IsTree c.in-Some-Some.more.value = rw c.in-Some-Some.is-1 at c.newer.invariant in
    let v : map_of c.in-Some-Some.tree.value ≡ c.args.self.now = rw c.in-Some-Some.is-0 at c.self.view_is in
    let w : map_of c.in-Some-Some.more.value ≡ c.args.newer.now = rw c.in-Some-Some.is-1 at c.newer.view_is in
    let e : c.in_ok-clone-in-Some-Some.field-0.value ≡ c.in-Some-Some.tree.value = grind (arith, common_steps) in
    let joins : Joins g.V.Lattice.joined c.in-Some-Some.tree.value c.in-Some-Some.more.value c.in_ok-pour_joins-in-Some-Some.field-0.value = rw (e, c.deref.ensures) at c.in_ok-pour_joins-in-Some-Some.ensures.joins in
    let made : Made (IsUpper g.V.Lattice.below) g.V.Lattice.joined c.in-Some-Some.tree.value c.in-Some-Some.more.value = rw (e, c.deref.ensures) at c.in_ok-pour_joins-in-Some-Some.ensures.made in
    merge_upper g.V.Lattice.below g.met.V.Lattice.reflexive g.V.Lattice.joined c.args.self.now c.args.newer.now (map_of c.in_ok-pour_joins-in-Some-Some.field-0.value) (trees_merge (IsUpper g.V.Lattice.below) g.V.Lattice.joined c.args.self.now c.args.newer.now c.in-Some-Some.tree.value c.in-Some-Some.more.value c.in_ok-pour_joins-in-Some-Some.field-0.value v w tree more c.in_ok-pour_joins-in-Some-Some.ensures.tree joins made)
