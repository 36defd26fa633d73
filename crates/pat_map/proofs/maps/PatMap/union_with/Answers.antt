use Rattle.std.proofs.Common.{◌≡◌, ◌∙◌, ap}
use Rattle.std.specs.FinMap as finite
use Rattle.pat_map.specs.Trees.{IsTree, map_of, union}
use Rattle.pat_map.specs.TreeLaws.{Joins, ok_so}
use Rattle.pat_map.specs.MapLaws.{map_union, union_none, none_union}
use Rattle.pat_map.proofs.maps.PatMap.union_with.Goals as goal

pub returns-in_default-None : goal.returns-in_default-None
returns-in_default-None g c =
    let w : finite.empty ≡ c.args.other.now = rw c.in_default-None.is-1 at c.other.view_is in
    ok_so c.share.result (λ m. m ≡ c.args.self.now) (λ m. m ≡ union g.V.Lattice.joined c.args.self.now c.args.other.now) c.share.ensures
    (λ m e. e ∙ union_none g.V.Lattice.joined c.args.self.now ∙ ap (union g.V.Lattice.joined c.args.self.now) w)

pub returns-in-None-default : goal.returns-in-None-default
returns-in-None-default g c =
    let v : finite.empty ≡ c.args.self.now = rw c.in-None-default.is-0 at c.self.view_is in
    ok_so c.share-in-None-default.result (λ m. m ≡ c.args.other.now) (λ m. m ≡ union g.V.Lattice.joined c.args.self.now c.args.other.now) c.share-in-None-default.ensures
    (λ m e. e ∙ none_union g.V.Lattice.joined c.args.other.now ∙ ap (λ a. union g.V.Lattice.joined a c.args.other.now) v)

pub returns-in_ok-join_all-in-Some-Some : goal.returns-in_ok-join_all-in-Some-Some
returns-in_ok-join_all-in-Some-Some g c =
    let tree : IsTree c.in-Some-Some.tree.value = rw c.in-Some-Some.is-0 at c.self.invariant in
    let more : IsTree c.in-Some-Some.more.value = rw c.in-Some-Some.is-1 at c.other.invariant in
    let v : map_of c.in-Some-Some.tree.value ≡ c.args.self.now = rw c.in-Some-Some.is-0 at c.self.view_is in
    let w : map_of c.in-Some-Some.more.value ≡ c.args.other.now = rw c.in-Some-Some.is-1 at c.other.view_is in
    let j : Joins g.V.Lattice.joined c.in-Some-Some.tree.value c.in-Some-Some.more.value c.in_ok-join_all-in-Some-Some.field-0.value = c.in_ok-join_all-in-Some-Some.ensures.joins in
    map_union g.V.Lattice.joined c.in-Some-Some.tree.value c.in-Some-Some.more.value c.in_ok-join_all-in-Some-Some.field-0.value tree more c.in_ok-join_all-in-Some-Some.ensures.tree j
    ∙ ap (λ a. union g.V.Lattice.joined a (map_of c.in-Some-Some.more.value)) v
    ∙ ap (union g.V.Lattice.joined c.args.self.now) w
