use Rattle.std.proofs.Common.{◌≡◌, ◌+◌, ◌*◌, ℕ, arith, subst, refl}
use Rattle.std.proofs.lemmas.Grind.{common_steps}
use Rattle.pat_map.specs.Trees.{at, one_of, Inside, IsTree, IsBranch}
use Rattle.pat_map.specs.TreeLaws.{Joins, block_of_branch, parts_of, ok_so}
use Rattle.pat_map.specs.UnionLaws.{lies_fits, inside_in, joins_low, joins_high, joins_under_low, joins_under_high, joins_apart}
use Rattle.pat_map.proofs.nodes.+join_all.Goals as goal

pub returns-in_ok-join_all-in-Low-clause-tree : goal.returns-in_ok-join_all-in-Low-clause-tree
returns-in_ok-join_all-in-Low-clause-tree g t c =
    let et : IsBranch c.in-Branch-deref.bit c.in-Branch-deref.block c.in-Branch-deref.low.value c.in-Branch-deref.high.value c.args.tree.now.value = subst (IsBranch c.in-Branch-deref.bit c.in-Branch-deref.block c.in-Branch-deref.low.value c.in-Branch-deref.high.value) c.deref-in-Branch.ensures (rw c.in-Branch-deref.is (refl, refl, refl, refl)) in
    let eo : IsBranch c.in-Branch.other_bit c.in-Branch.other_block c.in-Branch.other_low.value c.in-Branch.other_high.value c.args.other.now.value = subst (IsBranch c.in-Branch.other_bit c.in-Branch.other_block c.in-Branch.other_low.value c.in-Branch.other_high.value) c.deref.ensures (rw c.in-Branch.is (refl, refl, refl, refl)) in
    let ix : Inside c.in-Branch-deref.bit (2 * c.in-Branch-deref.block) c.args.other.now.value = inside_in c.in-Branch-deref.bit (2 * c.in-Branch-deref.block) (c.in-Branch.other_bit + 1) c.in-Branch.other_block c.args.other.now.value c.in-Low.ensures (block_of_branch c.in-Branch.other_bit c.in-Branch.other_block c.in-Branch.other_low.value c.in-Branch.other_high.value c.args.other.now.value c.args.other.now.value eo c.requires.other refl) in
    ok_so c.with_low.result (λ t. IsBranch c.in-Branch-deref.bit c.in-Branch-deref.block c.in_ok-join_all-in-Low.field-0.value c.in-Branch-deref.high.value t.value) (λ t. IsTree t.value) (c.with_low.ensures c.in-Branch-deref.bit c.in-Branch-deref.block c.in-Branch-deref.low.value c.in-Branch-deref.high.value et)
    (λ t m. (joins_low g.V.Lattice.joined c.in-Branch-deref.bit c.in-Branch-deref.block c.in-Branch-deref.low.value c.in-Branch-deref.high.value c.in_ok-join_all-in-Low.field-0.value c.args.tree.now.value c.args.other.now.value t.value et m c.requires.tree ix c.in_ok-join_all-in-Low.ensures.tree c.in_ok-join_all-in-Low.ensures.joins).0)

pub returns-in_ok-join_all-in-Low-clause-joins : goal.returns-in_ok-join_all-in-Low-clause-joins
returns-in_ok-join_all-in-Low-clause-joins g t c =
    let et : IsBranch c.in-Branch-deref.bit c.in-Branch-deref.block c.in-Branch-deref.low.value c.in-Branch-deref.high.value c.args.tree.now.value = subst (IsBranch c.in-Branch-deref.bit c.in-Branch-deref.block c.in-Branch-deref.low.value c.in-Branch-deref.high.value) c.deref-in-Branch.ensures (rw c.in-Branch-deref.is (refl, refl, refl, refl)) in
    let eo : IsBranch c.in-Branch.other_bit c.in-Branch.other_block c.in-Branch.other_low.value c.in-Branch.other_high.value c.args.other.now.value = subst (IsBranch c.in-Branch.other_bit c.in-Branch.other_block c.in-Branch.other_low.value c.in-Branch.other_high.value) c.deref.ensures (rw c.in-Branch.is (refl, refl, refl, refl)) in
    let ix : Inside c.in-Branch-deref.bit (2 * c.in-Branch-deref.block) c.args.other.now.value = inside_in c.in-Branch-deref.bit (2 * c.in-Branch-deref.block) (c.in-Branch.other_bit + 1) c.in-Branch.other_block c.args.other.now.value c.in-Low.ensures (block_of_branch c.in-Branch.other_bit c.in-Branch.other_block c.in-Branch.other_low.value c.in-Branch.other_high.value c.args.other.now.value c.args.other.now.value eo c.requires.other refl) in
    ok_so c.with_low.result (λ t. IsBranch c.in-Branch-deref.bit c.in-Branch-deref.block c.in_ok-join_all-in-Low.field-0.value c.in-Branch-deref.high.value t.value) (λ t. Joins g.V.Lattice.joined c.args.tree.now.value c.args.other.now.value t.value) (c.with_low.ensures c.in-Branch-deref.bit c.in-Branch-deref.block c.in-Branch-deref.low.value c.in-Branch-deref.high.value et)
    (λ t m. (joins_low g.V.Lattice.joined c.in-Branch-deref.bit c.in-Branch-deref.block c.in-Branch-deref.low.value c.in-Branch-deref.high.value c.in_ok-join_all-in-Low.field-0.value c.args.tree.now.value c.args.other.now.value t.value et m c.requires.tree ix c.in_ok-join_all-in-Low.ensures.tree c.in_ok-join_all-in-Low.ensures.joins).1)

pub returns-in_ok-join_all-in-High-clause-tree : goal.returns-in_ok-join_all-in-High-clause-tree
returns-in_ok-join_all-in-High-clause-tree g t c =
    let et : IsBranch c.in-Branch-deref.bit c.in-Branch-deref.block c.in-Branch-deref.low.value c.in-Branch-deref.high.value c.args.tree.now.value = subst (IsBranch c.in-Branch-deref.bit c.in-Branch-deref.block c.in-Branch-deref.low.value c.in-Branch-deref.high.value) c.deref-in-Branch.ensures (rw c.in-Branch-deref.is (refl, refl, refl, refl)) in
    let eo : IsBranch c.in-Branch.other_bit c.in-Branch.other_block c.in-Branch.other_low.value c.in-Branch.other_high.value c.args.other.now.value = subst (IsBranch c.in-Branch.other_bit c.in-Branch.other_block c.in-Branch.other_low.value c.in-Branch.other_high.value) c.deref.ensures (rw c.in-Branch.is (refl, refl, refl, refl)) in
    let ix : Inside c.in-Branch-deref.bit (2 * c.in-Branch-deref.block + 1) c.args.other.now.value = inside_in c.in-Branch-deref.bit (2 * c.in-Branch-deref.block + 1) (c.in-Branch.other_bit + 1) c.in-Branch.other_block c.args.other.now.value c.in-High.ensures (block_of_branch c.in-Branch.other_bit c.in-Branch.other_block c.in-Branch.other_low.value c.in-Branch.other_high.value c.args.other.now.value c.args.other.now.value eo c.requires.other refl) in
    ok_so c.with_high.result (λ t. IsBranch c.in-Branch-deref.bit c.in-Branch-deref.block c.in-Branch-deref.low.value c.in_ok-join_all-in-High.field-0.value t.value) (λ t. IsTree t.value) (c.with_high.ensures c.in-Branch-deref.bit c.in-Branch-deref.block c.in-Branch-deref.low.value c.in-Branch-deref.high.value et)
    (λ t m. (joins_high g.V.Lattice.joined c.in-Branch-deref.bit c.in-Branch-deref.block c.in-Branch-deref.low.value c.in-Branch-deref.high.value c.in_ok-join_all-in-High.field-0.value c.args.tree.now.value c.args.other.now.value t.value et m c.requires.tree ix c.in_ok-join_all-in-High.ensures.tree c.in_ok-join_all-in-High.ensures.joins).0)

pub returns-in_ok-join_all-in-High-clause-joins : goal.returns-in_ok-join_all-in-High-clause-joins
returns-in_ok-join_all-in-High-clause-joins g t c =
    let et : IsBranch c.in-Branch-deref.bit c.in-Branch-deref.block c.in-Branch-deref.low.value c.in-Branch-deref.high.value c.args.tree.now.value = subst (IsBranch c.in-Branch-deref.bit c.in-Branch-deref.block c.in-Branch-deref.low.value c.in-Branch-deref.high.value) c.deref-in-Branch.ensures (rw c.in-Branch-deref.is (refl, refl, refl, refl)) in
    let eo : IsBranch c.in-Branch.other_bit c.in-Branch.other_block c.in-Branch.other_low.value c.in-Branch.other_high.value c.args.other.now.value = subst (IsBranch c.in-Branch.other_bit c.in-Branch.other_block c.in-Branch.other_low.value c.in-Branch.other_high.value) c.deref.ensures (rw c.in-Branch.is (refl, refl, refl, refl)) in
    let ix : Inside c.in-Branch-deref.bit (2 * c.in-Branch-deref.block + 1) c.args.other.now.value = inside_in c.in-Branch-deref.bit (2 * c.in-Branch-deref.block + 1) (c.in-Branch.other_bit + 1) c.in-Branch.other_block c.args.other.now.value c.in-High.ensures (block_of_branch c.in-Branch.other_bit c.in-Branch.other_block c.in-Branch.other_low.value c.in-Branch.other_high.value c.args.other.now.value c.args.other.now.value eo c.requires.other refl) in
    ok_so c.with_high.result (λ t. IsBranch c.in-Branch-deref.bit c.in-Branch-deref.block c.in-Branch-deref.low.value c.in_ok-join_all-in-High.field-0.value t.value) (λ t. Joins g.V.Lattice.joined c.args.tree.now.value c.args.other.now.value t.value) (c.with_high.ensures c.in-Branch-deref.bit c.in-Branch-deref.block c.in-Branch-deref.low.value c.in-Branch-deref.high.value et)
    (λ t m. (joins_high g.V.Lattice.joined c.in-Branch-deref.bit c.in-Branch-deref.block c.in-Branch-deref.low.value c.in-Branch-deref.high.value c.in_ok-join_all-in-High.field-0.value c.args.tree.now.value c.args.other.now.value t.value et m c.requires.tree ix c.in_ok-join_all-in-High.ensures.tree c.in_ok-join_all-in-High.ensures.joins).1)

pub returns-in_ok-join_all-in-UnderLow-clause-tree : goal.returns-in_ok-join_all-in-UnderLow-clause-tree
returns-in_ok-join_all-in-UnderLow-clause-tree g t c =
    let et : IsBranch c.in-Branch-deref.bit c.in-Branch-deref.block c.in-Branch-deref.low.value c.in-Branch-deref.high.value c.args.tree.now.value = subst (IsBranch c.in-Branch-deref.bit c.in-Branch-deref.block c.in-Branch-deref.low.value c.in-Branch-deref.high.value) c.deref-in-Branch.ensures (rw c.in-Branch-deref.is (refl, refl, refl, refl)) in
    let eo : IsBranch c.in-Branch.other_bit c.in-Branch.other_block c.in-Branch.other_low.value c.in-Branch.other_high.value c.args.other.now.value = subst (IsBranch c.in-Branch.other_bit c.in-Branch.other_block c.in-Branch.other_low.value c.in-Branch.other_high.value) c.deref.ensures (rw c.in-Branch.is (refl, refl, refl, refl)) in
    let ix : Inside c.in-Branch.other_bit (2 * c.in-Branch.other_block) c.args.tree.now.value = inside_in c.in-Branch.other_bit (2 * c.in-Branch.other_block) (c.in-Branch-deref.bit + 1) c.in-Branch-deref.block c.args.tree.now.value c.in-UnderLow.ensures (block_of_branch c.in-Branch-deref.bit c.in-Branch-deref.block c.in-Branch-deref.low.value c.in-Branch-deref.high.value c.args.tree.now.value c.args.tree.now.value et c.requires.tree refl) in
    ok_so c.with_low-in-UnderLow.result (λ t. IsBranch c.in-Branch.other_bit c.in-Branch.other_block c.in_ok-join_all-in-UnderLow.field-0.value c.in-Branch.other_high.value t.value) (λ t. IsTree t.value) (c.with_low-in-UnderLow.ensures c.in-Branch.other_bit c.in-Branch.other_block c.in-Branch.other_low.value c.in-Branch.other_high.value eo)
    (λ t m. (joins_under_low g.V.Lattice.joined c.in-Branch.other_bit c.in-Branch.other_block c.in-Branch.other_low.value c.in-Branch.other_high.value c.in_ok-join_all-in-UnderLow.field-0.value c.args.tree.now.value c.args.other.now.value t.value eo m c.requires.other ix c.in_ok-join_all-in-UnderLow.ensures.tree c.in_ok-join_all-in-UnderLow.ensures.joins).0)

pub returns-in_ok-join_all-in-UnderLow-clause-joins : goal.returns-in_ok-join_all-in-UnderLow-clause-joins
returns-in_ok-join_all-in-UnderLow-clause-joins g t c =
    let et : IsBranch c.in-Branch-deref.bit c.in-Branch-deref.block c.in-Branch-deref.low.value c.in-Branch-deref.high.value c.args.tree.now.value = subst (IsBranch c.in-Branch-deref.bit c.in-Branch-deref.block c.in-Branch-deref.low.value c.in-Branch-deref.high.value) c.deref-in-Branch.ensures (rw c.in-Branch-deref.is (refl, refl, refl, refl)) in
    let eo : IsBranch c.in-Branch.other_bit c.in-Branch.other_block c.in-Branch.other_low.value c.in-Branch.other_high.value c.args.other.now.value = subst (IsBranch c.in-Branch.other_bit c.in-Branch.other_block c.in-Branch.other_low.value c.in-Branch.other_high.value) c.deref.ensures (rw c.in-Branch.is (refl, refl, refl, refl)) in
    let ix : Inside c.in-Branch.other_bit (2 * c.in-Branch.other_block) c.args.tree.now.value = inside_in c.in-Branch.other_bit (2 * c.in-Branch.other_block) (c.in-Branch-deref.bit + 1) c.in-Branch-deref.block c.args.tree.now.value c.in-UnderLow.ensures (block_of_branch c.in-Branch-deref.bit c.in-Branch-deref.block c.in-Branch-deref.low.value c.in-Branch-deref.high.value c.args.tree.now.value c.args.tree.now.value et c.requires.tree refl) in
    ok_so c.with_low-in-UnderLow.result (λ t. IsBranch c.in-Branch.other_bit c.in-Branch.other_block c.in_ok-join_all-in-UnderLow.field-0.value c.in-Branch.other_high.value t.value) (λ t. Joins g.V.Lattice.joined c.args.tree.now.value c.args.other.now.value t.value) (c.with_low-in-UnderLow.ensures c.in-Branch.other_bit c.in-Branch.other_block c.in-Branch.other_low.value c.in-Branch.other_high.value eo)
    (λ t m. (joins_under_low g.V.Lattice.joined c.in-Branch.other_bit c.in-Branch.other_block c.in-Branch.other_low.value c.in-Branch.other_high.value c.in_ok-join_all-in-UnderLow.field-0.value c.args.tree.now.value c.args.other.now.value t.value eo m c.requires.other ix c.in_ok-join_all-in-UnderLow.ensures.tree c.in_ok-join_all-in-UnderLow.ensures.joins).1)

pub returns-in_ok-join_all-in-UnderHigh-clause-tree : goal.returns-in_ok-join_all-in-UnderHigh-clause-tree
returns-in_ok-join_all-in-UnderHigh-clause-tree g t c =
    let et : IsBranch c.in-Branch-deref.bit c.in-Branch-deref.block c.in-Branch-deref.low.value c.in-Branch-deref.high.value c.args.tree.now.value = subst (IsBranch c.in-Branch-deref.bit c.in-Branch-deref.block c.in-Branch-deref.low.value c.in-Branch-deref.high.value) c.deref-in-Branch.ensures (rw c.in-Branch-deref.is (refl, refl, refl, refl)) in
    let eo : IsBranch c.in-Branch.other_bit c.in-Branch.other_block c.in-Branch.other_low.value c.in-Branch.other_high.value c.args.other.now.value = subst (IsBranch c.in-Branch.other_bit c.in-Branch.other_block c.in-Branch.other_low.value c.in-Branch.other_high.value) c.deref.ensures (rw c.in-Branch.is (refl, refl, refl, refl)) in
    let ix : Inside c.in-Branch.other_bit (2 * c.in-Branch.other_block + 1) c.args.tree.now.value = inside_in c.in-Branch.other_bit (2 * c.in-Branch.other_block + 1) (c.in-Branch-deref.bit + 1) c.in-Branch-deref.block c.args.tree.now.value c.in-UnderHigh.ensures (block_of_branch c.in-Branch-deref.bit c.in-Branch-deref.block c.in-Branch-deref.low.value c.in-Branch-deref.high.value c.args.tree.now.value c.args.tree.now.value et c.requires.tree refl) in
    ok_so c.with_high-in-UnderHigh.result (λ t. IsBranch c.in-Branch.other_bit c.in-Branch.other_block c.in-Branch.other_low.value c.in_ok-join_all-in-UnderHigh.field-0.value t.value) (λ t. IsTree t.value) (c.with_high-in-UnderHigh.ensures c.in-Branch.other_bit c.in-Branch.other_block c.in-Branch.other_low.value c.in-Branch.other_high.value eo)
    (λ t m. (joins_under_high g.V.Lattice.joined c.in-Branch.other_bit c.in-Branch.other_block c.in-Branch.other_low.value c.in-Branch.other_high.value c.in_ok-join_all-in-UnderHigh.field-0.value c.args.tree.now.value c.args.other.now.value t.value eo m c.requires.other ix c.in_ok-join_all-in-UnderHigh.ensures.tree c.in_ok-join_all-in-UnderHigh.ensures.joins).0)

pub returns-in_ok-join_all-in-UnderHigh-clause-joins : goal.returns-in_ok-join_all-in-UnderHigh-clause-joins
returns-in_ok-join_all-in-UnderHigh-clause-joins g t c =
    let et : IsBranch c.in-Branch-deref.bit c.in-Branch-deref.block c.in-Branch-deref.low.value c.in-Branch-deref.high.value c.args.tree.now.value = subst (IsBranch c.in-Branch-deref.bit c.in-Branch-deref.block c.in-Branch-deref.low.value c.in-Branch-deref.high.value) c.deref-in-Branch.ensures (rw c.in-Branch-deref.is (refl, refl, refl, refl)) in
    let eo : IsBranch c.in-Branch.other_bit c.in-Branch.other_block c.in-Branch.other_low.value c.in-Branch.other_high.value c.args.other.now.value = subst (IsBranch c.in-Branch.other_bit c.in-Branch.other_block c.in-Branch.other_low.value c.in-Branch.other_high.value) c.deref.ensures (rw c.in-Branch.is (refl, refl, refl, refl)) in
    let ix : Inside c.in-Branch.other_bit (2 * c.in-Branch.other_block + 1) c.args.tree.now.value = inside_in c.in-Branch.other_bit (2 * c.in-Branch.other_block + 1) (c.in-Branch-deref.bit + 1) c.in-Branch-deref.block c.args.tree.now.value c.in-UnderHigh.ensures (block_of_branch c.in-Branch-deref.bit c.in-Branch-deref.block c.in-Branch-deref.low.value c.in-Branch-deref.high.value c.args.tree.now.value c.args.tree.now.value et c.requires.tree refl) in
    ok_so c.with_high-in-UnderHigh.result (λ t. IsBranch c.in-Branch.other_bit c.in-Branch.other_block c.in-Branch.other_low.value c.in_ok-join_all-in-UnderHigh.field-0.value t.value) (λ t. Joins g.V.Lattice.joined c.args.tree.now.value c.args.other.now.value t.value) (c.with_high-in-UnderHigh.ensures c.in-Branch.other_bit c.in-Branch.other_block c.in-Branch.other_low.value c.in-Branch.other_high.value eo)
    (λ t m. (joins_under_high g.V.Lattice.joined c.in-Branch.other_bit c.in-Branch.other_block c.in-Branch.other_low.value c.in-Branch.other_high.value c.in_ok-join_all-in-UnderHigh.field-0.value c.args.tree.now.value c.args.other.now.value t.value eo m c.requires.other ix c.in_ok-join_all-in-UnderHigh.ensures.tree c.in_ok-join_all-in-UnderHigh.ensures.joins).1)

pub link-requires-clause-a_fits : goal.link-requires-clause-a_fits
link-requires-clause-a_fits g t c =
    let et : IsBranch c.in-Branch-deref.bit c.in-Branch-deref.block c.in-Branch-deref.low.value c.in-Branch-deref.high.value c.args.tree.now.value = subst (IsBranch c.in-Branch-deref.bit c.in-Branch-deref.block c.in-Branch-deref.low.value c.in-Branch-deref.high.value) c.deref-in-Branch.ensures (rw c.in-Branch-deref.is (refl, refl, refl, refl)) in
    lies_fits c.in-Apart.size c.in-Apart.own (c.in-Branch-deref.bit + 1) c.in-Branch-deref.block c.in-Apart.ensures.2 (parts_of c.in-Branch-deref.bit c.in-Branch-deref.block c.in-Branch-deref.low.value c.in-Branch-deref.high.value c.args.tree.now.value et c.requires.tree).0.fits

pub link-requires-clause-b_fits : goal.link-requires-clause-b_fits
link-requires-clause-b_fits g t c =
    let eo : IsBranch c.in-Branch.other_bit c.in-Branch.other_block c.in-Branch.other_low.value c.in-Branch.other_high.value c.args.other.now.value = subst (IsBranch c.in-Branch.other_bit c.in-Branch.other_block c.in-Branch.other_low.value c.in-Branch.other_high.value) c.deref.ensures (rw c.in-Branch.is (refl, refl, refl, refl)) in
    lies_fits c.in-Apart.size c.in-Apart.theirs (c.in-Branch.other_bit + 1) c.in-Branch.other_block c.in-Apart.ensures.3 (parts_of c.in-Branch.other_bit c.in-Branch.other_block c.in-Branch.other_low.value c.in-Branch.other_high.value c.args.other.now.value eo c.requires.other).0.fits

pub link-requires-clause-first : goal.link-requires-clause-first
link-requires-clause-first g t c =
    let et : IsBranch c.in-Branch-deref.bit c.in-Branch-deref.block c.in-Branch-deref.low.value c.in-Branch-deref.high.value c.args.tree.now.value = subst (IsBranch c.in-Branch-deref.bit c.in-Branch-deref.block c.in-Branch-deref.low.value c.in-Branch-deref.high.value) c.deref-in-Branch.ensures (rw c.in-Branch-deref.is (refl, refl, refl, refl)) in
    let e : c.in_ok-clone-in-Apart.field-0.value ≡ c.args.tree.now.value = grind (arith, common_steps) in
    inside_in c.in-Apart.size c.in-Apart.own (c.in-Branch-deref.bit + 1) c.in-Branch-deref.block c.in_ok-clone-in-Apart.field-0.value c.in-Apart.ensures.2 (block_of_branch c.in-Branch-deref.bit c.in-Branch-deref.block c.in-Branch-deref.low.value c.in-Branch-deref.high.value c.args.tree.now.value c.in_ok-clone-in-Apart.field-0.value et c.requires.tree e)

pub link-requires-clause-second : goal.link-requires-clause-second
link-requires-clause-second g t c =
    let eo : IsBranch c.in-Branch.other_bit c.in-Branch.other_block c.in-Branch.other_low.value c.in-Branch.other_high.value c.args.other.now.value = subst (IsBranch c.in-Branch.other_bit c.in-Branch.other_block c.in-Branch.other_low.value c.in-Branch.other_high.value) c.deref.ensures (rw c.in-Branch.is (refl, refl, refl, refl)) in
    let i : c.in_ok-clone-in-Apart-2.field-0.value ≡ c.args.other.now.value = grind (arith, common_steps) in
    inside_in c.in-Apart.size c.in-Apart.theirs (c.in-Branch.other_bit + 1) c.in-Branch.other_block c.in_ok-clone-in-Apart-2.field-0.value c.in-Apart.ensures.3 (block_of_branch c.in-Branch.other_bit c.in-Branch.other_block c.in-Branch.other_low.value c.in-Branch.other_high.value c.args.other.now.value c.in_ok-clone-in-Apart-2.field-0.value eo c.requires.other i)

pub returns-in_ok-clone-in-Apart-2-clause-joins : goal.returns-in_ok-clone-in-Apart-2-clause-joins
returns-in_ok-clone-in-Apart-2-clause-joins g t c =
    let et : IsBranch c.in-Branch-deref.bit c.in-Branch-deref.block c.in-Branch-deref.low.value c.in-Branch-deref.high.value c.args.tree.now.value = subst (IsBranch c.in-Branch-deref.bit c.in-Branch-deref.block c.in-Branch-deref.low.value c.in-Branch-deref.high.value) c.deref-in-Branch.ensures (rw c.in-Branch-deref.is (refl, refl, refl, refl)) in
    let eo : IsBranch c.in-Branch.other_bit c.in-Branch.other_block c.in-Branch.other_low.value c.in-Branch.other_high.value c.args.other.now.value = subst (IsBranch c.in-Branch.other_bit c.in-Branch.other_block c.in-Branch.other_low.value c.in-Branch.other_high.value) c.deref.ensures (rw c.in-Branch.is (refl, refl, refl, refl)) in
    let e : c.in_ok-clone-in-Apart.field-0.value ≡ c.args.tree.now.value = grind (arith, common_steps) in
    let i : c.in_ok-clone-in-Apart-2.field-0.value ≡ c.args.other.now.value = grind (arith, common_steps) in
    ok_so c.link.result (λ t. (k : ℕ) → at t.value k ≡ one_of (at c.in_ok-clone-in-Apart.field-0.value k) (at c.in_ok-clone-in-Apart-2.field-0.value k)) (λ t. Joins g.V.Lattice.joined c.args.tree.now.value c.args.other.now.value t.value) c.link.ensures.joins
    (λ t h. subst (λ x. Joins g.V.Lattice.joined x c.args.other.now.value t.value) e (subst (λ y. Joins g.V.Lattice.joined c.in_ok-clone-in-Apart.field-0.value y t.value) i
    (joins_apart g.V.Lattice.joined c.in-Apart.size c.in-Apart.own c.in-Apart.theirs c.in_ok-clone-in-Apart.field-0.value c.in_ok-clone-in-Apart-2.field-0.value t.value (inside_in c.in-Apart.size c.in-Apart.own (c.in-Branch-deref.bit + 1) c.in-Branch-deref.block c.in_ok-clone-in-Apart.field-0.value c.in-Apart.ensures.2 (block_of_branch c.in-Branch-deref.bit c.in-Branch-deref.block c.in-Branch-deref.low.value c.in-Branch-deref.high.value c.args.tree.now.value c.in_ok-clone-in-Apart.field-0.value et c.requires.tree e)) (inside_in c.in-Apart.size c.in-Apart.theirs (c.in-Branch.other_bit + 1) c.in-Branch.other_block c.in_ok-clone-in-Apart-2.field-0.value c.in-Apart.ensures.3 (block_of_branch c.in-Branch.other_bit c.in-Branch.other_block c.in-Branch.other_low.value c.in-Branch.other_high.value c.args.other.now.value c.in_ok-clone-in-Apart-2.field-0.value eo c.requires.other i)) c.in-Apart.ensures.1 h)))
