use Rattle.std.proofs.Common.{◌≡◌, ◌+◌, ◌/◌, ◌%◌, ◌^◌, ◌==◌, ℕ, arith, ◌∙◌, subst, refl, true, false}
use Rattle.std.proofs.lemmas.Grind.{common_steps}
use Rattle.pat_map.specs.Trees.{at, one_of, IsTree, IsBranch}
use Rattle.pat_map.specs.TreeLaws.{Sets, block_of_branch, parts_of, same_halves, sets_linked, put_low, put_high, ok_so}
use Rattle.pat_map.proofs.nodes.+put.Goals as goal

pub link-requires-then-own-block-clause-first : goal.link-requires-then-own-block-clause-first
link-requires-then-own-block-clause-first g t c =
    let n : IsBranch c.in-Branch.bit c.in-Branch.block c.in-Branch.low.value c.in-Branch.high.value c.args.tree.now.value = subst (IsBranch c.in-Branch.bit c.in-Branch.block c.in-Branch.low.value c.in-Branch.high.value) c.deref.ensures (rw c.in-Branch.is (refl, refl, refl, refl)) in
    let e : c.in_ok-clone-in-Branch.field-0.value ≡ c.args.tree.now.value = grind (arith, common_steps) in
    block_of_branch c.in-Branch.bit c.in-Branch.block c.in-Branch.low.value c.in-Branch.high.value c.args.tree.now.value _ n c.requires e

pub returns-then-own-block-clause-sets : goal.returns-then-own-block-clause-sets
returns-then-own-block-clause-sets g t c =
    let n : IsBranch c.in-Branch.bit c.in-Branch.block c.in-Branch.low.value c.in-Branch.high.value c.args.tree.now.value = subst (IsBranch c.in-Branch.bit c.in-Branch.block c.in-Branch.low.value c.in-Branch.high.value) c.deref.ensures (rw c.in-Branch.is (refl, refl, refl, refl)) in
    let e : c.in_ok-clone-in-Branch.field-0.value ≡ c.args.tree.now.value = grind (arith, common_steps) in
    ok_so c.link-then-own-block.result (λ t. (k : ℕ) → at t.value k ≡ one_of (at c.in_ok-clone-in-Branch.field-0.value k) (at c.in_ok-new-in-Branch.new.value k)) (λ t. Sets c.args.key c.args.value c.args.tree.now.value t.value) c.link-then-own-block.ensures.joins
    (λ t j. sets_linked (c.in-Branch.bit + 1) c.in-Branch.block c.args.key c.args.value c.args.tree.now.value c.in_ok-clone-in-Branch.field-0.value c.in_ok-new-in-Branch.new.value t.value e c.in_ok-new-in-Branch.ensures
    (block_of_branch c.in-Branch.bit c.in-Branch.block c.in-Branch.low.value c.in-Branch.high.value c.args.tree.now.value _ n c.requires e)
    (λ s. c.if-own-block.true (c.block_at-own.ensures ∙ s)) j)

pub returns-in_ok-clone-in-Branch-2-clause-tree : goal.returns-in_ok-clone-in-Branch-2-clause-tree
returns-in_ok-clone-in-Branch-2-clause-tree g t c =
    let n : IsBranch c.in-Branch.bit c.in-Branch.block c.in-Branch.low.value c.in-Branch.high.value c.args.tree.now.value = subst (IsBranch c.in-Branch.bit c.in-Branch.block c.in-Branch.low.value c.in-Branch.high.value) c.deref.ensures (rw c.in-Branch.is (refl, refl, refl, refl)) in
    let p = parts_of c.in-Branch.bit c.in-Branch.block c.in-Branch.low.value c.in-Branch.high.value c.args.tree.now.value n c.requires in
    let e : c.in_ok-clone-in-Branch-2.field-0.value ≡ c.in-Branch.high.value = grind (arith, common_steps) in
    let own : c.args.key / 2 ^ (c.in-Branch.bit + 1) ≡ c.in-Branch.block = grind (arith, common_steps) in
    let side : ((c.args.key / 2 ^ c.in-Branch.bit) % 2 == 0) ≡ true = grind (arith, common_steps) in
    ok_so c.branch-half-then-is_low.result (λ t. IsBranch c.in-Branch.bit c.in-Branch.block c.in_ok-half-in-Branch.half.value c.in_ok-clone-in-Branch-2.field-0.value t.value) (λ t. IsTree t.value) c.branch-half-then-is_low.ensures
    (λ t m. (put_low c.in-Branch.bit c.in-Branch.block c.args.key c.args.value c.in-Branch.low.value c.in_ok-half-in-Branch.half.value c.in-Branch.high.value c.args.tree.now.value t.value
    p.0 own side c.in_ok-half-in-Branch.ensures.tree p.2 c.in_ok-half-in-Branch.ensures.sets n
    (same_halves c.in-Branch.bit c.in-Branch.block _ c.in_ok-half-in-Branch.half.value _ c.in_ok-clone-in-Branch-2.field-0.value t.value refl e m)).0)

pub returns-in_ok-clone-in-Branch-3-clause-tree : goal.returns-in_ok-clone-in-Branch-3-clause-tree
returns-in_ok-clone-in-Branch-3-clause-tree g t c =
    let n : IsBranch c.in-Branch.bit c.in-Branch.block c.in-Branch.low.value c.in-Branch.high.value c.args.tree.now.value = subst (IsBranch c.in-Branch.bit c.in-Branch.block c.in-Branch.low.value c.in-Branch.high.value) c.deref.ensures (rw c.in-Branch.is (refl, refl, refl, refl)) in
    let p = parts_of c.in-Branch.bit c.in-Branch.block c.in-Branch.low.value c.in-Branch.high.value c.args.tree.now.value n c.requires in
    let e : c.in_ok-clone-in-Branch-3.field-0.value ≡ c.in-Branch.low.value = grind (arith, common_steps) in
    let own : c.args.key / 2 ^ (c.in-Branch.bit + 1) ≡ c.in-Branch.block = grind (arith, common_steps) in
    let side : ((c.args.key / 2 ^ c.in-Branch.bit) % 2 == 0) ≡ false = grind (arith, common_steps) in
    ok_so c.branch-branch.result (λ t. IsBranch c.in-Branch.bit c.in-Branch.block c.in_ok-clone-in-Branch-3.field-0.value c.in_ok-half-in-Branch-2.half.value t.value) (λ t. IsTree t.value) c.branch-branch.ensures
    (λ t m. (put_high c.in-Branch.bit c.in-Branch.block c.args.key c.args.value c.in-Branch.low.value c.in-Branch.high.value c.in_ok-half-in-Branch-2.half.value c.args.tree.now.value t.value
    p.0 own side p.1 c.in_ok-half-in-Branch-2.ensures.tree c.in_ok-half-in-Branch-2.ensures.sets n
    (same_halves c.in-Branch.bit c.in-Branch.block _ c.in_ok-clone-in-Branch-3.field-0.value _ c.in_ok-half-in-Branch-2.half.value t.value e refl m)).0)
