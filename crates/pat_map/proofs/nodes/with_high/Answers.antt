use Rattle.std.proofs.Common.{◌≡◌, arith, refl, subst}
use Rattle.std.proofs.lemmas.Grind.{common_steps}
use Rattle.pat_map.specs.Trees.{IsBranch}
use Rattle.pat_map.specs.TreeLaws.{with_high, ok_so}
use Rattle.pat_map.proofs.nodes.with_high.Goals as goal

pub returns-in_ok-clone-in-Branch : goal.returns-in_ok-clone-in-Branch
returns-in_ok-clone-in-Branch g c = λ bit block low high is.
    let own : IsBranch c.in-Branch.bit c.in-Branch.block c.in-Branch.low.value c.in-Branch.high.value c.args.tree.now.value = subst (IsBranch c.in-Branch.bit c.in-Branch.block c.in-Branch.low.value c.in-Branch.high.value) c.deref.ensures (rw c.in-Branch.is (refl, refl, refl, refl)) in
    let e : c.in_ok-clone-in-Branch.field-0.value ≡ c.in-Branch.low.value = grind (arith, common_steps) in
    ok_so c.branch-branch.result (λ t. IsBranch c.in-Branch.bit c.in-Branch.block c.in_ok-clone-in-Branch.field-0.value c.args.half.value t.value) (λ t. IsBranch bit block low c.args.half.value t.value) c.branch-branch.ensures
    (λ t m. with_high c.in-Branch.bit c.in-Branch.block bit block c.in-Branch.low.value c.in-Branch.high.value low high c.args.half.value c.args.tree.now.value t.value own is (subst (λ x. IsBranch c.in-Branch.bit c.in-Branch.block x c.args.half.value t.value) e m))
