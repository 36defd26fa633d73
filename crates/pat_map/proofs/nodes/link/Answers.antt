use Rattle.std.proofs.Common.{◌≡◌, ◌<◌, ◌/◌, arith, rules, sym, subst}
use Rattle.pat_map.specs.Trees.{IsTree, IsBranch}
use Rattle.pat_map.specs.TreeLaws.{fork_below, wider, inside_half, link_tree, ok_so}
use Rattle.pat_map.proofs.nodes.link.Goals as goal

pub loop-a-preserved : goal.loop-a-preserved
loop-a-preserved g c =
    let i = c.loop-a.invariant in
    let below = fork_below c.loop-a.bit c.loop-a.a c.loop-a.b i.apart i.a_fits i.b_fits in
    record {
      small = omega (arith, below);
      apart = search rules;
      a_fits = wider c.loop-a.bit (c.loop-a.a / 2) c.loop-a.a (omega arith) i.a_fits;
      b_fits = wider c.loop-a.bit (c.loop-a.b / 2) c.loop-a.b (omega arith) i.b_fits;
      first = inside_half c.loop-a.bit c.loop-a.a _ i.first;
      second = inside_half c.loop-a.bit c.loop-a.b _ i.second;
    }

pub returns-then-a-b-clause-tree : goal.returns-then-a-b-clause-tree
returns-then-a-b-clause-tree g c =
    let i = c.loop-a.invariant in
    let same : c.loop-a.a / 2 ≡ c.loop-a.b / 2 = search rules in
    ok_so c.branch-alloc.result (λ t. IsBranch c.loop-a.bit (c.loop-a.a / 2) c.args.first.value c.args.second.value t.value) (λ t. IsTree t.value) c.branch-alloc.ensures
    (λ t e. link_tree c.loop-a.bit c.loop-a.a c.loop-a.b c.args.first.value c.args.second.value t.value i.first i.second c.if-a-b.true same i.b_fits c.requires.tree c.requires.other_tree e)

pub returns-else-a-b-clause-tree : goal.returns-else-a-b-clause-tree
returns-else-a-b-clause-tree g c =
    let i = c.loop-a.invariant in
    let same : c.loop-a.a / 2 ≡ c.loop-a.b / 2 = search rules in
    let lt : c.loop-a.b < c.loop-a.a = omega (arith, i.apart) in
    ok_so c.branch-alloc-else-a-b.result (λ t. IsBranch c.loop-a.bit (c.loop-a.a / 2) c.args.second.value c.args.first.value t.value) (λ t. IsTree t.value) c.branch-alloc-else-a-b.ensures
    (λ t e. link_tree c.loop-a.bit c.loop-a.b c.loop-a.a c.args.second.value c.args.first.value t.value i.second i.first lt (sym same) i.a_fits c.requires.other_tree c.requires.tree
    (subst (λ h. IsBranch c.loop-a.bit h c.args.second.value c.args.first.value t.value) same e))
