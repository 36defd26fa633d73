use Rattle.std.proofs.Common.{◌≡◌, ◌≤◌, ◌+◌, ◌/◌, arith, rules}
use Rattle.pat_map.specs.UnionLaws.{apart_held}
use Rattle.pat_map.proofs.nodes.held.Goals as goal

pub returns-then-half-other_block : goal.returns-then-half-other_block
returns-then-half-other_block c =
    let l = apart_held c.args.other_bit c.args.other_block c.args.bit c.args.block c.block_at-half.result c.requires.bit c.block_at-half.ensures in
    let small : c.args.other_bit + 1 ≤ 32 = omega (arith, c.requires.other_bit) in
    let apart : c.block_at-half.result / 2 ≡ c.args.other_block → ⊥ = search rules in
    (small, apart, l.1, l.0)
