use Rattle.std.proofs.Common.{◌≡◌, ◌≤◌, ◌+◌, ◌/◌, arith, rules}
use Rattle.pat_map.specs.UnionLaws.{apart_held}
use Rattle.pat_map.proofs.nodes.holding.Goals as goal

pub returns-then-half-block : goal.returns-then-half-block
returns-then-half-block c =
    let l = apart_held c.args.bit c.args.block c.args.other_bit c.args.other_block c.block_at-half.result c.requires.other_bit c.block_at-half.ensures in
    let small : c.args.bit + 1 ≤ 32 = omega (arith, c.requires.bit) in
    let apart : c.args.block ≡ c.block_at-half.result / 2 → ⊥ = search rules in
    (small, apart, l.0, l.1)
