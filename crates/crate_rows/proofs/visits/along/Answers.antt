use Rattle.std.proofs.Common.{◌≡◌, arith}
use Rattle.std.proofs.lemmas.Grind.{common_steps}
use Rattle.flow_cfg.specs.Parts.{part_nodes, part_ends}
use Rattle.crate_rows.proofs.Orders.{lists_nodes, ends_nodes}
use Rattle.crate_rows.proofs.visits.along.Goals as goal

pub solve_along-requires-clause-nodes : goal.solve_along-requires-clause-nodes
solve_along-requires-clause-nodes c =
    let e : c.as_slice-2.result.now ≡ part_nodes c.in_ok-parts.parts.items = grind (arith, common_steps) in
    lists_nodes _ c.in_ok-parts.parts.items c.as_slice-2.result.now e c.in_ok-parts.ensures.nodes

pub solve_along-requires-clause-ends : goal.solve_along-requires-clause-ends
solve_along-requires-clause-ends c =
    let e : c.as_slice-2.result.now ≡ part_nodes c.in_ok-parts.parts.items = grind (arith, common_steps) in
    let g : c.as_slice-3.result.now ≡ part_ends c.in_ok-parts.parts.items = grind (arith, common_steps) in
    ends_nodes c.in_ok-parts.parts.items c.as_slice-2.result.now c.as_slice-3.result.now e g c.in_ok-parts.ensures.ends
