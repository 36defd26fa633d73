use Rattle.std.proofs.Common.{Vec, Global, All}
use Rattle.flow_cfg.specs.declared.weak.Part.{Part}
use Rattle.flow_cfg.specs.Parts.{part_nodes, part_ends, AreEnds, Nest, Follows, AreCaused, AreTight}
use Rattle.flow_cfg.specs.Listing.{ListsOnce}
use Rattle.flow_cfg.proofs.Ordered.{carried, both_carried, once_itself, ordered, all_caused}
use Rattle.flow_cfg.proofs.weak.weak_order.Goals as goal

pub places_of-requires-clause-once : goal.places_of-requires-clause-once
places_of-requires-clause-once c = once_itself c.args.nodes c.deref-2.result.now c.in_ok-order.order.items c.deref-2.ensures.value c.in_ok-order.ensures

pub returns-clause-nodes : goal.returns-clause-nodes
returns-clause-nodes c = carried c.parts_of.result (λ (v : Vec Part Global). part_nodes v.items) (ListsOnce c.args.nodes) c.deref-4.result.now c.in_ok-order.order.items c.parts_of.ensures.nodes c.deref-4.ensures.value c.in_ok-order.ensures

pub returns-clause-ends : goal.returns-clause-ends
returns-clause-ends c = carried c.parts_of.result (λ (v : Vec Part Global). part_ends v.items) AreEnds c.deref-5.result.now c.in_ok-ends.ends.items c.parts_of.ensures.ends c.deref-5.ensures.value c.in_ok-ends.ensures.ends

pub returns-clause-nest : goal.returns-clause-nest
returns-clause-nest c = carried c.parts_of.result (λ (v : Vec Part Global). part_ends v.items) Nest c.deref-5.result.now c.in_ok-ends.ends.items c.parts_of.ensures.ends c.deref-5.ensures.value c.in_ok-ends.ensures.nest

pub returns-clause-edges : goal.returns-clause-edges
returns-clause-edges c =
    both_carried c.parts_of.result (λ (v : Vec Part Global). part_nodes v.items) (λ (v : Vec Part Global). part_ends v.items) (λ o e. All (Follows o e) c.args.edges.now)
    c.deref-4.result.now c.in_ok-order.order.items c.deref-5.result.now c.in_ok-ends.ends.items
    c.parts_of.ensures.nodes c.deref-4.ensures.value c.parts_of.ensures.ends c.deref-5.ensures.value
    (ordered c.args.nodes c.deref-2.result.now c.in_ok-order.order.items c.deref-3.result.now c.in_ok-places.places.items c.in_ok-ends.ends.items c.args.edges.now c.in_ok-order.ensures c.in_ok-places.ensures.long c.deref-2.ensures.value c.deref-3.ensures.value c.in_ok-places.ensures.places c.in_ok-ends.ensures.held)

pub returns-clause-caused : goal.returns-clause-caused
returns-clause-caused c =
    both_carried c.parts_of.result (λ (v : Vec Part Global). part_nodes v.items) (λ (v : Vec Part Global). part_ends v.items) (λ o e. AreCaused o e c.args.edges.now)
    c.deref-4.result.now c.in_ok-order.order.items c.deref-5.result.now c.in_ok-ends.ends.items
    c.parts_of.ensures.nodes c.deref-4.ensures.value c.parts_of.ensures.ends c.deref-5.ensures.value
    ((all_caused c.args.nodes c.deref-2.result.now c.in_ok-order.order.items c.deref-3.result.now c.in_ok-places.places.items c.in_ok-ends.ends.items c.args.edges.now c.in_ok-order.ensures c.in_ok-places.ensures.long c.deref-2.ensures.value c.deref-3.ensures.value c.in_ok-places.ensures.places c.in_ok-ends.ensures.caused).0)

pub returns-clause-tight : goal.returns-clause-tight
returns-clause-tight c =
    both_carried c.parts_of.result (λ (v : Vec Part Global). part_nodes v.items) (λ (v : Vec Part Global). part_ends v.items) (λ o e. AreTight o e c.args.edges.now)
    c.deref-4.result.now c.in_ok-order.order.items c.deref-5.result.now c.in_ok-ends.ends.items
    c.parts_of.ensures.nodes c.deref-4.ensures.value c.parts_of.ensures.ends c.deref-5.ensures.value
    ((all_caused c.args.nodes c.deref-2.result.now c.in_ok-order.order.items c.deref-3.result.now c.in_ok-places.places.items c.in_ok-ends.ends.items c.args.edges.now c.in_ok-order.ensures c.in_ok-places.ensures.long c.deref-2.ensures.value c.deref-3.ensures.value c.in_ok-places.ensures.places c.in_ok-ends.ensures.caused).1)
