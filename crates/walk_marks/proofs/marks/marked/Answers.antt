use Rattle.std.proofs.Common.{◌≡◌, ◌∷◌, ◌++◌, [], List, ℕ, length, arith, length-append, sym, ap, ◌∙◌, subst, refl, rules, replicate, false}
use Rattle.std.proofs.lemmas.List.{get_or_default}
use Rattle.walk_marks.specs.Walks.{row_of}
use Rattle.walk_marks.specs.Steps.{Marks, Follows, Leads}
use Rattle.walk_marks.proofs.Marking.{spreads_begin, spreads_on, spreads_end, top_inside}
use Rattle.walk_marks.proofs.marks.marked.Goals as goal

pub loop-node-init : goal.loop-node-init
loop-node-init g c =
    let clear : c.in_ok-marks.marks.items ≡ replicate (length c.args.rows.now) false = search rules in
    spreads_begin c.args.rows.now (g.G.Gate.lets c.args.gate.now) c.args.seeds.now (length c.args.rows.now) c.in_ok-marks.marks.items c.begin.new.marks.items c.new-waiting.result.items c.begin.new.waiting.items
    refl clear c.new-waiting.ensures.items c.in_ok-begin.ensures.marks c.in_ok-begin.ensures.on

pub bounds-rows-node : goal.bounds-rows-node
bounds-rows-node g c = top_inside c.args.rows.now (g.G.Gate.lets c.args.gate.now) c.args.seeds.now c.loop-node.marks.items c.loop-node.waiting.items c.pop.new.self.items c.in-Some.node c.in-Some.ensures.items c.loop-node.invariant

pub loop-node-preserved : goal.loop-node-preserved
loop-node-preserved g c =
    let inside : _ = top_inside c.args.rows.now (g.G.Gate.lets c.args.gate.now) c.args.seeds.now c.loop-node.marks.items c.loop-node.waiting.items c.pop.new.self.items c.in-Some.node c.in-Some.ensures.items c.loop-node.invariant in
    let row : c.as_slice-row.result.now ≡ row_of c.args.rows.now c.in-Some.node = c.as_slice-row.ensures ∙ c.index-rows-node.is ∙ get_or_default _ _ _ _ inside in
    spreads_on c.args.rows.now (g.G.Gate.lets c.args.gate.now) c.args.seeds.now c.loop-node.marks.items c.follow.new.marks.items c.loop-node.waiting.items c.pop.new.self.items c.follow.new.waiting.items c.in-Some.node c.in-Some.ensures.items c.loop-node.invariant
    (subst (λ (l : List ℕ). Marks (Leads l (g.G.Gate.lets c.args.gate.now) c.in-Some.node) c.loop-node.marks.items c.pop.new.self.items c.follow.new.marks.items c.follow.new.waiting.items) row c.in_ok-follow.ensures.marks)
    (subst (λ (l : List ℕ). Follows l (g.G.Gate.lets c.args.gate.now) c.in-Some.node c.follow.new.marks.items) row c.in_ok-follow.ensures.follows)

pub loop-node-smaller : goal.loop-node-smaller
loop-node-smaller g c = omega (arith, c.in_ok-follow.ensures.marks.falls, ap length c.in-Some.ensures.items, length-append c.pop.new.self.items (c.in-Some.node ∷ []))

pub returns : goal.returns
returns g c = record { long = c.loop-node.invariant.long; exact = spreads_end c.args.rows.now (g.G.Gate.lets c.args.gate.now) c.args.seeds.now c.loop-node.marks.items c.loop-node.waiting.items (omega (arith, c.in_default.ensures.cases.0)) c.loop-node.invariant }
