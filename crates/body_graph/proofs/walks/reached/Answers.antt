use Rattle.std.proofs.Common.{◌≡◌, ℕ, List, length, ap, ◌∙◌, arith}
use Rattle.walk_marks.specs.Walks.{row_of}
use Rattle.body_graph.specs.Graph.{node_row}
use Rattle.body_graph.proofs.Reaching.{reached_marks}
use Rattle.body_graph.proofs.walks.reached.Goals as goal

pub returns-clause-exact : goal.returns-clause-exact
returns-clause-exact c =
    let same : c.deref.result.now ≡ c.in_ok-rows.rows.items = c.deref.ensures.value in
    reached_marks c.args.body.now c.deref.result.now (λ n. ap (λ (l : List (List ℕ)). row_of l n) same ∙ c.in_ok-rows.ensures.rows n) c.in_ok-marks.marks.items c.truncate.new.self.items c.len.result
    c.len.ensures c.truncate.ensures.items (omega (arith, ap length same, c.in_ok-rows.ensures.long)) c.in_ok-marks.ensures.exact
