use Rattle.std.proofs.Common.{true, false}
use Rattle.quiet_methods.proofs.ranks.Ranks.turn.Goals as goal
use Rattle.std.proofs.Common.{arith}
use Rattle.quiet_methods.proofs.Ranking.{turned, turns_unready, turns_ranked, free_at, ranked_at, ready_of}
use Rattle.quiet_methods.proofs.ranks.Ranks.turn.Goals.{else-is_none-via-then-is_none+else-is_ready, else-is_none-via-else-is_none}

-- src/ranks.rt:61:5
pub returns-then-is_ready-clause-kept : goal.returns-then-is_ready-clause-kept
returns-then-is_ready-clause-kept c = turned c.args.nodes.now c.args.self.now.given.items c.args.self.now.next c.args.place c.index-nodes-place.result c.requires.0 c.requires.2 c.index-nodes-place.is
    (free_at c.args.self.now.given.items c.args.place c.index.result.now c.is_none.result (omega (arith, c.requires.2, c.requires.0.long)) c.index.ensures c.is_none.ensures c.if-is_none.true)
    (ready_of c.args.self.now.given.items c.as_slice.result.now c.index-nodes-place.result c.is_ready.result true c.as_slice.ensures.value c.is_ready.ensures c.if-is_ready.true)

-- src/ranks.rt:61:5
pub returns-else-is_none-clause-turns : goal.returns-else-is_none-clause-turns
returns-else-is_none-clause-turns c = elim c.else-is_none.branch [
  | else-is_none-via-then-is_none+else-is_ready w ↦ turns_unready c.args.nodes.now c.args.self.now.given.items c.args.self.now.next c.args.place w.index-nodes-place.result c.requires.2 w.index-nodes-place.is
      (ready_of c.args.self.now.given.items w.as_slice.result.now w.index-nodes-place.result w.is_ready.result false w.as_slice.ensures.value w.is_ready.ensures w.if-is_ready.false)
  | else-is_none-via-else-is_none w ↦ turns_ranked c.args.nodes.now c.args.self.now.given.items c.args.self.now.next c.args.place
      (ranked_at c.args.self.now.given.items c.args.place c.index.result.now c.is_none.result (omega (arith, c.requires.2, c.requires.0.long)) c.index.ensures c.is_none.ensures w.if-is_none.false)
]
