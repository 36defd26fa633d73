use Rattle.quiet_methods.proofs.forms.Search.note_body.Goals as goal
use Rattle.std.proofs.Common.{arith}
use Rattle.quiet_methods.proofs.Collecting.{passed, noted_as}
use Rattle.quiet_methods.proofs.forms.Search.note_body.Goals.{then-place-len-via-then-place-len, then-place-len-via-else-place-len+then-place-len-2}

-- src/methods.rt:88:13
pub returns-then-place-len : goal.returns-then-place-len
returns-then-place-len c = λ done m resolved coded name a. passed c.args.self.now.program.now c.args.frames.now done m c.args.owns.now.nodes.items c.args.owns.now.ranks.items (λ b e lt. elim c.then-place-len.branch [
  | then-place-len-via-then-place-len w ↦ omega (arith, lt, name, a.nodes_long, w.if-place-len.true, c.len.ensures)
  | then-place-len-via-else-place-len+then-place-len-2 w ↦ omega (arith, lt, name, a.ranks_long, w.if-place-len-2.true, w.len-else-place-len.ensures)
]) a

-- src/methods.rt:75:5
pub returns : goal.returns
returns c = λ done m resolved coded name a. noted_as c.args.self.now.program.now c.args.frames.now done m c.args.body.now c.args.owns.now.nodes.items c.note.new.self.nodes.items c.args.owns.now.ranks.items c.note.new.self.ranks.items c.args.number c.in_ok-own.own.node c.in_ok-own.own.ranks
    c.as_slice.result.now c.frames_of.result.now coded name (omega (arith, c.if-place-len.false, c.len.ensures, a.nodes_long)) c.as_slice.ensures c.frames_of.ensures (c.in_ok-own.ensures resolved) a c.note.ensures.nodes c.note.ensures.ranks
