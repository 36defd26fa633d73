use Rattle.std.proofs.Common.{arith}
use Rattle.std.proofs.lemmas.List.{nil_from_length}
use Rattle.if_text.proofs.Loops.{split_first, types_more, types_end}
use Rattle.if_text.proofs.slots.push_line_types.Goals as goal

pub loop-rest-preserved : goal.loop-rest-preserved
loop-rest-preserved c = (
  c.in_ok-push_line_type.ensures.long,
  λ ws are. types_more c.args.start _ _ _ c.loop-rest.out.items c.push_line_type.new.out.items c.args.out.now.items ws (split_first c.loop-rest.rest.now c.kind-item.result (omega arith) c.kind-item.is) c.in_ok-push_line_type.ensures.adds (c.loop-rest.invariant.1 ws are),
)

pub returns-clause-adds : goal.returns-clause-adds
returns-clause-adds c = λ ws are. types_end c.args.start _ c.loop-rest.out.items c.args.out.now.items ws (nil_from_length c.loop-rest.rest.now (omega arith)) (c.loop-rest.invariant.1 ws are)
