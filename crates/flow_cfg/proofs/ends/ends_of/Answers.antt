use Rattle.std.proofs.Common.{◌≡◌, length, arith}
use Rattle.flow_cfg.proofs.Nested.{causes_whole}
use Rattle.flow_cfg.proofs.ends.ends_of.Goals as goal

pub returns-clause-caused : goal.returns-clause-caused
returns-clause-caused c = causes_whole c.args.places.now c.in_ok-ends.ends.items c.as_mut_slice.result.now c.nest.new.ends c.args.edges.now c.in_ok-ends.ends.len (omega arith) (omega arith) c.as_mut_slice.ensures.value c.in_ok-ends.ensures.ends c.nest.ensures.grown c.nest.ensures.alone c.nest.ensures.sources c.in_ok-ends.ensures.caused
