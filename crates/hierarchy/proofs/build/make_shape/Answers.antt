use Rattle.hierarchy.proofs.Placed.{stopping}
use Rattle.hierarchy.proofs.build.make_shape.Goals as goal

pub returns-in-Err-clause-stops : goal.returns-in-Err-clause-stops
returns-in-Err-clause-stops c = stopping c.args.program.now c.in-Err.fault c.len.result c.as_slice.result.now c.len.ensures c.as_slice.ensures c.in-Err.ensures.twice
