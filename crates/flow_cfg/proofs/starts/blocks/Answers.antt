use Rattle.std.proofs.Common.{ap, false, length, replicate, arith}
use Rattle.std.proofs.lemmas.List.{length-replicate}
use Rattle.flow_cfg.proofs.Marked.{length_marked, firsts_are, firsts_rise, firsts_begin}
use Rattle.flow_cfg.proofs.starts.blocks.Goals as goal

pub marked_places-requires : goal.marked_places-requires
marked_places-requires c = omega (arith, ap length c.deref-2.ensures.value, ap length c.in_ok-marks.ensures, length_marked (replicate c.len.result false) c.deref.result.now, length-replicate c.len.result false, c.len.ensures, c.requires)

pub returns-clause-rise : goal.returns-clause-rise
returns-clause-rise c =
    firsts_rise c.args.body.now c.in_ok-firsts.firsts.items (firsts_are c.args.body.now c.in_ok-firsts.firsts.items c.deref-2.result.now c.in_ok-marks.marks.items c.deref.result.now c.in_ok-starts.starts.items c.len.result c.in_ok-firsts.ensures c.deref-2.ensures.value c.in_ok-marks.ensures c.deref.ensures.value c.in_ok-starts.ensures c.len.ensures)

pub returns-clause-firsts : goal.returns-clause-firsts
returns-clause-firsts c =
    firsts_begin c.args.body.now c.in_ok-firsts.firsts.items (firsts_are c.args.body.now c.in_ok-firsts.firsts.items c.deref-2.result.now c.in_ok-marks.marks.items c.deref.result.now c.in_ok-starts.starts.items c.len.result c.in_ok-firsts.ensures c.deref-2.ensures.value c.in_ok-marks.ensures c.deref.ensures.value c.in_ok-starts.ensures c.len.ensures)
