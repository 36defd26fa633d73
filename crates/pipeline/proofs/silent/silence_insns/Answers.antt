use Rattle.std.proofs.Common.{◌∙◌, ap, add-one, arith}
use Rattle.pipeline.specs.Silence.{marked, silenced_at}
use Rattle.pipeline.proofs.Silencing.{silenced_on, silenced_end, to_none_is}
use Rattle.pipeline.proofs.silent.silence_insns.Goals as goal

pub loop-position-init : goal.loop-position-init
loop-position-init c = to_none_is (marked c.args.marks.now) c.args.insns.now

pub loop-position-preserved : goal.loop-position-preserved
loop-position-preserved c = rw add-one (c.silence_at.ensures ∙ ap (silenced_at (marked c.args.marks.now) c.loop-position.position) c.loop-position.invariant ∙ silenced_on (marked c.args.marks.now) c.args.insns.now c.loop-position.position)

pub returns : goal.returns
returns c = silenced_end (marked c.args.marks.now) c.args.insns.now c.loop-position.insns c.loop-position.position (omega arith) c.loop-position.invariant
