use Rattle.std.proofs.lemmas.Result.{IfOk-weaker}
use Rattle.reach.specs.Closing.{KeepsAsLive, KeepsBy}
use Rattle.reach.proofs.closing.kept_members.Goals as goal

pub returns : goal.returns
returns c = λ formed resolved. IfOk-weaker c.kept_by.result (KeepsBy c.args.program.now c.in_ok-live.live c.args.outside.now) (KeepsAsLive c.args.program.now c.args.outside.now)
    (λ kept keeps. record { live = c.in_ok-live.live; sized = c.in_ok-live.ensures.fits; closed = c.in_ok-live.ensures.closed formed resolved; least = c.in_ok-live.ensures.least formed resolved; keeps = keeps }) c.kept_by.ensures
