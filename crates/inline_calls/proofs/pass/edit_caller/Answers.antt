use Rattle.std.proofs.Common.{refl}
use Rattle.inline_calls.proofs.Asks.{so_asks, on_err}
use Rattle.inline_calls.proofs.Looking.{has_looked}
use Rattle.inline_calls.proofs.pass.edit_caller.Goals as goal

pub returns-clause-looked : goal.returns-clause-looked
returns-clause-looked g c =
    so_asks _ _ _ _ _ _ (has_looked c.args.inliner.now c.args.caller c.args.done.now c.note-edit.new.self c.in_ok-accepted.accepted _ c.note-edit.result refl c.note-edit.ensures.edit c.note-edit.ensures.done) c.in_ok-accepted.ensures.accepted

pub returns-in_err-accepted-clause-begun : goal.returns-in_err-accepted-clause-begun
returns-in_err-accepted-clause-begun g c = on_err _ c.in_err-accepted.ensures.begun
