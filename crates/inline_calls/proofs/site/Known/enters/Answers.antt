use Rattle.std.proofs.Common.{ℕ, min, subst}
use Rattle.inline_calls.specs.Candidates.{KnowsReceiver}
use Rattle.inline_calls.proofs.Receivers.{enters_direct}
use Rattle.inline_calls.proofs.site.Known.enters.Goals as goal

pub returns-else-has-clause-enters : goal.returns-else-has-clause-enters
returns-else-has-clause-enters c = λ h.
    let k = c.args.self.now in
    enters_direct k c.args.caller.now c.args.position c.args.insn.now c.args.callee.now c.args.class c.has.result c.knows_receiver.result c.has.ensures c.if-has.false
    (subst (λ (r : ℕ). KnowsReceiver k.facts.now c.args.caller.now.name (min c.args.position 4294967295) r) c.receiver_in.ensures
    (subst (λ (n : ℕ). KnowsReceiver k.facts.now c.args.caller.now.name n c.receiver_in.result) c.word.ensures (c.knows_receiver.ensures.known h)))
