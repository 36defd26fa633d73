use Rattle.std.proofs.Common.{sym, ap, ◌∙◌}
use Rattle.inline_calls.proofs.Candidates.{not_found, not_coded, not_suited, not_agreeing, not_entered, is_candidate}
use Rattle.inline_calls.proofs.site.Known.candidate.Goals as goal

pub returns-in-None : goal.returns-in-None
returns-in-None c = not_found c.args.self.now c.args.caller c.args.position c.args.insn.now c.requires c.found.result c.found.ensures c.in-None.is

pub returns-in-None-callee_at : goal.returns-in-None-callee_at
returns-in-None-callee_at c = not_coded c.args.self.now c.args.caller c.args.position c.args.insn.now c.requires c.found.result c.in-Some.place c.found.ensures c.in-Some.is c.in-None-callee_at.ensures.none

pub returns-then-not-is_suited : goal.returns-then-not-is_suited
returns-then-not-is_suited c =
    not_suited c.args.self.now c.args.caller c.args.position c.args.insn.now c.requires c.found.result c.in-Some.place c.found.ensures c.in-Some.is c.in-Some-callee_at.callee c.in-Some-callee_at.ensures.method c.in-Some-callee_at.ensures.code
    (sym c.is_suited.ensures ∙ c.if-not-is_suited.true)

pub returns-then-not-is_agreeing : goal.returns-then-not-is_agreeing
returns-then-not-is_agreeing c =
    not_agreeing c.args.self.now c.args.caller c.args.position c.args.insn.now c.requires c.found.result c.in-Some.place c.found.ensures c.in-Some.is c.in-Some-callee_at.callee c.in-Some-callee_at.ensures.method c.in-Some-callee_at.ensures.code
    (sym c.is_agreeing.ensures ∙ c.if-not-is_agreeing.true)

pub returns-then-enters : goal.returns-then-enters
returns-then-enters c =
    is_candidate c.args.self.now c.args.caller c.args.position c.args.insn.now c.requires c.found.result c.in-Some.place c.found.ensures c.in-Some.is c.in-Some-callee_at.callee c.in-Some-callee_at.ensures.method c.in-Some-callee_at.ensures.code
    (sym c.is_suited.ensures ∙ c.if-not-is_suited.false) (sym c.is_agreeing.ensures ∙ c.if-not-is_agreeing.false) (c.enters.ensures.enters c.if-enters.true)

pub returns-else-enters : goal.returns-else-enters
returns-else-enters c =
    not_entered c.args.self.now c.args.caller c.args.position c.args.insn.now c.requires c.found.result c.in-Some.place c.found.ensures c.in-Some.is c.in-Some-callee_at.callee c.in-Some-callee_at.ensures.method c.in-Some-callee_at.ensures.code
    (c.enters.ensures.late c.if-enters.false)
