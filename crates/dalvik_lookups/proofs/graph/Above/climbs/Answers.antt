use Rattle.std.proofs.Common.{◌∙◌, sym, subst, arith, true}
use Rattle.std.specs.Prelude.{OnOk}
use Rattle.dalvik_lookups.specs.Walks.{IsWalked}
use Rattle.dalvik_lookups.proofs.Climbing.{on_so}
use Rattle.dalvik_lookups.proofs.graph.Above.climbs.Goals as goal

pub returns-clause-so : goal.returns-clause-so
returns-clause-so c = λ clean inside lt h.
    let walked = subst (λ r. OnOk r (IsWalked c.args.self.now c.walk_from-walked.new.marks c.args.lower)) c.in_ok-walked.was (c.walk_from-walked.ensures.walked clean inside lt) in
    walked.from c.args.upper (sym c.has-found.ensures ∙ h)

pub returns-clause-all : goal.returns-clause-all
returns-clause-all c = λ clean inside lt lt' k.
    let walked = subst (λ r. OnOk r (IsWalked c.args.self.now c.walk_from-walked.new.marks c.args.lower)) c.in_ok-walked.was (c.walk_from-walked.ensures.walked clean inside lt) in
    c.has-found.ensures ∙ on_so c.walk_from-walked.new.marks.marks.items c.args.upper true (omega (arith, lt', c.walk_from-walked.ensures.size, c.walk_from-walked.new.marks.marks.ok)) (walked.met c.args.upper k)
