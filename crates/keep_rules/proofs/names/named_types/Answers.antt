use Rattle.std.proofs.Common.{subst, sym, ap, ◌+◌}
use Rattle.keep_rules.specs.Tried.{AreCandidates}
use Rattle.keep_rules.proofs.TriedLemmas.{TriedSo, tried_start, tried_none, tried_type, tried_end}
use Rattle.keep_rules.proofs.names.named_types.Goals as goal
use Rattle.keep_rules.proofs.names.named_types.Goals.{in-None, in-Type+in_ok-push-in-Type}

pub loop-pattern-preserved : goal.loop-pattern-preserved
loop-pattern-preserved c = λ ws ready are.
    let p = c.args.view.now.program.now in
    let at = c.loop-pattern.pattern-index in
    elim c.match-branch-2.branch [
      | in-None w ↦ subst (λ l. TriedSo p ws l (at + 1)) (sym (ap (λ v. v.items) w.kinds-is))
          (tried_none p c.args.patterns.now ws at c.pattern-item.result are c.loop-pattern-test.true c.pattern-item.is c.loop-pattern.kinds.items
          (λ word is. subst (AreCandidates p word) w.in-None.is (c.in_ok-candidates_of.ensures word ready is)) (c.loop-pattern.invariant ws ready are))
      | in-Type+in_ok-push-in-Type w ↦ subst (λ l. TriedSo p ws l (at + 1)) (sym (ap (λ v. v.items) w.kinds-is))
          (tried_type p c.args.patterns.now ws at c.pattern-item.result are c.loop-pattern-test.true c.pattern-item.is c.loop-pattern.kinds.items w.push.new.self.items w.in-Type.kind w.in_ok-push-in-Type.ensures.items
          (λ word is. subst (AreCandidates p word) w.in-Type.is (c.in_ok-candidates_of.ensures word ready is)) (c.loop-pattern.invariant ws ready are))
    ]

pub returns : goal.returns
returns c = λ ws ready are. tried_end c.args.view.now.program.now c.args.patterns.now ws c.loop-pattern.pattern-index c.loop-pattern.kinds.items are c.loop-pattern-test.false (c.loop-pattern.invariant ws ready are)

pub loop-pattern-init : goal.loop-pattern-init
loop-pattern-init c = λ ws ready are. tried_start c.args.view.now.program.now ws c.new-kinds.result.items c.new-kinds.ensures.items
