use Rattle.rule_text.specs.Rules.{AssumeRule}
use Rattle.rule_text.specs.Related.{IsAssumeOf}
use Rattle.keep_rules.specs.Grown.{Grew}
use Rattle.keep_rules.specs.View.{IsReady}
use Rattle.keep_rules.proofs.SilentLemmas.{silent_before}
use Rattle.keep_rules.proofs.assume.silence_all.Given as goal

abbrev pub invariant-loop-kind : goal.invariant-loop-kind
invariant-loop-kind l = (k : AssumeRule) → IsReady l.view → IsAssumeOf l.rule k → Grew (silent_before l.view.program.now k l.kind) l.initial.silent.items l.silent.items
