use Rattle.std.proofs.Common.{◌<◌, drop, length}
use Rattle.std.specs.Prelude.{All}
use Rattle.rule_text.specs.Rules.{AssumeRule}
use Rattle.rule_text.specs.Related.{IsAssumeOf}
use Rattle.keep_rules.specs.Grown.{Left}
use Rattle.keep_rules.specs.View.{IsReady}
use Rattle.keep_rules.proofs.SilentLemmas.{silent_among}
use Rattle.keep_rules.proofs.assume.silence_types.Given as goal

abbrev pub invariant-loop-kind : goal.invariant-loop-kind
invariant-loop-kind l = (k : AssumeRule) → IsReady l.view → All (λ kind. kind < length l.view.program.now.types) l.kinds → IsAssumeOf l.rule k
    → Left (silent_among l.view.program.now k (drop l.kind-index l.kinds)) (silent_among l.view.program.now k l.kinds) l.initial.silent.items l.silent.items
