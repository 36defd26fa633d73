use Rattle.std.proofs.Common.{List}
use Rattle.rule_text.specs.Tokens.{Word}
use Rattle.rule_text.specs.Related.{AreEach, IsPatternOf}
use Rattle.keep_rules.specs.View.{IsReady}
use Rattle.keep_rules.proofs.TriedLemmas.{TriedSo}
use Rattle.keep_rules.proofs.names.named_types.Given as goal

abbrev pub invariant-loop-pattern : goal.invariant-loop-pattern
invariant-loop-pattern l = (ws : List Word) → IsReady l.view → AreEach IsPatternOf l.patterns ws → TriedSo l.view.program.now ws l.kinds.items l.pattern-index
