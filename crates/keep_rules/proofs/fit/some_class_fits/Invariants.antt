use Rattle.std.proofs.Common.{◌≡◌, List, drop}
use Rattle.rule_text.specs.Tokens.{Word}
use Rattle.rule_text.specs.Related.{AreEach, IsPatternOf}
use Rattle.rule_defs.specs.Patterns.{some_name_fits}
use Rattle.keep_rules.proofs.fit.some_class_fits.Given as goal

-- those gone through don't fit
abbrev pub invariant-loop-pattern : goal.invariant-loop-pattern
invariant-loop-pattern l = (ws : List Word) → AreEach IsPatternOf l.patterns ws → some_name_fits (drop l.pattern-index ws) l.descriptor ≡ some_name_fits ws l.descriptor
