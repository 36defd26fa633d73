use Rattle.std.proofs.Common.{◌≡◌, drop, map}
use Rattle.rule_text.specs.Tokens.{Word}
use Rattle.rule_text.specs.Related.{IsPatternOf}
use Rattle.dalvik_defs.specs.Naming.{mark_of}
use Rattle.rule_defs.specs.Members.{has_mark}
use Rattle.keep_rules.proofs.access.mark_holds.Given as goal

-- those gone through don't fit
abbrev pub invariant-loop-mark : goal.invariant-loop-mark
invariant-loop-mark l = (w : Word) → IsPatternOf l.pattern w → has_mark w (map (mark_of l.program) (drop l.mark-index l.marks)) ≡ has_mark w (map (mark_of l.program) l.marks)
