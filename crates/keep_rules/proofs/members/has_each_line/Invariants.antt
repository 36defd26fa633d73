use Rattle.std.proofs.Common.{◌≡◌, List, true, drop}
use Rattle.std.specs.List.{list_all}
use Rattle.dalvik_defs.specs.Naming.{named_class}
use Rattle.rule_text.specs.Rules.{MemberRule}
use Rattle.rule_text.specs.Related.{AreEach, IsMemberOf}
use Rattle.rule_defs.specs.Kept.{has_match}
use Rattle.keep_rules.specs.Fits.{has_names}
use Rattle.keep_rules.proofs.members.has_each_line.Given as goal

-- those gone through match
abbrev pub invariant-loop-line : goal.invariant-loop-line
invariant-loop-line l = (ms : List MemberRule) → has_names l.program l.class ≡ true → AreEach IsMemberOf l.lines ms → list_all (has_match (named_class l.program l.class)) (drop l.line-index ms) ≡ list_all (has_match (named_class l.program l.class)) ms
