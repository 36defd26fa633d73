use Rattle.std.proofs.Common.{◌≡◌, List, true, drop}
use Rattle.std.specs.List.{list_any}
use Rattle.dalvik_defs.specs.Naming.{named_field}
use Rattle.rule_text.specs.Rules.{MemberRule}
use Rattle.rule_text.specs.Related.{AreEach, IsMemberOf}
use Rattle.rule_defs.specs.Members.{matches_field}
use Rattle.keep_rules.specs.Fits.{has_field_name}
use Rattle.keep_rules.proofs.members.some_line_of_field.Given as goal

-- those gone through don't match
abbrev pub invariant-loop-line : goal.invariant-loop-line
invariant-loop-line l = (ms : List MemberRule) → has_field_name l.program l.field ≡ true → AreEach IsMemberOf l.lines ms → list_any (λ m. matches_field m (named_field l.program l.field)) (drop l.line-index ms) ≡ list_any (λ m. matches_field m (named_field l.program l.field)) ms
