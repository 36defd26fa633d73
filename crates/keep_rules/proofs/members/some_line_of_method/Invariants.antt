use Rattle.std.proofs.Common.{◌≡◌, List, true, drop}
use Rattle.std.specs.List.{list_any}
use Rattle.dalvik_defs.specs.Naming.{named_method}
use Rattle.rule_text.specs.Rules.{MemberRule}
use Rattle.rule_text.specs.Related.{AreEach, IsMemberOf}
use Rattle.rule_defs.specs.Members.{matches_method}
use Rattle.keep_rules.specs.Fits.{has_method_name}
use Rattle.keep_rules.proofs.members.some_line_of_method.Given as goal

-- those gone through don't match
abbrev pub invariant-loop-line : goal.invariant-loop-line
invariant-loop-line l = (ms : List MemberRule) → has_method_name l.program l.method ≡ true → AreEach IsMemberOf l.lines ms → list_any (λ m. matches_method m (named_method l.program l.method)) (drop l.line-index ms) ≡ list_any (λ m. matches_method m (named_method l.program l.method)) ms
