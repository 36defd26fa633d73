use Rattle.std.proofs.Common.{◌≡◌, List, true, drop, length}
use Rattle.std.specs.Prelude.{nat_lt}
use Rattle.rule_text.specs.Rules.{MemberRule}
use Rattle.rule_text.specs.Related.{AreEach, IsMemberOf}
use Rattle.keep_rules.specs.Silent.{some_line_names}
use Rattle.keep_rules.proofs.assume.some_line_names.Given as goal

-- those gone through don't name it
abbrev pub invariant-loop-line : goal.invariant-loop-line
invariant-loop-line l = (ms : List MemberRule) → nat_lt l.method.proto (length l.program.protos) ≡ true → AreEach IsMemberOf l.lines ms → some_line_names l.program (drop l.line-index ms) l.method ≡ some_line_names l.program ms l.method
