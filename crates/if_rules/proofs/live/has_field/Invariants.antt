use Rattle.std.proofs.Common.{◌≡◌, ◌&&◌, true, length}
use Rattle.std.specs.List.{list_all}
use Rattle.dalvik_defs.specs.Naming.{named_field}
use Rattle.keep_rules.specs.Fits.{has_field_name}
use Rattle.rule_defs.specs.Members.{matches_field}
use Rattle.rule_text.specs.Related.{IsMemberOf}
use Rattle.rule_text.specs.Rules.{MemberRule}
use Rattle.if_rules.specs.Instances.{is_on}
use Rattle.if_rules.proofs.Lives.{AnyLeft}
use Rattle.if_rules.proofs.live.has_field.Given as goal

abbrev pub invariant-loop-rest : goal.invariant-loop-rest
invariant-loop-rest l = (m : MemberRule) → list_all (has_field_name l.fn.program) l.fn.fields ≡ true → IsMemberOf l.fn.line m → AnyLeft (has_field_name l.fn.program) (λ d. is_on l.fn.marks d.name && matches_field m (named_field l.fn.program d)) l.rest l.fn.fields

abbrev pub decreases-loop-rest : goal.decreases-loop-rest
decreases-loop-rest l = length l.rest
