use Rattle.std.proofs.Common.{◌≡◌, true, drop, map}
use Rattle.std.specs.List.{list_any, list_all}
use Rattle.dalvik_defs.specs.Naming.{named_field}
use Rattle.rule_text.specs.Rules.{MemberRule}
use Rattle.rule_text.specs.Related.{IsMemberOf}
use Rattle.rule_defs.specs.Members.{matches_field}
use Rattle.keep_rules.specs.Fits.{has_field_name}
use Rattle.keep_rules.proofs.members.has_field.Given as goal

-- those gone through don't match
abbrev pub invariant-loop-field : goal.invariant-loop-field
invariant-loop-field l = (m : MemberRule) → list_all (has_field_name l.program) l.fields ≡ true → IsMemberOf l.line m → list_any (matches_field m) (map (named_field l.program) (drop l.field-index l.fields)) ≡ list_any (matches_field m) (map (named_field l.program) l.fields)
