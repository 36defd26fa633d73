use Rattle.std.proofs.Common.{◌≡◌, true, drop, map}
use Rattle.std.specs.List.{list_any, list_all}
use Rattle.dalvik_defs.specs.Naming.{named_method}
use Rattle.rule_text.specs.Rules.{MemberRule}
use Rattle.rule_text.specs.Related.{IsMemberOf}
use Rattle.rule_defs.specs.Members.{matches_method}
use Rattle.keep_rules.specs.Fits.{has_method_name}
use Rattle.keep_rules.proofs.members.has_method.Given as goal

-- those gone through don't match
abbrev pub invariant-loop-method : goal.invariant-loop-method
invariant-loop-method l = (m : MemberRule) → list_all (has_method_name l.program) l.methods ≡ true → IsMemberOf l.line m → list_any (matches_method m) (map (named_method l.program) (drop l.method-index l.methods)) ≡ list_any (matches_method m) (map (named_method l.program) l.methods)
