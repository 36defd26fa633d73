use Rattle.std.proofs.Common.{◌≡◌, true, drop}
use Rattle.std.specs.List.{list_any, list_all}
use Rattle.rule_text.specs.Rules.{KeepRule}
use Rattle.rule_text.specs.Related.{IsKeepOf}
use Rattle.keep_rules.specs.Fits.{has_method_name}
use Rattle.keep_rules.specs.Marks.{is_always}
use Rattle.keep_rules.specs.Grown.{is_describing, lined_method, LeftMembers}
use Rattle.keep_rules.proofs.keep.keep_methods.Given as goal

abbrev pub invariant-loop-method : goal.invariant-loop-method
invariant-loop-method l = (k : KeepRule) → IsKeepOf l.rule k → list_all (has_method_name l.program) l.methods ≡ true
    → LeftMembers (is_always l.hold) (is_describing k) (λ n. list_any (lined_method l.program k n) (drop l.method-index l.methods)) (λ n. list_any (lined_method l.program k n) l.methods) l.initial.marks l.marks
