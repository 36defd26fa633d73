use Rattle.std.proofs.Common.{◌≡◌, true, drop}
use Rattle.std.specs.List.{list_any, list_all}
use Rattle.rule_text.specs.Rules.{KeepRule}
use Rattle.rule_text.specs.Related.{IsKeepOf}
use Rattle.keep_rules.specs.Fits.{has_field_name}
use Rattle.keep_rules.specs.Marks.{is_always}
use Rattle.keep_rules.specs.Grown.{is_describing, lined_field, LeftMembers}
use Rattle.keep_rules.proofs.keep.keep_fields.Given as goal

abbrev pub invariant-loop-field : goal.invariant-loop-field
invariant-loop-field l = (k : KeepRule) → IsKeepOf l.rule k → list_all (has_field_name l.program) l.fields ≡ true
    → LeftMembers (is_always l.hold) (is_describing k) (λ n. list_any (lined_field l.program k n) (drop l.field-index l.fields)) (λ n. list_any (lined_field l.program k n) l.fields) l.initial.marks l.marks
