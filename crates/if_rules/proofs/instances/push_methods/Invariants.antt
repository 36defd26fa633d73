use Rattle.std.proofs.Common.{◌≡◌, List, [], ◌∷◌, true}
use Rattle.keep_rules.specs.Fits.{has_names}
use Rattle.rule_defs.specs.Kept.{lines_of}
use Rattle.rule_text.specs.Related.{IsMemberOf}
use Rattle.rule_text.specs.Rules.{MemberRule}
use Rattle.if_text.specs.Items.{IfRule}
use Rattle.if_rules.specs.Instances.{uses_line}
use Rattle.if_rules.specs.Listed.{IsGiven, Grew, OfMethods}
use Rattle.if_rules.proofs.instances.push_methods.Given as goal

abbrev pub invariant-loop-place : goal.invariant-loop-place
invariant-loop-place l = (rs : List IfRule) (g : IsGiven l.program rs l.at.rule.now l.at.number l.at.class l.class) (m : MemberRule) → has_names l.program l.class ≡ true → uses_line g.rule ≡ true → lines_of g.rule.condition ≡ m ∷ [] → IsMemberOf l.line m
    → Grew l.program rs (OfMethods l.at.number l.at.class l.place) l.fn.out.items l.out.items
