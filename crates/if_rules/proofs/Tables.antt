-- The table of rules without a condition.
use Rattle.std.proofs.Common.{◌≡◌, List, [], ◌∷◌, refl, subst}
use Rattle.rule_text.specs.Related.{AreEach}
use Rattle.if_text.specs.Items.{IfRule, Item, ifs_of}
use Rattle.if_text.specs.Readings.{AreRead, IsIfOf}
use Rattle.if_text.specs.declared.rules.IfRules.{IfRules}

none_each : (rs : List IfRule) → AreEach IsIfOf [] rs → rs ≡ []
none_each [] are = refl
none_each (r ∷ rs) are = absurd are

-- no rule with a condition was read
pub no_ifs : (items : List Item) (rules : IfRules) → rules.ifs.items ≡ [] → AreRead items rules → ifs_of items ≡ []
no_ifs items rules none read = none_each (ifs_of items) (subst (λ rs. AreEach IsIfOf rs (ifs_of items)) none read.ifs)
