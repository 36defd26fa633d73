use Rattle.std.proofs.Common.{◌≡◌, drop}
use Rattle.rule_defs.specs.Kept.{has_modifier}
use Rattle.keep_rules.proofs.keep.has_modifier.Given as goal

abbrev pub invariant-loop-modifier : goal.invariant-loop-modifier
invariant-loop-modifier l = has_modifier l.wanted (drop l.modifier-index l.modifiers) ≡ has_modifier l.wanted l.modifiers
