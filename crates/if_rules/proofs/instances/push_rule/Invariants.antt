use Rattle.std.proofs.Common.{◌≡◌, List, true, Some, slice_get, length}
use Rattle.hierarchy.specs.Shapes.{IsOf}
use Rattle.program_model.specs.ProgramRules.{is_well_formed}
use Rattle.if_text.specs.Items.{IfRule}
use Rattle.if_text.specs.Readings.{IsIfOf}
use Rattle.if_rules.proofs.Grows.{GrewBut}
use Rattle.if_rules.proofs.instances.push_rule.Given as goal

abbrev pub invariant-loop-rest : goal.invariant-loop-rest
invariant-loop-rest l = (rs : List IfRule) (r : IfRule) → is_well_formed l.fn.program ≡ true → IsOf l.fn.program l.fn.hierarchy → slice_get rs l.fn.number ≡ Some r → IsIfOf l.fn.rule r → GrewBut l.fn.program rs l.fn.number l.initial.rest l.rest l.fn.out.items l.out.items

abbrev pub decreases-loop-rest : goal.decreases-loop-rest
decreases-loop-rest l = length l.rest
