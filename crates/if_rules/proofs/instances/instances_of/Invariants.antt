use Rattle.std.proofs.Common.{◌≡◌, List, [], true}
use Rattle.hierarchy.specs.Shapes.{IsOf}
use Rattle.program_model.specs.ProgramRules.{is_well_formed}
use Rattle.rule_text.specs.Related.{AreEach}
use Rattle.if_text.specs.Items.{IfRule}
use Rattle.if_text.specs.Readings.{IsIfOf}
use Rattle.if_rules.specs.Listed.{Grew, OfRules}
use Rattle.if_rules.proofs.instances.instances_of.Given as goal

abbrev pub invariant-loop-number : goal.invariant-loop-number
invariant-loop-number l = (rs : List IfRule) → is_well_formed l.program ≡ true → IsOf l.program l.hierarchy → AreEach IsIfOf l.rules rs → Grew l.program rs (OfRules l.number) [] l.out.items
