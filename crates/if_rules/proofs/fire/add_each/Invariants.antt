use Rattle.std.proofs.Common.{◌≡◌, ◌+◌, ◌≤◌, List, true, length, Contains}
use Rattle.program_model.specs.ProgramRules.{is_well_formed}
use Rattle.rule_text.specs.Related.{AreEach}
use Rattle.if_text.specs.Items.{IfRule}
use Rattle.if_text.specs.Readings.{IsIfOf}
use Rattle.if_rules.specs.Added.{AddsRound, left_of}
use Rattle.if_rules.specs.Listed.{IsInstance}
use Rattle.if_rules.specs.declared.instances.Instance.{Instance}
use Rattle.if_rules.proofs.fire.add_each.Given as goal

abbrev pub invariant-loop-place : goal.invariant-loop-place
invariant-loop-place l = (length l.added ≡ length l.fn.added) × (l.count ≤ l.place) × (l.count + left_of l.added ≡ left_of l.fn.added)
    × ((rs : List IfRule) → is_well_formed l.program ≡ true → AreEach IsIfOf l.rules rs → ((i : Instance) → Contains l.instances i → IsInstance l.program rs i) → AddsRound l.program l.live rs l.instances l.place l.count l.fn.added l.added l.fn.entries.items l.entries.items)
