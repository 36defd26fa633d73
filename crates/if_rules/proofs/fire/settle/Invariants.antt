use Rattle.std.proofs.Common.{◌≡◌, List, true, length}
use Rattle.hierarchy.specs.Shapes.{IsResolved}
use Rattle.program_model.specs.ProgramRules.{is_well_formed}
use Rattle.if_text.specs.Items.{Item, plain_of, ifs_of}
use Rattle.if_text.specs.Readings.{AreRead}
use Rattle.if_rules.specs.Added.{IsSoFar, left_of}
use Rattle.if_rules.specs.Listed.{AreInstances}
use Rattle.if_rules.proofs.fire.settle.Given as goal

abbrev pub invariant-loop-added : goal.invariant-loop-added
invariant-loop-added l = (length l.added.items ≡ length l.instances) × (l.left ≡ left_of l.added.items) × (l.rules.ifs.items ≡ l.fn.rules.ifs.items)
    × ((items : List Item) → is_well_formed l.program ≡ true → IsResolved l.program l.hierarchy → AreRead items l.fn.rules → AreInstances l.program (ifs_of items) l.instances → IsSoFar l.program (plain_of items) (ifs_of items) l.instances l.added.items l.rules.plain.entries.items)

abbrev pub decreases-loop-added : goal.decreases-loop-added
decreases-loop-added l = l.left
