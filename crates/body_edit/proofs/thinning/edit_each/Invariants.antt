use Rattle.std.proofs.Common.{◌≡◌, take}
use Rattle.body_edit.specs.Fates.{fates_of, all_edited}
use Rattle.body_edit.specs.Places.{place_in}
use Rattle.body_edit.proofs.thinning.edit_each.Given as goal

abbrev pub invariant-loop-position : goal.invariant-loop-position
invariant-loop-position l = l.insns ≡ all_edited (place_in l.places) (fates_of (take l.position l.fates)) l.initial.insns
