use Rattle.std.proofs.Common.{◌≡◌, take}
use Rattle.rewrite_pass.specs.Plans.{edited}
use Rattle.rewrite_pass.proofs.write.write_insns.Given as goal

abbrev pub invariant-loop-edit : goal.invariant-loop-edit
invariant-loop-edit l = l.insns ≡ edited (take l.edit-index l.edits) l.initial.insns
