use Rattle.std.proofs.Common.{◌≡◌, drop}
use Rattle.thin_pass.specs.Plans.{class_origins}
use Rattle.thin_pass.proofs.notes.note_class.Given as goal

abbrev pub invariant-loop-place : goal.invariant-loop-place
invariant-loop-place l = class_origins (drop l.place l.methods) (drop l.place l.plan) l.origins.items ≡ class_origins l.methods l.plan l.initial.origins.items
