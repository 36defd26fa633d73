use Rattle.std.proofs.Common.{◌≡◌, drop}
use Rattle.thin_pass.specs.Plans.{all_origins}
use Rattle.thin_pass.proofs.notes.note_all.Given as goal

abbrev pub invariant-loop-place : goal.invariant-loop-place
invariant-loop-place l = all_origins (drop l.place l.classes) (drop l.place l.plan) l.origins.items ≡ all_origins l.classes l.plan l.initial.origins.items
