use Rattle.std.proofs.Common.{◌≡◌, take}
use Rattle.staticise.specs.Loosened.{names_with}
use Rattle.staticise.proofs.pass.give_protos.Given as goal

abbrev pub invariant-loop-place : goal.invariant-loop-place
invariant-loop-place l = l.names ≡ names_with (take l.place l.protos) l.initial.names
