use Rattle.std.proofs.Common.{◌≡◌, drop}
use Rattle.dex_write.specs.Codes.{codes_behind}
use Rattle.dex_write.proofs.codes.codes_behind.Given as goal

abbrev pub invariant-loop-part : goal.invariant-loop-part
invariant-loop-part l = codes_behind l.next (drop l.part-index l.parts) ≡ codes_behind l.at l.parts
