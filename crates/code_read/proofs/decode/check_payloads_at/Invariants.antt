use Rattle.std.proofs.Common.{◌≡◌, drop}
use Rattle.code_read.specs.Decoded.{check_payloads}
use Rattle.code_read.specs.Seen.{seen}
use Rattle.code_read.proofs.decode.check_payloads_at.Given as goal

abbrev pub invariant-loop-start : goal.invariant-loop-start
invariant-loop-start l = check_payloads (seen l.places) l.left (drop l.start-index l.starts) ≡ check_payloads (seen l.places) 67108864 l.starts
