use Rattle.std.proofs.Common.{◌≡◌, drop}
use Rattle.code_write.specs.Payloads.{with_payloads}
use Rattle.code_write.specs.Code.{spots_of}
use Rattle.code_write.proofs.payload.push_payloads.Given as goal

abbrev pub invariant-loop-at : goal.invariant-loop-at
invariant-loop-at l = with_payloads (spots_of l.layout) l.out.items l.at (drop l.at l.insns) ≡ with_payloads (spots_of l.layout) l.fn.out.items 0 l.insns
