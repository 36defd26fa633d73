use Rattle.std.proofs.Common.{◌≡◌, ◌++◌, drop}
use Rattle.relax.specs.Payloads.{payload_places, payload_end}
use Rattle.relax.proofs.payload.payloads_of.Given as goal

abbrev pub invariant-loop-insn : goal.invariant-loop-insn
invariant-loop-insn l = record {
  places : l.places.items ++ payload_places l.at (drop l.insn-index l.insns) ≡ payload_places l.end l.insns;
  end : payload_end l.at (drop l.insn-index l.insns) ≡ payload_end l.end l.insns;
}
