use Rattle.std.proofs.Common.{◌≡◌, take}
use Rattle.compact.specs.Clashes.{hits_of}
use Rattle.compact.proofs.clash.hits.Given as goal

abbrev pub invariant-loop-name : goal.invariant-loop-name
invariant-loop-name l = l.row.items ≡ hits_of l.live l.insns (take l.name-index l.names) l.writers
