use Rattle.value_ops.proofs.Asked.{keyed_so, unkeyed_so}
use Rattle.value_ops.proofs.Keys.{unpacked_is}
use Rattle.value_ops.proofs.laws.switches_keep.Goals as goal

pub returns-clause-key : goal.returns-clause-key
returns-clause-key c = keyed_so

pub returns-clause-none : goal.returns-clause-none
returns-clause-none c = unkeyed_so

pub returns-clause-packed : goal.returns-clause-packed
returns-clause-packed c = unpacked_is
