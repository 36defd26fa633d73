use Rattle.value_ops.proofs.Kept.{unary_so, longs_so, floats_so, stored_so}
use Rattle.value_ops.proofs.laws.others_hold.Goals as goal

pub returns-clause-unary : goal.returns-clause-unary
returns-clause-unary c = unary_so

pub returns-clause-longs : goal.returns-clause-longs
returns-clause-longs c = longs_so

pub returns-clause-floats : goal.returns-clause-floats
returns-clause-floats c = floats_so

pub returns-clause-stored : goal.returns-clause-stored
returns-clause-stored c = stored_so
