use Rattle.std.proofs.Common.{ap, is_none}
use Rattle.dalvik_state.proofs.gifts.is_free.Goals as goal

pub returns-in-Some : goal.returns-in-Some
returns-in-Some c = λ r k. ap is_none (c.in-Some.ensures r k)

pub returns-in-None : goal.returns-in-None
returns-in-None c = λ r k. ap is_none (c.in-None.ensures r k)
