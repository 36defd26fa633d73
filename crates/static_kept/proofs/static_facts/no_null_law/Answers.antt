use Rattle.static_kept.proofs.NoNull.{hold_no_null}
use Rattle.static_kept.proofs.static_facts.no_null_law.Goals as goal

pub returns : goal.returns
returns c = λ p o f floats facts t script tabled fit names. hold_no_null p o f floats facts t script tabled fit names
