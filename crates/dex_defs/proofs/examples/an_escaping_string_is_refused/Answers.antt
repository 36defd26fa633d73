use Rattle.dex_defs.proofs.Refused.{no_escape}
use Rattle.dex_defs.proofs.examples.an_escaping_string_is_refused.Goals as goal

pub returns-clause-refused : goal.returns-clause-refused
returns-clause-refused c = λ p v. no_escape p v
