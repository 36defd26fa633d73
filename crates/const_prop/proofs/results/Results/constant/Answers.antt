use Rattle.std.proofs.Common.{refl}
use Rattle.const_prop.proofs.Found.{constant_found}
use Rattle.const_prop.proofs.results.Results.constant.Goals as goal

pub returns-clause-found : goal.returns-clause-found
returns-clause-found c = constant_found c.args.position c.args.insn.now _ c.in_ok-number.number refl c.in_ok-constant.ensures.is c.in_ok-constant.ensures.written refl
