use Rattle.dex_write.specs.Codes.{Far}
use Rattle.dex_write.proofs.CodeLemmas.{laid_is_coded}
use Rattle.dex_write.proofs.codes.code_of.Goals as goal

pub returns-in-Err-FarBranch : goal.returns-in-Err-FarBranch
returns-in-Err-FarBranch c = Far c.in-Some.body c.in-Err-FarBranch.field-0-0 c.in-Some.is (rw c.in-Err-FarBranch.field-0-is at c.in-Err-FarBranch.ensures.fault) c.no_code-in-Err-FarBranch.ensures.code c.no_code-in-Err-FarBranch.ensures.lines

pub returns-in-Ok : goal.returns-in-Ok
returns-in-Ok c = laid_is_coded c.args.program.now c.args.numbers.now c.args.method.now c.in-Some.body c.in-Ok.layout c.laid_code.result c.in-Some.is c.in-Ok.ensures.ok c.laid_code.ensures.code c.laid_code.ensures.lines
