use Rattle.std.proofs.Common.{sym}
use Rattle.const_prop.proofs.Finding.{quiet_there}
use Rattle.const_prop.proofs.results.Results.is_quiet_field.Goals as goal

pub returns-in-Some : goal.returns-in-Some
returns-in-Some c = λ k.
    let p = c.args.self.now.program.now in
    quiet_there p c.args.field (c.in-Some.class, c.in-Some.field-0-1) c.trivially_initialised.result (sym (c.in-Some.ensures.is p k.resolved)) (c.trivially_initialised.ensures.is p k.resolved)
