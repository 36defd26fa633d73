use Rattle.inline_calls.proofs.Rooms.{is_short_by, is_long_by, far_by}
use Rattle.inline_calls.proofs.room.is_short.Goals as goal

pub returns-in_ok-has-in-Ok-clause-short : goal.returns-in_ok-has-in-Ok-clause-short
returns-in_ok-has-in-Ok-clause-short c = is_short_by c.args.numbers.now c.args.body.now c.in-Ok.layout c.in-Ok.ensures.ok c.in_ok-has-in-Ok.has c.in_ok-has-in-Ok.ensures

pub returns-in_ok-has-in-Ok-clause-long : goal.returns-in_ok-has-in-Ok-clause-long
returns-in_ok-has-in-Ok-clause-long c = is_long_by c.args.numbers.now c.args.body.now c.in-Ok.layout c.in-Ok.ensures.ok c.in_ok-has-in-Ok.has c.in_ok-has-in-Ok.ensures

pub returns-in-Err-FarBranch-clause-long : goal.returns-in-Err-FarBranch-clause-long
returns-in-Err-FarBranch-clause-long c = λ e. far_by c.args.numbers.now c.args.body.now c.in-Err-FarBranch.field-0 c.in-Err-FarBranch.field-0-0 c.in-Err-FarBranch.field-0-is c.in-Err-FarBranch.ensures.fault
