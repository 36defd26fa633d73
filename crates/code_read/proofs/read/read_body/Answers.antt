use Rattle.std.proofs.Common.{◌≤◌, length, arith}
use Rattle.std.proofs.lemmas.Result.{IfOk-weaker}
use Rattle.code_read.proofs.read.read_body.Goals as goal

pub returns-clause-few : goal.returns-clause-few
returns-clause-few c = IfOk-weaker c.body_at.result _ _ (λ body h. omega (arith, h, c.in_ok-places.ensures.few)) c.body_at.ensures.starts
