use Rattle.std.proofs.Common.{◌∙◌}
use Rattle.compact.proofs.clash.is_among.Goals as goal

pub returns-then-register-lt64 : goal.returns-then-register-lt64
returns-then-register-lt64 c = c.has.ensures ∙ (rw c.in-Some.is at c.requires) c.args.register c.if-register-lt64.true
