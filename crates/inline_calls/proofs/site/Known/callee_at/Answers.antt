use Rattle.std.proofs.Common.{sym, ap, ◌∙◌}
use Rattle.std.specs.Option.{option_copied}
use Rattle.inline_calls.proofs.Callees.{no_method}
use Rattle.inline_calls.proofs.site.Known.callee_at.Goals as goal

pub returns-in-None-clause-none : goal.returns-in-None-clause-none
returns-in-None-clause-none c = no_method _ (sym c.method_at.ensures ∙ ap option_copied c.in-None.is)
