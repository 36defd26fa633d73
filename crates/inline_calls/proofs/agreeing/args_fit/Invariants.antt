use Rattle.std.proofs.Common.{◌≡◌, drop}
use Rattle.inline_calls.specs.Candidates.{args_fit}
use Rattle.inline_calls.proofs.agreeing.args_fit.Given as goal

abbrev pub invariant-loop-kind : goal.invariant-loop-kind
invariant-loop-kind l = args_fit l.program (drop l.kind-index l.kinds) l.rest ≡ args_fit l.program l.kinds l.args
