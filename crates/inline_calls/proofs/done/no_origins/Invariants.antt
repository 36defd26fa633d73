use Rattle.std.proofs.Common.{◌≡◌, [], replicate}
use Rattle.inline_calls.proofs.done.no_origins.Given as goal

abbrev pub invariant-loop : goal.invariant-loop
invariant-loop l = l.origins.items ≡ replicate l.counter []
