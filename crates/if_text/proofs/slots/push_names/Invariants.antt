use Rattle.std.proofs.Common.{◌≡◌, ◌++◌}
use Rattle.if_text.specs.Wildcards.{numbered}
use Rattle.if_text.specs.declared.slots.Source.TheVariants as source
use Rattle.if_text.proofs.slots.push_names.Given as goal

abbrev pub invariant-loop-place : goal.invariant-loop-place
invariant-loop-place l = l.out.items ≡ l.fn.out.items ++ numbered (λ i. source.Name i) 0 l.place
