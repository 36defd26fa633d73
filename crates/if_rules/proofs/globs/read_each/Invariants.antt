use Rattle.std.proofs.Common.{◌≡◌, ◌++◌, length, map}
use Rattle.rule_text.specs.Glob.{read_of}
use Rattle.if_rules.proofs.globs.read_each.Given as goal

abbrev pub invariant-loop-rest : goal.invariant-loop-rest
invariant-loop-rest l = l.out.items ++ map (read_of l.fn.named) l.rest ≡ map (read_of l.fn.named) l.fn.units

abbrev pub decreases-loop-rest : goal.decreases-loop-rest
decreases-loop-rest l = length l.rest
