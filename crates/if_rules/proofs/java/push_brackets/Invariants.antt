use Rattle.std.proofs.Common.{◌≡◌, ◌++◌}
use Rattle.rule_text.specs.Related.{brackets}
use Rattle.if_rules.proofs.java.push_brackets.Given as goal

abbrev pub invariant-loop : goal.invariant-loop
invariant-loop l = l.out.items ≡ l.fn.out.items ++ brackets l.counter
