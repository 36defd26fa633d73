use Rattle.std.proofs.Common.{◌≡◌, ◌≤◌, length, drop, true}
use Rattle.std.specs.List.{list_all}
use Rattle.rule_text.specs.Bytes.{in_run}
use Rattle.rule_text.proofs.lexer.whole_len.Given as goal

-- what is left out is part of a run
abbrev pub invariant-loop-len : goal.invariant-loop-len
invariant-loop-len l = (l.len ≤ length l.fn.text) × (list_all in_run (drop l.len l.fn.text) ≡ true)

abbrev pub decreases-loop-len : goal.decreases-loop-len
decreases-loop-len l = l.len
