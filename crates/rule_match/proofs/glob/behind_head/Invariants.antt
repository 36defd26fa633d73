use Rattle.std.proofs.Common.{◌≡◌, drop}
use Rattle.rule_text.specs.Glob.{behind_of}
use Rattle.rule_match.proofs.glob.behind_head.Given as goal

abbrev pub invariant-loop-wanted : goal.invariant-loop-wanted
invariant-loop-wanted l = behind_of l.named l.fn.text l.head ≡ behind_of l.named l.rest (drop l.wanted-index l.head)
