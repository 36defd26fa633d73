use Rattle.std.proofs.Common.{◌≤◌, ◌-◌, length}
use Rattle.std.specs.List.{list_all}
use Rattle.rule_text.specs.Reads.{Reads}
use Rattle.rule_text.specs.Related.{AreEach, IsMemberOf}
use Rattle.rule_text.specs.Spelling.{is_member_rule}
use Rattle.rule_text.proofs.MemberLemmas.{opened}
use Rattle.rule_text.proofs.parse_member.read_members.Given as goal

-- these lines were read behind the brace
abbrev pub invariant-loop-alloc : goal.invariant-loop-alloc
invariant-loop-alloc l = (l.initial.at ≤ l.at) × (l.at ≤ length l.tokens) × Reads (AreEach IsMemberOf) (list_all is_member_rule) opened l.tokens l.fn.at l.at l.members.items

abbrev pub decreases-loop-alloc : goal.decreases-loop-alloc
decreases-loop-alloc l = length l.tokens - l.at
