use Rattle.std.proofs.Common.{◌≡◌, [], ◌∷◌, ◌++◌, subst, rules, true}
use Rattle.rule_text.specs.Reads.{Reads}
use Rattle.rule_text.specs.Related.{IsMemberOf}
use Rattle.rule_text.specs.Spelling.{is_assumed_rule, member_rule_words}
use Rattle.rule_text.proofs.MemberLemmas.{no_lines, more_lines, closed}
use Rattle.rule_text.proofs.RefusalLemmas.{passed, anyway}
use Rattle.rule_text.proofs.LineRefusals.{no_brace, in_line}
use Rattle.rule_text.proofs.parse_member.read_assumed_members.Goals as goal

pub loop-alloc-init : goal.loop-alloc-init
loop-alloc-init c = (search rules, search rules, no_lines is_assumed_rule c.args.tokens.now c.args.at.now c.expect_word.new.at c.new-members.result.items c.new-members.ensures.items (search rules))

pub loop-alloc-preserved : goal.loop-alloc-preserved
loop-alloc-preserved c =
    let is : c.push.new.self.items ≡ c.loop-alloc.members.items ++ c.in_ok-read_assumed.field-0 ∷ [] = search rules in
    let same : c.accept.new.at ≡ c.loop-alloc.at = search rules in
    let one : Reads IsMemberOf is_assumed_rule member_rule_words c.args.tokens.now c.accept.new.at c.read_assumed.new.at c.in_ok-read_assumed.field-0 = search rules in (
      search rules,
      search rules,
      more_lines is_assumed_rule c.args.tokens.now c.args.at.now c.loop-alloc.at c.read_assumed.new.at c.loop-alloc.members.items c.push.new.self.items c.in_ok-read_assumed.field-0 is c.loop-alloc.invariant.2
          (subst (λ at. Reads IsMemberOf is_assumed_rule member_rule_words c.args.tokens.now at c.read_assumed.new.at c.in_ok-read_assumed.field-0) same one),
    )

pub returns-clause-step : goal.returns-clause-step
returns-clause-step c = closed is_assumed_rule c.args.tokens.now c.args.at.now c.loop-alloc.at c.accept.new.at c.loop-alloc.members.items c.loop-alloc.invariant.2 (search rules)

pub returns-in_err-expect_word-clause-halt : goal.returns-in_err-expect_word-clause-halt
returns-in_err-expect_word-clause-halt c =
    anyway c.from_residual.result (no_brace true c.args.tokens.now c.args.at.now c.expect_word.new.at (search rules) (search rules))

pub returns-in_err-read_assumed-clause-halt : goal.returns-in_err-read_assumed-clause-halt
returns-in_err-read_assumed-clause-halt c =
    passed c.from_residual-in_err-read_assumed.result c.in_err-read_assumed.field-0.0 c.from_residual-in_err-read_assumed.ensures.1 (in_line true c.args.tokens.now c.args.at.now c.loop-alloc.at c.accept.new.at c.read_assumed.new.at c.loop-alloc.members.items c.loop-alloc.invariant.2 (search rules) (search rules)) c.in_err-read_assumed.ensures.halt
