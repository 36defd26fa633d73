use Rattle.std.proofs.Common.{◌≡◌, [], ◌∷◌, ◌++◌, sym, subst, rules}
use Rattle.rule_text.specs.Reads.{Reads, ReadsEach}
use Rattle.rule_text.specs.Related.{IsConditionOf}
use Rattle.rule_text.specs.Spelling.{is_member_condition, condition_words}
use Rattle.rule_text.proofs.ReadLemmas.{reads_more}
use Rattle.rule_text.proofs.RefusalLemmas.{passed}
use Rattle.rule_text.proofs.LineRefusals.{behind_conditions}
use Rattle.rule_text.proofs.parse_member.read_conditions.Goals as goal

pub loop-conditions-preserved : goal.loop-conditions-preserved
loop-conditions-preserved c =
    let is : c.push.new.self.items ≡ c.loop-conditions.conditions.items ++ c.in-Some.condition ∷ [] = search rules in
    let one : Reads IsConditionOf is_member_condition condition_words c.args.tokens.now c.loop-conditions.at c.read_condition.new.at c.in-Some.condition = search rules in (
      search rules,
      search rules,
      subst (λ items. ReadsEach IsConditionOf is_member_condition condition_words c.args.tokens.now c.args.at.now c.read_condition.new.at items) (sym is)
          (reads_more IsConditionOf is_member_condition condition_words c.args.tokens.now c.args.at.now c.loop-conditions.at c.read_condition.new.at c.loop-conditions.conditions.items c.in-Some.condition c.loop-conditions.invariant.2 one),
    )

pub returns-in_err-condition-clause-halt : goal.returns-in_err-condition-clause-halt
returns-in_err-condition-clause-halt c =
    passed c.from_residual.result c.in_err-condition.field-0.0 c.from_residual.ensures.1 (behind_conditions c.args.tokens.now c.args.at.now c.loop-conditions.at c.read_condition.new.at c.loop-conditions.conditions.items c.loop-conditions.invariant.2) c.in_err-condition.ensures.halt
