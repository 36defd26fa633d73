use Rattle.std.proofs.Common.{◌≡◌, [], ◌∷◌, ◌++◌, refl, sym, subst, rules, true}
use Rattle.rule_text.specs.Reads.{Reads, ReadsEach}
use Rattle.rule_text.specs.Related.{IsConditionOf}
use Rattle.rule_text.specs.Spelling.{is_plain_condition, condition_words}
use Rattle.rule_text.specs.declared.rules.Condition.TheVariants as condition
use Rattle.rule_text.proofs.ReadLemmas.{reads_more}
use Rattle.rule_text.proofs.MemberLemmas.{any_access}
use Rattle.rule_text.proofs.RefusalLemmas.{passed}
use Rattle.rule_text.proofs.LineRefusals.{bare_bang, behind_accesses}
use Rattle.rule_text.proofs.parse_member.read_accesses.Goals as goal

pub loop-conditions-preserved : goal.loop-conditions-preserved
loop-conditions-preserved c =
    let is : c.push.new.self.items ≡ c.loop-conditions.conditions.items ++ condition.Access c.in-Some.negated c.in-Some.access ∷ [] = search rules in
    let one : Reads IsConditionOf is_plain_condition condition_words c.args.tokens.now c.loop-conditions.at c.read_access.new.at (condition.Access c.in-Some.negated c.in-Some.access) =
    any_access is_plain_condition c.args.tokens.now c.loop-conditions.at c.read_access.new.at c.in-Some.negated c.in-Some.access refl (search rules) in (
      search rules,
      search rules,
      subst (λ items. ReadsEach IsConditionOf is_plain_condition condition_words c.args.tokens.now c.args.at.now c.read_access.new.at items) (sym is)
          (reads_more IsConditionOf is_plain_condition condition_words c.args.tokens.now c.args.at.now c.loop-conditions.at c.read_access.new.at c.loop-conditions.conditions.items (condition.Access c.in-Some.negated c.in-Some.access) c.loop-conditions.invariant.2 one),
    )

pub returns-in_err-negated-clause-halt : goal.returns-in_err-negated-clause-halt
returns-in_err-negated-clause-halt c =
    passed c.from_residual.result c.in_err-negated.field-0.0 c.from_residual.ensures.1 (λ bare. behind_accesses c.args.tokens.now c.args.at.now c.loop-conditions.at c.read_access.new.at c.loop-conditions.conditions.items c.loop-conditions.invariant.2 (bare_bang true c.args.tokens.now c.loop-conditions.at c.read_access.new.at bare)) c.in_err-negated.ensures.stop
