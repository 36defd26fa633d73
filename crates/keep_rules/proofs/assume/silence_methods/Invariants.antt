use Rattle.std.proofs.Common.{◌≡◌, true, drop}
use Rattle.program_model.specs.ProgramRules.{is_well_formed}
use Rattle.rule_text.specs.Rules.{AssumeRule}
use Rattle.rule_text.specs.Related.{IsAssumeOf}
use Rattle.keep_rules.specs.Grown.{Left}
use Rattle.keep_rules.proofs.SilentLemmas.{named_in}
use Rattle.keep_rules.proofs.assume.silence_methods.Given as goal

abbrev pub invariant-loop-number : goal.invariant-loop-number
invariant-loop-number l = (k : AssumeRule) → is_well_formed l.program ≡ true → IsAssumeOf l.rule k → Left (named_in l.program k (drop l.number-index l.numbers)) (named_in l.program k l.numbers) l.initial.silent.items l.silent.items
