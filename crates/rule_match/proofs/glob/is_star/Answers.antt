use Rattle.std.proofs.Common.{arith, ◌∙◌, ap}
use Rattle.std.proofs.lemmas.Grind.{common_steps}
use Rattle.rule_match.specs.Rows.{is_lone}
use Rattle.rule_match.proofs.GlobLemmas.{star_here}
use Rattle.rule_match.proofs.glob.is_star.Goals as goal

pub returns-then-is_empty : goal.returns-then-is_empty
returns-then-is_empty c = λ w is. star_here c.args.pattern.now w c.is_lone_star.result (c.is_lone_star.ensures ∙ ap is_lone c.as_slice.ensures.value) (grind (arith, common_steps)) is
