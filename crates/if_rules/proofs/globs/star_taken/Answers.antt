use Rattle.std.proofs.Common.{◌≡◌, ◌∙◌, false, drop, ap, sym, rules}
use Rattle.rule_text.specs.Glob.{matches_of}
use Rattle.if_rules.proofs.GlobLemmas.{behind_all, star_more}
use Rattle.if_rules.proofs.globs.star_taken.Goals as goal

pub loop-at-preserved : goal.loop-at-preserved
loop-at-preserved c =
    let is : matches_of c.args.named c.args.behind.now (drop c.loop-at.at c.args.text.now) ≡ false = ap (matches_of c.args.named c.args.behind.now) (sym (behind_all c.args.text.now c.loop-at.at)) ∙ sym c.in_ok-fits.ensures ∙ c.if-fits.false in
    (search rules, star_more (matches_of c.args.named c.args.behind.now) c.args.text.now c.loop-at.at (search rules) is c.loop-at.invariant.1)
