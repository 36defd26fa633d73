use Rattle.std.proofs.Common.{◌≡◌, ◌∙◌, false, Some, slice_get, sym, rules}
use Rattle.dalvik_defs.specs.Naming.{named, named_class}
use Rattle.rule_defs.specs.Kept.{matches_class}
use Rattle.if_rules.proofs.MatchingLemmas.{adds_none, no_match}
use Rattle.if_rules.proofs.matching.push_matching.Goals as goal

pub returns-else-fits : goal.returns-else-fits
returns-else-fits c = λ k is standing.
    let there : slice_get c.args.program.now.classes c.args.place ≡ Some c.in-Some.class.now = search rules in
    let fails : matches_class (named c.args.program.now) k (named_class c.args.program.now c.in-Some.class.now) ≡ false =
    sym (c.in_ok-fits.ensures k is (c.is_under.ensures ∙ standing c.args.place c.in-Some.class.now there)) ∙ c.if-fits.false in
    adds_none c.args.program.now k c.args.place c.args.out.now.items (no_match c.args.program.now k c.args.place c.in-Some.class.now there fails)
