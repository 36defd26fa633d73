use Rattle.std.proofs.Common.{◌∙◌, sym}
use Rattle.keep_rules.proofs.KeepLemmas.{keeps_nothing}
use Rattle.keep_rules.proofs.keep.keep_by.Goals as goal

pub returns-then-not-keeping : goal.returns-then-not-keeping
returns-then-not-keeping c = λ k ready is. keeps_nothing c.args.view.now.program.now k c.args.marks.now (sym (c.keeps-keeping.ensures k is) ∙ c.if-not-keeping.true)

pub returns : goal.returns
returns c = λ k ready is. c.keep_below.ensures k ready is (sym (c.keeps-keeping.ensures k is) ∙ c.if-not-keeping.false)
