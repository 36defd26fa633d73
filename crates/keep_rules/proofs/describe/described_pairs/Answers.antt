use Rattle.keep_rules.proofs.DescribedLemmas.{class_pairs, pairs_sorted}
use Rattle.keep_rules.proofs.describe.described_pairs.Goals as goal

pub returns : goal.returns
returns c = λ ready. let p = c.args.view.now.program.now in pairs_sorted p (class_pairs p c.args.fields.now c.args.methods.now p.classes) c.in_ok-pairs.pairs.items _ (c.in_ok-pairs.ensures ready) c.in_ok-sort.ensures.permutation
