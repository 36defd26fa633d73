use Rattle.std.proofs.Common.{drop, []}
use Rattle.keep_rules.specs.View.{IsReady}
use Rattle.keep_rules.specs.Described.{PairsLeft}
use Rattle.keep_rules.proofs.DescribedLemmas.{class_pairs}
use Rattle.keep_rules.proofs.describe.pairs_of.Given as goal

abbrev pub invariant-loop-class : goal.invariant-loop-class
invariant-loop-class l = IsReady l.view → PairsLeft l.view.program.now (class_pairs l.view.program.now l.fields l.methods (drop l.class-index l.view.program.now.classes)) (class_pairs l.view.program.now l.fields l.methods l.view.program.now.classes) [] l.pairs.items
