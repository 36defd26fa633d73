use Rattle.std.proofs.Common.{arith, ◌∙◌}
use Rattle.rule_match.specs.Rows.{one_at}
use Rattle.rule_match.proofs.RowLemmas.{one_row, one_step, one_written, all_written}
use Rattle.rule_match.proofs.glob.row_of_one.Goals as goal

pub loop-at-preserved : goal.loop-at-preserved
loop-at-preserved c =
    let size = c.loop-at.invariant.size in
    one_written (one_at c.args.text.now c.args.named c.args.row.now) c.args.row.now c.loop-at.row c.loop-at.at c.is_one.result c.loop-at.invariant (omega (arith, size)) (c.is_one.ensures ∙ one_step c.args.text.now c.args.named c.args.row.now c.loop-at.row c.loop-at.at c.loop-at.invariant)

pub returns-clause-is : goal.returns-clause-is
returns-clause-is c = λ f is. one_row f c.args.text.now c.args.named c.args.row.now _ is (all_written _ _ _ _ _ c.loop-at.invariant (omega arith) c.requires)
