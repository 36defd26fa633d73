use Rattle.std.proofs.Common.{arith, ◌∙◌, length}
use Rattle.std.specs.Prelude.{true}
use Rattle.std.proofs.lemmas.List.{length-set}
use Rattle.rule_match.proofs.GlobLemmas.{rows_begin}
use Rattle.rule_match.proofs.glob.fill_row.Goals as goal

pub loop-at-init : goal.loop-at-init
loop-at-init c = (omega arith, length-set c.args.row.now (length c.args.text.now) true ∙ c.requires.size, rows_begin c.args.named c.args.pieces.now c.args.text.now c.args.row.now c.requires.blank c.requires.size)
