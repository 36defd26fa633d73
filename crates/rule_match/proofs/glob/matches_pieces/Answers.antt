use Rattle.std.proofs.Common.{◌∙◌, ◌+◌, ap, length, false}
use Rattle.std.proofs.lemmas.List.{length-replicate}
use Rattle.rule_match.proofs.GlobLemmas.{blank_is}
use Rattle.rule_match.proofs.glob.matches_pieces.Goals as goal

pub matches_by_row-requires : goal.matches_by_row-requires
matches_by_row-requires c = record {
  size = ap length (c.as_mut_slice.ensures.value ∙ c.in_ok-clear.ensures) ∙ length-replicate (length c.args.text.now + 1) false;
  blank = blank_is _ (length c.args.text.now + 1) (c.as_mut_slice.ensures.value ∙ c.in_ok-clear.ensures);
}
