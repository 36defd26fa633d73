use Rattle.std.proofs.lemmas.Result.{err_from_is_err_and}
use Rattle.dex_read.proofs.Counting.{counts_whole_value}
use Rattle.dex_read.proofs.Limits.{handed_on}
use Rattle.dex_read.proofs.below.value_of.Goals as goal

pub returns-in_err-read_value_counted-clause-counts : goal.returns-in_err-read_value_counted-clause-counts
returns-in_err-read_value_counted-clause-counts c =
    let p = err_from_is_err_and c.from_residual.result c.from_residual.ensures.1 in
    rw (p.1, p.2) (handed_on _ _ c.in_err-read_value_counted.ensures.gives (counts_whole_value _ _ _))
