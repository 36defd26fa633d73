use Rattle.std.proofs.lemmas.Result.{err_from_is_err_and}
use Rattle.dex_read.proofs.Counting.{counts_type_list}
use Rattle.dex_read.proofs.Limits.{handed_on}
use Rattle.dex_read.proofs.below.types_of.Goals as goal

pub returns-in_err-read_type_list-clause-counts : goal.returns-in_err-read_type_list-clause-counts
returns-in_err-read_type_list-clause-counts c =
    let p = err_from_is_err_and c.from_residual.result c.from_residual.ensures.1 in
    rw (p.1, p.2) (handed_on _ _ c.in_err-read_type_list.ensures.gives (counts_type_list _ _ _ _))
