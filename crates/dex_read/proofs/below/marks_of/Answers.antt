use Rattle.std.proofs.lemmas.Result.{err_from_is_err_and}
use Rattle.dex_read.proofs.Counting.{counts_marks}
use Rattle.dex_read.proofs.Limits.{handed_on}
use Rattle.dex_read.proofs.below.marks_of.Goals as goal

pub returns-in_err-read_annotations_counted-clause-counts : goal.returns-in_err-read_annotations_counted-clause-counts
returns-in_err-read_annotations_counted-clause-counts c =
    let p = err_from_is_err_and c.from_residual.result c.from_residual.ensures.1 in
    rw (p.1, p.2) (handed_on _ _ c.in_err-read_annotations_counted.ensures.gives (counts_marks _ _ _ _))
