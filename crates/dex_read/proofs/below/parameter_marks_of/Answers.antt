use Rattle.std.proofs.lemmas.Result.{err_from_is_err_and}
use Rattle.dex_read.proofs.Counting.{counts_parameters}
use Rattle.dex_read.proofs.Limits.{handed_on}
use Rattle.dex_read.proofs.below.parameter_marks_of.Goals as goal

pub returns-in_err-read_parameter_annotations-clause-counts : goal.returns-in_err-read_parameter_annotations-clause-counts
returns-in_err-read_parameter_annotations-clause-counts c =
    let p = err_from_is_err_and c.from_residual.result c.from_residual.ensures.1 in
    rw (p.1, p.2) (handed_on _ _ c.in_err-read_parameter_annotations.ensures.gives (counts_parameters _ _ _ _))
