use Rattle.std.proofs.Common.{◌∙◌}
use Rattle.copy_prop.proofs.Spoilt.{spoilt_found}
use Rattle.copy_prop.proofs.searches.spoilt.Goals as goal

pub returns : goal.returns
returns c = spoilt_found c.args.body.now c.args.steps.now c.requires.steps c.args.copy.now c.as_slice.result.now c.as_slice-2.result.now c.in_ok-marks.marks.items c.as_slice.ensures.value (c.as_slice-2.ensures.value ∙ c.in_ok-seeds.ensures) c.in_ok-marks.ensures.long c.in_ok-marks.ensures.exact
